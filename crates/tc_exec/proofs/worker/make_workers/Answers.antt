use Rattle.std.{proofs.{Common.{rules, arith, ◌≡◌, ◌∙◌, [], ◌∷◌, ap, length, subst}, lemmas.List.length-append}, specs.Vec.vec_len}
use Rattle.tc_exec.{specs.Gates.IsPassed, proofs.{Gates.{next_above, passed_more, stopped_at}, Lists.moved}}
use Rattle.tc_exec.proofs.worker.make_workers.Goals as goal

pub loop-behaviour-preserved : goal.loop-behaviour-preserved
loop-behaviour-preserved g c =
    let was = c.loop-behaviour.invariant in
    let run : c.in-Some-worker_of.worker.handle.promise.run ≡ c.in-Some-next.ticket = c.in-Some-worker_of.ensures.run in
    let behaviour : c.in-Some-worker_of.worker.handle.promise.behaviour.value ≡ c.in-Some.behaviour = c.in-Some-worker_of.ensures.behaviour in
    let next = next_above (λ w. w.handle.promise.run) c.loop-behaviour.workers.items _ _ _ c.in-Some-next.ticket c.requires.numbered was.3 c.in-Some-next.ensures.cases.0 in
    let more = ap length c.push_reserved.ensures.items ∙ length-append c.loop-behaviour.workers.items (c.in-Some-worker_of.worker ∷ []) in (
      search rules,
      search rules,
      search rules,
      rw c.push_reserved.ensures.items (moved _ _ _ _ _ _ _ was.3 c.in-Some-next.ensures.cases.0 run),
      rw c.push_reserved.ensures.items (moved _ _ _ _ _ _ _ was.4 c.in-Some.ensures.steps.0 behaviour),
      passed_more g.G.Gate.asks (length c.loop-behaviour.workers.items) _ c.run.result c.allow.result _ _ _ was.5 c.allow.ensures (search rules) (c.run.ensures ∙ next.0) more,
    )

pub returns-then-not-allow-clause-stopped : goal.returns-then-not-allow-clause-stopped
returns-then-not-allow-clause-stopped g c = λ _.
    let was = c.loop-behaviour.invariant in
    let next = next_above (λ w. w.handle.promise.run) c.loop-behaviour.workers.items _ _ _ c.in-Some-next.ticket c.requires.numbered was.3 c.in-Some-next.ensures.cases.0 in
    stopped_at g.G.Gate.asks (length c.loop-behaviour.workers.items) _ c.run.result c.allow.result _ c.loop-behaviour.gate _ was.5 c.allow.ensures (c.run.ensures ∙ next.0) next.1

pub returns-in_default-worker_of-clause-stopped : goal.returns-in_default-worker_of-clause-stopped
returns-in_default-worker_of-clause-stopped g c = λ _.
    let was = c.loop-behaviour.invariant in
    let next = next_above (λ w. w.handle.promise.run) c.loop-behaviour.workers.items _ _ _ c.in-Some-next.ticket c.requires.numbered was.3 c.in-Some-next.ensures.cases.0 in
    stopped_at g.G.Gate.asks (length c.loop-behaviour.workers.items) _ c.run.result c.allow.result _ c.loop-behaviour.gate _ was.5 c.allow.ensures (c.run.ensures ∙ next.0) next.1

pub returns-clause-asked : goal.returns-clause-asked
returns-clause-asked g c = λ _.
    let count : vec_len c.loop-behaviour.workers ≡ vec_len c.args.tickets = search rules in
    let all : length c.loop-behaviour.workers.items ≡ length c.args.tickets.items = omega (arith, count) in
    subst (λ n. IsPassed g.G.Gate.asks n c.args.gate.now c.loop-behaviour.gate) all c.loop-behaviour.invariant.5
