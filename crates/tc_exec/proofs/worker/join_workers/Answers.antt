use Rattle.std.proofs.Common.{[], ◌∷◌, ◌++◌, refl, rules, arith}
use Rattle.tc_exec.proofs.{Lemmas.Calls.{first_kept, joined, joined_none}, Lists.passed}
use Rattle.tc_exec.proofs.worker.join_workers.Goals as goal

pub loop-worker-init : goal.loop-worker-init
loop-worker-init g c = (search rules, search rules, ([], search rules, λ runs bs before. joined_none g.B.Callable.outcome runs bs _ before), λ d some. (some, refl))

pub loop-worker-preserved : goal.loop-worker-preserved
loop-worker-preserved g c =
    let was = c.loop-worker.invariant in (
      rw c.take.ensures.room (omega (arith, was.0, c.in-Some.ensures.cases.1, c.take.ensures.count)),
      omega (arith, was.1, c.in-Some.ensures.cases.1, c.take.ensures.count),
      (
        was.2.0 ++ c.in-Some.worker ∷ [],
        passed was.2.0 c.in-Some.worker _ _ _ was.2.1 c.in-Some.ensures.cases.0,
        (λ runs bs before.
            joined g.B.Callable.outcome (λ w. w.handle.promise.run) (λ w. w.handle.promise.behaviour.value) runs bs was.2.0 c.in-Some.worker c.join.result _ _
            (was.2.2 runs bs before) c.join.ensures c.take.ensures.left c.take.ensures.starved),
      ),
      (λ d some. first_kept d _ _ _ _ (was.3 d) c.take.ensures.left some),
    )

pub returns-clause-first : goal.returns-clause-first
returns-clause-first g c = λ d some. (c.loop-worker.invariant.3 d some).1
