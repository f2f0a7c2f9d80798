use Rattle.std.proofs.{Common.{rules, ◌≡◌, ◌<◌, ◌+◌, max, length, set, get_or, ap, sym, subst, ◌∙◌, arith}, lemmas.List.get_or_read}
use Rattle.tc_rules.specs.Prelude.{past_of}
use Rattle.tc_explore.{specs.Inside.Seen.IsCountedTo, proofs.Kept.counted_more}
use Rattle.tc_explore.proofs.findings.reach.Goals as goal

pub loop-run-preserved : goal.loop-run-preserved
loop-run-preserved c =
    let was = c.loop-run.invariant in
    let near : c.loop-run.run < length c.loop-run.reached.items = omega (arith, was.reached.as_many) in
    let here : c.from-at.result ≡ c.loop-run.run = search rules in
    let inside : c.from-at.result < length c.loop-run.reached.items = omega (arith, here, near) in
    let read : c.index.result.now ≡ get_or c.loop-run.reached.items c.from-at.result 0 = get_or_read c.loop-run.reached.items _ _ inside c.index.ensures 0 in
    let most : c.max.result ≡ max c.index.result.now c.carried.result = search rules in
    let is : c.max.result ≡ max (get_or c.loop-run.reached.items c.loop-run.run 0) c.carried.result = most ∙ ap (λ k. max k c.carried.result) (read ∙ ap (λ i. get_or c.loop-run.reached.items i 0) here) in
    let all : set c.loop-run.reached.items c.from-at.result c.max.result ≡ set c.loop-run.reached.items c.loop-run.run (max (get_or c.loop-run.reached.items c.loop-run.run 0) c.carried.result) =
    ap (λ i. set c.loop-run.reached.items i c.max.result) here ∙ ap (λ k. set c.loop-run.reached.items c.loop-run.run k) is in
    subst (λ r. IsCountedTo c.args.scripts.now c.args.reached.now.items r (past_of c.args.course.now) (c.loop-run.run + 1)) (sym all)
    (counted_more c.args.scripts.now c.args.reached.now.items c.loop-run.reached.items c.args.course.now c.loop-run.run c.carried.result c.requires.on near c.carried.ensures was)
