use Rattle.std.proofs.{Common.{◌≡◌, ◌<◌, ◌++◌, ◌∷◌, ◌∙◌, [], All, length, map, ap, arith}, lemmas.List.{length-set, map-append}}
use Rattle.tc_book.{specs.Inside.run_log, proofs.ByRun.{after_none, after_last, within_before, within_last}}
use Rattle.tc_book.proofs.parts.logs_by_run.Goals as goal

pub loop-left-init : goal.loop-left-init
loop-left-init c = record {
  len = c.in_ok-parts.ensures.len;
  within = c.requires.within;
  has = after_none c.in_ok-parts.parts.items (map run_log c.args.lefts.items) c.args.behaviours c.in_ok-parts.ensures.none;
}

pub loop-left-preserved : goal.loop-left-preserved
loop-left-preserved c =
    let split : c.loop-left.lefts.items ≡ c.pop.new.self.items ++ c.in-Some.left ∷ [] = c.in-Some.ensures.items in
    let logs : map run_log c.loop-left.lefts.items ≡ map run_log c.pop.new.self.items ++ run_log c.in-Some.left ∷ [] = ap (map run_log) split ∙ map-append run_log c.pop.new.self.items (c.in-Some.left ∷ []) in
    let within : All (λ r. r.run.0 < c.args.behaviours) (c.pop.new.self.items ++ c.in-Some.left ∷ []) = rw split at c.loop-left.invariant.within in
    let last : c.in-Some.left.run.0 < c.args.behaviours = within_last c.args.behaviours c.pop.new.self.items c.in-Some.left within in
    let place : c.in-Some.left.run.0 < length c.loop-left.parts.items = omega (arith, last, c.loop-left.invariant.len) in
    record {
      len = length-set c.loop-left.parts.items c.from.result c.into_log-log.result.1 ∙ c.loop-left.invariant.len;
      within = within_before c.args.behaviours c.pop.new.self.items c.in-Some.left within;
      has = rw (c.from.ensures, c.into_log-log.ensures.0, c.into_log-log.ensures.1) (after_last c.loop-left.parts.items (map run_log c.pop.new.self.items) (run_log c.in-Some.left) c.args.behaviours _ place (rw logs at c.loop-left.invariant.has));
    }
