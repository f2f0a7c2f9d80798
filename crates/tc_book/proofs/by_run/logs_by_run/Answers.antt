use Rattle.std.proofs.{Common.{◌≡◌, ◌∙◌, ◌∷◌, [], ◌++◌, length, arith, ap, refl}, lemmas.List.length-set}
use Rattle.tc_rules.specs.Prelude.{runs_end}
use Rattle.tc_book.proofs.InPlace.{end_of-last, has-none, has-last, has-all}
use Rattle.tc_book.proofs.by_run.logs_by_run.Goals as goal

pub loop-log-init : goal.loop-log-init
loop-log-init c =
    let len : length c.in_ok-by_run.by_run.items ≡ runs_end c.args.logs.now =
    omega (arith, c.in_ok-by_run.ensures.len, c.end_of.ensures, c.in_ok-by_run.by_run.ok.0) in
    record {
      len = len;
      within = omega (arith, len);
      has = has-none c.in_ok-by_run.by_run.items c.end_of.result _ c.args.logs.now (c.in_ok-by_run.ensures.items_if_clones_equal (λ y same. same)) refl;
    }

pub index_mut-requires : goal.index_mut-requires
index_mut-requires c =
    let split : c.loop-log.rest.now ≡ c.in-Some.before.now ++ c.in-Some.log.now ∷ [] = c.in-Some.ensures.cases.0 in
    omega (arith, ap runs_end split, end_of-last c.in-Some.before.now c.in-Some.log.now, c.loop-log.invariant.within, c.from.ensures)

pub loop-log-preserved : goal.loop-log-preserved
loop-log-preserved c =
    let split : c.loop-log.rest.now ≡ c.in-Some.before.now ++ c.in-Some.log.now ∷ [] = c.in-Some.ensures.cases.0 in
    let end = end_of-last c.in-Some.before.now c.in-Some.log.now in
    let len = length-set c.loop-log.by_run.items c.from.result c.as_slice.result in
    record {
      len = len ∙ c.loop-log.invariant.len;
      within = omega (arith, ap runs_end split, end, len, c.loop-log.invariant.within);
      has = rw c.from.ensures (has-last c.loop-log.by_run.items c.in-Some.before.now c.in-Some.log.now c.as_slice.result _ c.as_slice.ensures
          (omega (arith, ap runs_end split, end, c.loop-log.invariant.within)) (rw split at c.loop-log.invariant.has));
    }

pub returns-clause-each : goal.returns-clause-each
returns-clause-each c = has-all c.loop-log.by_run.items c.loop-log.rest.now c.args.logs.now c.in_default.ensures.cases c.loop-log.invariant.len c.loop-log.invariant.has
