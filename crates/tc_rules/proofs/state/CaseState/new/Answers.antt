use Rattle.std.proofs.Common.{◌≡◌, ◌∷◌, []}
use Rattle.tc_rules.{specs.{Inside.Counts.main_state, Standing.StandsFor}, proofs.Making.opening}
use Rattle.tc_rules.proofs.state.CaseState.new.Goals as goal

pub invariant_of-result : goal.invariant_of-result
invariant_of-result c =
    let made : c.in_ok-new.field-0 ≡ main_state ∷ [] = c.in_ok-new.ensures in
    ([], rw made (opening c.args.behaviours c.in_ok-opening_runs.field-0.items c.requires.some c.requires.few c.in_ok-opening_runs.ensures.as_many c.in_ok-opening_runs.ensures.each))

pub returns-clause-opening : goal.returns-clause-opening
unfolding StandsFor
returns-clause-opening c =
    let made : c.in_ok-new.field-0 ≡ main_state ∷ [] = c.in_ok-new.ensures in
    rw made (opening c.args.behaviours c.in_ok-opening_runs.field-0.items c.requires.some c.requires.few c.in_ok-opening_runs.ensures.as_many c.in_ok-opening_runs.ensures.each)
