use Rattle.std.{proofs.Common.{◌≡◌, take, reverse}, specs.Prelude.option_copied}
use Rattle.tc_rules.specs.Prelude.{comp_of}
use Rattle.tc_explored.specs.Race.{run_ended_by}
use Rattle.tc_explored.proofs.parting.run_ended_by.Given as goal

abbrev pub invariant-loop-entry : goal.invariant-loop-entry
invariant-loop-entry l =
    let past = reverse (take l.entry-index l.history) in
    (l.comp ≡ comp_of past l.run) × (option_copied l.ended ≡ run_ended_by past l.run)
