use Rattle.std.{proofs.Common.{◌≡◌, List, map}, specs.List.range_with_len}
use Rattle.tc_entry.specs.declared.entry.Entry.{Entry}
use Rattle.tc_rules.specs.{Local.local, Standing.StandsFor}
use Rattle.tc_rules.proofs.locals.locals_of.Given as goal

abbrev pub invariant-loop-comp : goal.invariant-loop-comp
invariant-loop-comp l = (past : List Entry) → StandsFor l.state past → l.locals.items ≡ map (local past) (range_with_len 0 l.comp)
