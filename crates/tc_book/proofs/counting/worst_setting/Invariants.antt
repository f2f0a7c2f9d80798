use Rattle.std.proofs.Common.{◌≡◌, ◌++◌, List, map, length}
use Rattle.tc_rules.specs.Prelude.{worst, given, Entry}
use Rattle.tc_book.specs.Inside.{settings}
use Rattle.tc_book.proofs.counting.worst_setting.Given as goal

-- the settings passed so far are those of the end of the log
abbrev pub invariant-loop-entry : goal.invariant-loop-entry
invariant-loop-entry l = (passed : List Entry) × (l.log ≡ l.rest ++ passed) × (l.found ≡ worst (map given (settings passed)))

abbrev pub decreases-loop-entry : goal.decreases-loop-entry
decreases-loop-entry l = length l.rest
