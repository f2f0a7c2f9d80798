use Rattle.std.{proofs.Common.{◌≡◌, take}, specs.List.flat_map}
use Rattle.tc_program.specs.Inside.{case_line}
use Rattle.tc_program.proofs.listing.list_of.Given as goal

-- the lines of the test cases so far
abbrev pub invariant-loop-case : goal.invariant-loop-case
invariant-loop-case g l = l.text.items ≡ flat_map case_line (take l.case-index l.cases)
