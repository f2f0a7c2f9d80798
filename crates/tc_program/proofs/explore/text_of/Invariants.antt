use Rattle.std.{proofs.Common.{◌≡◌, take}, specs.List.flat_map}
use Rattle.tc_program.specs.Explore.{explored_text}
use Rattle.tc_program.proofs.explore.text_of.Given as goal

abbrev pub invariant-loop-case : goal.invariant-loop-case
invariant-loop-case l = l.out.items ≡ flat_map (explored_text l.options) (take l.case-index l.explored)
