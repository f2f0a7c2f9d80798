use Rattle.std.{proofs.Common.{◌≡◌, take}, specs.List.flat_map}
use Rattle.tc_report.specs.Blocks.{case_block}
use Rattle.tc_report.proofs.blocks.write_blocks.Given as goal

abbrev pub invariant-loop-case : goal.invariant-loop-case
invariant-loop-case g l = l.text.items ≡ flat_map (case_block l.kind) (take l.case-index l.results.finished)
