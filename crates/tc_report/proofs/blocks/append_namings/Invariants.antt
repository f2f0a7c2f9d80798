use Rattle.std.{proofs.Common.{◌≡◌, ◌≤◌, ◌+◌, ◌++◌, length}, specs.List.flat_map}
use Rattle.tc_blocks.specs.Prelude.{with_lf, line_text}
use Rattle.tc_report.specs.Inside.{namings}
use Rattle.tc_report.proofs.blocks.append_namings.Given as goal

-- with the lines that are left all are appended, and their runs are numbers of runs
abbrev pub invariant-loop-name : goal.invariant-loop-name
invariant-loop-name l = record {
  all : l.out.items ++ flat_map (λ x. with_lf (line_text x)) (namings l.run l.rest) ≡ l.fn.out.items ++ flat_map (λ x. with_lf (line_text x)) (namings 0 l.names);
  room : l.run + length l.rest ≤ 65535;
}

abbrev pub decreases-loop-name : goal.decreases-loop-name
decreases-loop-name l = length l.rest
