use Rattle.std.{proofs.Common.{◌≡◌, ◌++◌, take}, specs.List.flat_map}
use Rattle.tc_report.specs.Prelude.{named_block}
use Rattle.tc_explored.proofs.line.append_witnesses.Given as goal

abbrev pub invariant-loop-witness : goal.invariant-loop-witness
invariant-loop-witness l = l.out.items ≡ l.fn.out.items ++ flat_map (λ w. named_block l.header l.names w.history w.verdict) (take l.witness-index l.witness-items)
