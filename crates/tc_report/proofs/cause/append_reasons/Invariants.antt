use Rattle.std.{proofs.Common.{◌≡◌, ◌++◌, codes, take}, specs.List.flat_map}
use Rattle.tc_report.proofs.cause.append_reasons.Given as goal

abbrev pub invariant-loop-sentence : goal.invariant-loop-sentence
invariant-loop-sentence l = l.out.items ≡ l.fn.out.items ++ flat_map (λ s. codes ": \"" ++ (s ++ codes "\"")) (take l.sentence-index l.said)
