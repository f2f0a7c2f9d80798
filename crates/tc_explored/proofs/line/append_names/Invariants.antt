use Rattle.std.{proofs.Common.{◌≡◌, ◌++◌, take}, specs.List.flat_map}
use Rattle.tc_rules.specs.Prelude.{name_of}
use Rattle.tc_explored.proofs.line.append_names.Given as goal

abbrev pub invariant-loop-verdict : goal.invariant-loop-verdict
invariant-loop-verdict l = l.out.items ≡ l.fn.out.items ++ flat_map (λ v. l.before ++ name_of v) (take l.verdict-index l.verdicts)
