use Rattle.std.{proofs.Common.{◌≡◌, ◌++◌, take}, specs.List.flat_map}
use Rattle.tc_judge.specs.{Compared.note, declared.compare.Wrong.TheVariants.Missing}
use Rattle.tc_judge.proofs.compare.append_missing.Given as goal

abbrev pub invariant-loop-name : goal.invariant-loop-name
invariant-loop-name l = l.out.items ≡ l.initial.out.items ++ flat_map (λ n. note n Missing) (take l.name-index l.missing)
