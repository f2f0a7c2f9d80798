use Rattle.std.proofs.Common.{◌≡◌, ◌++◌, drop, map}
use Rattle.tc_judge.proofs.compare.names_of.Given as goal

-- the names so far and those of the test cases that are left
abbrev pub invariant-loop-case : goal.invariant-loop-case
invariant-loop-case l = l.names.keys ++ map (λ k. k.name) (drop l.case-index l.cases) ≡ map (λ k. k.name) l.cases
