use Rattle.std.proofs.Common.{◌≡◌, ◌++◌, length, map}
use Rattle.tc_model.proofs.certified.scripts_of.Given as goal

-- the scripts so far, and those of the behaviours that are left, are those of all
abbrev pub invariant-loop-script : goal.invariant-loop-script
invariant-loop-script l = l.scripts.items ++ map (λ s. s.1) l.case ≡ map (λ s. s.1) l.fn.case

abbrev pub decreases-loop-script : goal.decreases-loop-script
decreases-loop-script l = length l.case
