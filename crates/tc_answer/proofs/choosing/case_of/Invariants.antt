use Rattle.std.proofs.Common.{◌≡◌, ◌++◌, length, map}
use Rattle.tc_answer.specs.Choosing.{scripts_of}
use Rattle.tc_answer.proofs.choosing.case_of.Given as goal

-- what the test case has so far, and what is left, are the behaviours as they were given
abbrev pub invariant-loop-behaviour : goal.invariant-loop-behaviour
invariant-loop-behaviour l =
    (l.case.name ≡ l.fn.name)
    × (l.case.names.items ++ map (λ b. b.0) l.scripts ≡ map (λ b. b.0) l.fn.scripts)
    × (l.case.jobs.items ++ scripts_of l.scripts ≡ scripts_of l.fn.scripts)

abbrev pub decreases-loop-behaviour : goal.decreases-loop-behaviour
decreases-loop-behaviour l = length l.scripts
