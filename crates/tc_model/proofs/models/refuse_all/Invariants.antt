use Rattle.std.proofs.Common.{◌≡◌, ◌++◌, drop, map, take}
use Rattle.tc_model.specs.Inside.{unread}
use Rattle.tc_model.proofs.models.refuse_all.Given as goal

abbrev pub invariant-loop-attempt : goal.invariant-loop-attempt
invariant-loop-attempt l = l.attempts ≡ map unread (take l.attempt-index l.fn.attempts) ++ drop l.attempt-index l.fn.attempts
