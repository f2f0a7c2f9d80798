use Rattle.std.proofs.Common.{◌≡◌, take}
use Rattle.std.specs.List.{flat_map}
use Rattle.tc_model.specs.Models.{attempt_note}
use Rattle.tc_model.proofs.models.notes_of.Given as goal

abbrev pub invariant-loop-attempt : goal.invariant-loop-attempt
invariant-loop-attempt l = l.out.items ≡ flat_map attempt_note (take l.attempt-index l.attempts)
