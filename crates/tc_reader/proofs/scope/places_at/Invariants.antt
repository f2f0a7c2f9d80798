use Rattle.std.{proofs.Common.{◌≡◌, ◌≤◌, length, map, take, drop}, specs.List.list_any}
use Rattle.tc_entry.specs.declared.limits.TheConstants.{ARGUMENTS}
use Rattle.tc_reader.specs.{Campaign.place, SecondPass.is_unbound}
use Rattle.tc_reader.proofs.scope.places_at.Given as goal

abbrev pub invariant-loop-place : goal.invariant-loop-place
invariant-loop-place l = (l.places ≡ map (place l.bound) (take l.place-index l.named)) × (list_any (is_unbound l.bound) (drop l.place-index l.named) ≡ list_any (is_unbound l.bound) l.named) × (length l.named ≤ ARGUMENTS)
