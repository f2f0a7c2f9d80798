use Rattle.std.proofs.Common.{◌≡◌, take}
use Rattle.tc_explore.specs.Limits.{room_of}
use Rattle.tc_explore.proofs.limits.room_for.Given as goal

abbrev pub invariant-loop-script : goal.invariant-loop-script
invariant-loop-script l = l.entries ≡ room_of (take l.script-index l.scripts)
