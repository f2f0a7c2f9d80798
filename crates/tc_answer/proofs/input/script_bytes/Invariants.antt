use Rattle.std.proofs.Common.{◌≡◌, ◌+◌, drop, true}
use Rattle.tc_answer.specs.Input.{script_bytes}
use Rattle.tc_answer.proofs.input.script_bytes.Given as goal

abbrev pub invariant-loop-at : goal.invariant-loop-at
invariant-loop-at l = script_bytes true l.text ≡ l.at + script_bytes l.begins (drop l.at l.text)
