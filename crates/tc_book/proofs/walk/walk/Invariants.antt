use Rattle.std.proofs.Common.{take}
use Rattle.tc_book.proofs.Walking.{IsWalked}
use Rattle.tc_book.proofs.walk.walk.Given as goal

-- the entries so far were walked
abbrev pub invariant-loop-entry : goal.invariant-loop-entry
invariant-loop-entry l = IsWalked l.fn.state.behaviours l.fn.rests.items l.rests.items l.state (take l.entry-index l.history)
