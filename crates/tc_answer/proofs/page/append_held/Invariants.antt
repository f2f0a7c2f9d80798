use Rattle.std.proofs.Common.{◌≡◌, ◌++◌, take}
use Rattle.tc_answer.specs.Page.{held}
use Rattle.tc_answer.proofs.page.append_held.Given as goal

abbrev pub invariant-loop-byte : goal.invariant-loop-byte
invariant-loop-byte l = l.page.items ≡ l.fn.page.items ++ held (take l.byte-index l.text)
