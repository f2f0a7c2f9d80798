use Rattle.std.proofs.Common.{List, ℕ, ◌++◌, take}
use Rattle.tc_blocks.specs.Inside.{IsOpenAfter}
use Rattle.tc_blocks.proofs.limit.OpenBytes.take.Given as goal

abbrev pub invariant-loop-byte : goal.invariant-loop-byte
invariant-loop-byte l = (text : List ℕ) → IsOpenAfter l.most text l.fn.self → IsOpenAfter l.most (text ++ take l.byte-index l.part) l.self
