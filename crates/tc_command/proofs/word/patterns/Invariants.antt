use Rattle.std.proofs.Common.{◌≡◌, All, map, take}
use Rattle.tc_entry.specs.Prelude.{IsPattern}
use Rattle.tc_command.proofs.word.patterns.Given as goal

-- the patterns so far are the words so far, each of which is a pattern
abbrev pub invariant-loop-word : goal.invariant-loop-word
invariant-loop-word l = (l.patterns.items ≡ map (λ w. w.now) (take l.word-index l.words)) × All IsPattern (map (λ w. w.now) (take l.word-index l.words))
