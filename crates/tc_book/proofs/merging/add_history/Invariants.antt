use Rattle.std.proofs.Common.{◌≡◌, ◌++◌, ℕ, List, take, reverse}
use Rattle.tc_rules.specs.Prelude.{Entry, calls_of, in_place}
use Rattle.tc_book.{specs.Inside.Merging.Has, proofs.InPlace.HasRests}
use Rattle.tc_book.proofs.merging.add_history.Given as goal

-- the entries passed so far are in their place, and the table has what follows them
abbrev pub invariant-loop-entry : goal.invariant-loop-entry
invariant-loop-entry l = (log : ℕ → List Entry) → Has l.logs log → Has l.initial.rests.items log →
    (HasRests l.rests.items log (λ b. calls_of b (reverse (take l.entry-index l.history))) × (l.all.items ≡ l.fn.all.items ++ in_place log (reverse (take l.entry-index l.history))))
