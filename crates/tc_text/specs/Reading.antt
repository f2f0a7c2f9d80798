-- What the readers of moves speak of among themselves.
use Rattle.std.specs.{Prelude.{ℕ, ◌≡◌, ◌<◌, ◌⊎◌, true, false, List, [], ◌∷◌, Option, None, MatchOption}, Borrow.Bor}
use Rattle.tc_entry.specs.declared.op.Op.{Op}
use Rattle.tc_text.specs.declared.short.ShortOp.{ShortOp}

-- this value was read, and this is after it
abbrev pub Takes : {A : Type 0} → Option (A × Bor (List ℕ)) → A → List ℕ → Type 0
Takes found value rest = MatchOption found ⊥ (λ r. (r.0 ≡ value) × (r.1.now ≡ rest))

-- what may be after a number or a name: neither a digit nor a letter comes first
abbrev pub EndsNumber : List ℕ → Type 0
EndsNumber text = (b : ℕ) (rest : List ℕ) → text ≡ b ∷ rest → b < 48

-- what may be after a move or a reply: neither a digit nor a letter comes first, nor after a space
abbrev pub EndsMove : List ℕ → Type 0
EndsMove text = EndsNumber text × ((b : ℕ) (rest : List ℕ) → text ≡ 32 ∷ b ∷ rest → b < 48)

-- the operation that a short one is
abbrev pub op_of : ShortOp → Op
op_of (ShortOp.Create alive) = Op.Create alive None
op_of (ShortOp.Stop g) = Op.Stop g
op_of (ShortOp.Kill g) = Op.Kill g
op_of ShortOp.StopCase = Op.StopCase
op_of (ShortOp.Running t) = Op.Running t
op_of (ShortOp.Alive t) = Op.Alive t
op_of (ShortOp.Done t) = Op.Done t
op_of (ShortOp.Killed t) = Op.Killed t
op_of (ShortOp.WaitDone t) = Op.Wait false t
op_of (ShortOp.WaitKilled t) = Op.Wait true t
op_of (ShortOp.WakeDone t) = Op.Wake false t
op_of (ShortOp.WakeKilled t) = Op.Wake true t
op_of (ShortOp.SetVerdict v) = Op.SetVerdict v
op_of ShortOp.GetVerdict = Op.GetVerdict
op_of ShortOp.Finish = Op.Finish

-- the text begins with the end of a line, LF or the end of the text, and this is after it
abbrev pub EndsLine : List ℕ → List ℕ → Type 0
EndsLine text rest = ((text ≡ []) × (rest ≡ [])) ⊎ (text ≡ 10 ∷ rest)
