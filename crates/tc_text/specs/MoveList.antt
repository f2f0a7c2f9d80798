-- The lines of a text, lists of moves as texts, and what is wrong with other texts.
use Rattle.std.specs.{Prelude.{ℕ, ◌==◌, if◌then◌else◌, List, [], ◌∷◌, ◌≡◌, ◌⊎◌, ◌<◌, ◌+◌, ◌^◌, ◌++◌, length, map, codes}, Fmt.decimal, List.{AllByRecursion, onto_first}}
use Rattle.tc_entry.specs.{Prelude.{IsBehaviours, Run}, declared.op.Op.Op}
use Rattle.tc_text.specs.{Spelling.{IsOp, move_text}, declared.fault.TextFault.TextFault, declared.fault.TextKind.TextKind}
use Rattle.tc_verdict.specs.Prelude.{early_text, memory_text}

-- LF ends a line; a last line may lack it, and after a last LF there is none
abbrev pub lines_of : List ℕ → List (List ℕ)
lines_of [] = []
lines_of (b ∷ bs) = if b == 10 then [] ∷ lines_of bs else onto_first b (lines_of bs)

-- a move: the caller's run, and its operation
abbrev pub Move : Type 0
Move = Run × Op

-- these are the lines of n behaviours and these moves, whose numbers are those of their types
pub record AreMoveLines (n : ℕ) (moves : List Move) (all : List (List ℕ)) : Type 0 where
  pub behaviours : IsBehaviours n
  pub fits : AllByRecursion (λ m. (m.0.0 < 2 ^ 16) × IsOp m.1) moves
  pub lines : all ≡ (codes "behaviours " ++ decimal n) ∷ map (λ m. move_text m.0.0 m.1) moves

-- the text is that of n behaviours and these moves
abbrev pub IsMoveList : List ℕ → ℕ → List Move → Type 0
IsMoveList text n moves = AreMoveLines n moves (lines_of text)

-- the lines can be continued to right ones
abbrev pub CanContinue : (List (List ℕ) → Type 0) → List (List ℕ) → Type 0
CanContinue AreRight lines = (more : List (List ℕ)) × AreRight (lines ++ more)

-- After lines that can be continued, the rest has a fault of this kind: it is empty, while these are some and not right
-- ones. Or its first line can't come there, where a first line should begin, or another one.
abbrev pub IsFaultAfter : (AreRight Begins : List (List ℕ) → Type 0) → TextKind → List (List ℕ) → List (List ℕ) → TextKind → Type 0
IsFaultAfter AreRight Begins other lines [] kind = (kind ≡ TextKind.Early) × (AreRight lines → lines ≡ [])
IsFaultAfter AreRight Begins other lines (next ∷ rest) kind = (CanContinue AreRight (lines ++ next ∷ []) → ⊥)
    × (((kind ≡ TextKind.FirstLine) × Begins lines) ⊎ ((kind ≡ other) × (Begins lines → ⊥)))

-- the lines of the text before this one can be continued, and after them comes a fault of this kind
pub record IsFaultAt (AreRight Begins : List (List ℕ) → Type 0) (other : TextKind) (text : List ℕ) (line : ℕ) (kind : TextKind) : Type 0 where
  pub before : List (List ℕ)
  pub rest : List (List ℕ)
  pub lines : lines_of text ≡ before ++ rest
  pub number : line ≡ length before + 1
  pub right : CanContinue AreRight before
  pub fault : IsFaultAfter AreRight Begins other before rest kind

-- what a fault says of a text that should have right lines: after which of them a first line begins, and what kind of fault
-- another line is; if memory runs out, nothing is said
abbrev pub IsTextFault : (AreRight Begins : List (List ℕ) → Type 0) → TextKind → List ℕ → TextFault → Type 0
IsTextFault AreRight Begins other text (TextFault.At line kind) = IsFaultAt AreRight Begins other text line kind
IsTextFault AreRight Begins other text TextFault.NoMemory = Unit {0}

-- what a fault says of a text that should be a list of moves
abbrev pub IsListFault : List ℕ → TextFault → Type 0
IsListFault text fault =
    IsTextFault (λ lines. (n : ℕ) × (moves : List Move) × AreMoveLines n moves lines) (λ before. before ≡ []) TextKind.Move text fault

-- the words that name a fault
abbrev pub text_kind_text : TextKind → List ℕ
text_kind_text TextKind.FirstLine = codes "bad first line"
text_kind_text TextKind.Move = codes "bad move"
text_kind_text TextKind.Entry = codes "bad entry"
text_kind_text TextKind.Early = early_text

-- the line and the words of its fault
abbrev pub fault_text : TextFault → List ℕ
fault_text (TextFault.At line kind) = codes "line " ++ (decimal line ++ (codes ": " ++ text_kind_text kind))
fault_text TextFault.NoMemory = memory_text
