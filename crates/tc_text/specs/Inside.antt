-- What only the way the texts are read needs: no public clause names a word of this file.
use Rattle.std.specs.{Prelude.{ℕ, ◌≡◌, ◌≢◌, ◌<◌, ◌≤◌, ◌+◌, ◌-◌, ◌*◌, ◌^◌, ◌++◌, codes, drop, length, map, take, Bool, true, false, if◌then◌else◌, List, [], ◌∷◌, Option, Some, None, MatchOption, slice_get}, Borrow.Bor, Char.is_ascii_digit, Fmt.decimal, Str.all_ascii_digits, List.{AllByRecursion, flat_map}}
use Rattle.tc_entry.specs.{Prelude.{Run, given, name_of}, declared.comp.Comp.Comp, declared.op.Op.Op, declared.op.Target.Target}
use Rattle.tc_text.specs.{MoveList.{IsMoveList, Move, lines_of}, Said.{ends_word, is_plain}, Spelling.{IsComp, IsOp, group_text, move_text, target_text}, declared.{said.Part.Part, verb.{Status.Status, Verb.Verb}}}

-- the byte, or a question mark for one that is not printable
abbrev pub as_printable : ℕ → ℕ
as_printable b = if is_plain b then b else 63

-- components, each with a number of 32 bits
abbrev pub AreComps : List Comp → Type 0
AreComps cs = AllByRecursion IsComp cs

-- a move whose numbers are those of their types
abbrev pub IsMove : Move → Type 0
IsMove m = (m.0.0 < 2 ^ 16) × IsOp m.1

-- the line of a move
abbrev pub move_line : Move → List ℕ
move_line m = move_text m.0.0 m.1

-- the first line of a list of moves of n behaviours
abbrev pub behaviours_line : ℕ → List ℕ
behaviours_line n = codes "behaviours " ++ decimal n

-- the lines of a list of moves
abbrev pub list_lines : ℕ → List Move → List (List ℕ)
list_lines n moves = behaviours_line n ∷ map move_line moves

-- the value is what the moves of the text make
abbrev pub IsMadeOfMoves : {T : Type 0} → (ℕ → List Move → T → Type 0) → List ℕ → T → Type 0
IsMadeOfMoves stands text value = (n : ℕ) × (moves : List Move) × IsMoveList text n moves × stands n moves value

-- this value was read of a line, and these lines are after it
abbrev pub TakesLine : {A : Type 0} → Option (A × Bor (List ℕ)) → A → List (List ℕ) → Type 0
TakesLine found value others = MatchOption found ⊥ (λ r. (r.0 ≡ value) × (lines_of r.1.now ≡ others))

-- the first letter is an e
abbrev pub BeginsWithE : List ℕ → Type 0
BeginsWithE text = slice_get text 0 ≡ Some 101

-- no digit comes first
abbrev pub NoDigitFirst : List ℕ → Type 0
NoDigitFirst text = (b : ℕ) (rest : List ℕ) → text ≡ b ∷ rest → is_ascii_digit b ≡ true → ⊥

-- the bytes up to the place are digits, and no other follows
pub record AreDigits (text : List ℕ) (place : ℕ) : Type 0 where
  pub within : place ≤ length text
  pub digits : all_ascii_digits (take place text) ≡ true
  pub ended : NoDigitFirst (drop place text)

-- the number that digits write after those of n
abbrev pub read_on : ℕ → List ℕ → ℕ
read_on n [] = n
read_on n (c ∷ cs) = read_on (10 * n + (c - 48)) cs

-- the bytes up to the place are digits, and write the number
pub record Counted (text : List ℕ) (place number : ℕ) : Type 0 where
  pub within : place ≤ length text
  pub digits : all_ascii_digits (take place text) ≡ true
  pub value : number ≡ read_on 0 (take place text)
  pub fits : number < 2 ^ 32

-- the first words of a wait or a wake
abbrev pub IsWait : Status → Type 0
IsWait Status.WaitDone = Unit {0}
IsWait Status.WaitKilled = Unit {0}
IsWait Status.WakeDone = Unit {0}
IsWait Status.WakeKilled = Unit {0}
IsWait _ = ⊥

-- no byte of the text comes before the digits
abbrev pub NoLow : List ℕ → Type 0
NoLow [] = Unit {0}
NoLow (b ∷ bs) = (48 ≤ b) × NoLow bs

-- what may be after the kind of a component: it does not begin with the word of a kind
abbrev pub EndsKind : List ℕ → Type 0
EndsKind text = (rest : List ℕ) → text ≢ codes " alive" ++ rest

-- prose, as it is written in a line: after a space, if a word does not end before it
abbrev pub prose_text : List ℕ → List ℕ
prose_text t = if ends_word t then t else 32 ∷ t

-- a part of a line, as it is written
abbrev pub part_text : Part → List ℕ
part_text (Part.Text t) = prose_text t.now
part_text (Part.Number n) = 32 ∷ decimal n
part_text (Part.Word w) = 32 ∷ w.now

-- the first line is no move
abbrev pub IsNoMove : List ℕ → Type 0
IsNoMove text = (m : Move) (others : List (List ℕ)) → IsMove m → lines_of text ≡ move_line m ∷ others → ⊥

-- the first line spells a move and no other, the rest follows that line, and with the move the value before becomes the one after
pub record IsMoveTakenBy {T : Type 0} (stands : ℕ → List Move → T → Type 0) (text : List ℕ) (value value' : T) (rest : List ℕ) : Type 0 where
  pub move : Move
  pub spelled : lines_of text ≡ move_line move ∷ lines_of rest
  pub fits : IsMove move
  pub less : length rest < length text
  pub only : (m : Move) (others : List (List ℕ)) → IsMove m → lines_of text ≡ move_line m ∷ others → (move ≡ m) × (lines_of rest ≡ others)
  pub taken : (n : ℕ) (moves : List Move) → stands n moves value → stands n (moves ++ move ∷ []) value'

-- ---- the first words of an operation, and what follows them

-- the first words of an operation that is about a target
abbrev pub status_text : Status → List ℕ
status_text Status.Running = codes "running "
status_text Status.Alive = codes "alive "
status_text Status.Done = codes "done "
status_text Status.Killed = codes "killed "
status_text Status.WaitDone = codes "wait done "
status_text Status.WaitKilled = codes "wait killed "
status_text Status.WakeDone = codes "wake done "
status_text Status.WakeKilled = codes "wake killed "

-- the operation that begins so and is about the target
abbrev pub status_op : Status → Target → Op
status_op Status.Running t = Op.Running t
status_op Status.Alive t = Op.Alive t
status_op Status.Done t = Op.Done t
status_op Status.Killed t = Op.Killed t
status_op Status.WaitDone t = Op.Wait false t
status_op Status.WaitKilled t = Op.Wait true t
status_op Status.WakeDone t = Op.Wake false t
status_op Status.WakeKilled t = Op.Wake true t

-- the first words of an operation
abbrev pub verb_text : Verb → List ℕ
verb_text Verb.Create = codes "create"
verb_text Verb.Start = codes "start "
verb_text Verb.Stop = codes "stop "
verb_text Verb.Kill = codes "kill "
verb_text Verb.StopCase = codes "stopcase"
verb_text (Verb.Status s) = status_text s
verb_text Verb.SetVerdict = codes "setverdict "
verb_text Verb.GetVerdict = codes "getverdict"
verb_text Verb.Finish = codes "finish"

-- the first words that an operation has
abbrev pub verb_of : Op → Verb
verb_of (Op.Create _ _) = Verb.Create
verb_of (Op.Start _ _ _) = Verb.Start
verb_of (Op.Stop _) = Verb.Stop
verb_of (Op.Kill _) = Verb.Kill
verb_of Op.StopCase = Verb.StopCase
verb_of (Op.Running _) = Verb.Status Status.Running
verb_of (Op.Alive _) = Verb.Status Status.Alive
verb_of (Op.Done _) = Verb.Status Status.Done
verb_of (Op.Killed _) = Verb.Status Status.Killed
verb_of (Op.Wait false _) = Verb.Status Status.WaitDone
verb_of (Op.Wait true _) = Verb.Status Status.WaitKilled
verb_of (Op.Wake false _) = Verb.Status Status.WakeDone
verb_of (Op.Wake true _) = Verb.Status Status.WakeKilled
verb_of (Op.SetVerdict _) = Verb.SetVerdict
verb_of Op.GetVerdict = Verb.GetVerdict
verb_of Op.Finish = Verb.Finish

-- each argument with a space in front
abbrev pub args_text : List Comp → List ℕ
args_text cs = flat_map (λ c. codes " " ++ decimal c.0) cs

-- what follows `start `
abbrev pub start_text : Comp → Run → List Comp → List ℕ
start_text c run args = decimal c.0 ++ (codes " " ++ (decimal run.0 ++ args_text args))

-- what follows `create` of the component's kind
abbrev pub kind_text : Bool → List ℕ
kind_text false = []
kind_text true = codes " alive"

-- the same, and the component's name
abbrev pub named_text : Bool → List ℕ → List ℕ
named_text alive name = kind_text alive ++ (codes " named " ++ name)

-- what follows the first words
abbrev pub operand_text : Op → List ℕ
operand_text (Op.Create alive None) = kind_text alive
operand_text (Op.Create alive (Some name)) = named_text alive name
operand_text (Op.Start c run args) = start_text c run args
operand_text (Op.Stop g) = group_text g
operand_text (Op.Kill g) = group_text g
operand_text Op.StopCase = []
operand_text (Op.Running t) = target_text t
operand_text (Op.Alive t) = target_text t
operand_text (Op.Done t) = target_text t
operand_text (Op.Killed t) = target_text t
operand_text (Op.Wait _ t) = target_text t
operand_text (Op.Wake _ t) = target_text t
operand_text (Op.SetVerdict v) = name_of (given v)
operand_text Op.GetVerdict = []
operand_text Op.Finish = []
