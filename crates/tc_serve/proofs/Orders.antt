-- A line spells one order at most, and none is as long as what is looked at of one.
use Rattle.std.proofs.Common.{◌≡◌, ◌∙◌, ◌<◌, ◌^◌, ◌∷◌, ◌++◌, ℕ, false, List, codes, Option, Some, None, Result, Ok, Err, ap, sym, append_assoc, subst, arith, ◌*◌, ◌≤◌, inr, true, [], length, refl}
use Rattle.std.{specs.Fmt.decimal, proofs.lemmas.{Fmt.length-decimal-le, List.{length-append, length-take-le}}}
use Rattle.tc_entry.proofs.Lemmas.Names.{name_short}
use Rattle.tc_rules.specs.Prelude.{Run, Entry, Op, UserVerdict, given, name_of, Comp, Group, Target, Reply}
use Rattle.tc_text.{proofs.Lemmas.Digits.no_letter, specs.Prelude.{move_text, op_text, IsOp, AreComps, IsGroup, IsTarget, args_text, group_text, target_text}}
use Rattle.tc_blocks.{specs.Prelude.{said_text, IsSentence}, proofs.Lemmas.Notes.{entry_not_said, said_not_naming}}
use Rattle.tc_serve.specs.{Protocol.{Refuses, ServiceState, SpellsOrder, seen}, declared.order.{Order.Order, TheConstants.LINE_BYTES, Refusal.Refusal}}

-- no move begins with a letter
move_no_letter : (run b : ℕ) (op : Op) (after : List ℕ) → run < 2 ^ 16 → 57 < b → move_text run op ≡ b ∷ after → ⊥
move_no_letter run b op after fits letter e = no_letter run b (codes " " ++ op_text op) after (omega (arith, fits)) letter e

-- ---- remarks

wide : (k : ℕ) → k < 2 ^ 16 → k < 2 ^ 32
wide k fits = omega (arith, fits)

-- no remark is a move
said_not_move : (k run : ℕ) (op : Op) (sentence : List ℕ) → k < 2 ^ 16 → run < 2 ^ 16 → IsOp op → said_text false k sentence ≡ move_text run op → ⊥
said_not_move k run op sentence low fits is same =
    entry_not_said 2 e false k (sentence ++ codes " -> ok") (record { caller = fits; op = is; reply = tt; names = λ one. absurd (omega (arith, one)) }) (wide k low)
    (ap (λ l. l ++ codes " -> ok") (sym same) ∙ append_assoc (decimal k) (codes " # " ++ sentence) (codes " -> ok"))
  where
    e : Entry
    e = record { caller = record { 0 = run }; op = op; reply = Reply.Ok }

-- the line makes no remark
abbrev IsNoRemark : Order → Type 0
IsNoRemark (Order.Remark run sentence) = ⊥
IsNoRemark _ = Unit {0}

not_remark : (text : List ℕ) (k : ℕ) (bytes : List ℕ) → k < 2 ^ 16 → text ≡ said_text false k bytes → (o : Order) → SpellsOrder text o → IsNoRemark o → ⊥
not_remark text k bytes low spelled (Order.Case name n) asks other =
    no_letter k 99 (codes " # " ++ bytes) (codes "ase " ++ (name ++ (codes " " ++ decimal n))) (wide k low) (omega arith) (sym spelled ∙ asks.2)
not_remark text k bytes low spelled (Order.Named r name) asks other = said_not_naming false k bytes r.0 name (wide k low) (sym spelled ∙ asks.2)
not_remark text k bytes low spelled (Order.Move r p) asks other = said_not_move k r.0 p bytes low asks.0 asks.1 (sym spelled ∙ asks.2)
not_remark text k bytes low spelled (Order.Remark r sentence) asks other = other
not_remark text k bytes low spelled Order.End asks other = no_letter k 101 (codes " # " ++ bytes) (codes "nd") (wide k low) (omega arith) (sym spelled ∙ asks)

-- if the line is a remark, it is this one
abbrev pub IsThatRemark : List ℕ → Run → List ℕ → Type 0
IsThatRemark text run bytes = (k : ℕ) (sentence : List ℕ) → k < 2 ^ 16 → text ≡ said_text false k sentence → (run.0 ≡ k) × (bytes ≡ sentence)

abbrev make : ℕ → List ℕ → Order
make k sentence = Order.Remark (record { 0 = k }) sentence

pub remark_only : (text : List ℕ) (run : Run) (bytes sentence : List ℕ) → run.0 < 2 ^ 16 → text ≡ said_text false run.0 bytes → IsThatRemark text run bytes → sentence ≡ bytes →
    (o : Order) → SpellsOrder text o → ◌≡◌ {A = Result Order Refusal} (Ok (Order.Remark run sentence)) (Ok o)
remark_only text run bytes sentence low spelled only same (Order.Remark r that) asks =
    let two = only r.0 that asks.0 asks.2 in ap (λ k. Ok (make k sentence)) two.0 ∙ ap (λ s. Ok (make r.0 s)) (same ∙ two.1)
remark_only text run bytes sentence low spelled only same order asks = absurd (not_remark text run.0 bytes low spelled order asks tt)

pub remark_none : (text : List ℕ) (run : Run) (bytes : List ℕ) → run.0 < 2 ^ 16 → text ≡ said_text false run.0 bytes → IsThatRemark text run bytes → (IsSentence bytes → ⊥) → (o : Order) → SpellsOrder text o → ⊥
remark_none text run bytes low spelled only none (Order.Remark r that) asks = let two = only r.0 that asks.0 asks.2 in none (subst IsSentence (sym two.1) asks.1)
remark_none text run bytes low spelled only none order asks = not_remark text run.0 bytes low spelled order asks tt

-- ---- moves

-- what is asked, if this is the move that was read
abbrev asked : Option (Run × Op) → Result Order Refusal
asked None = Err Refusal.BadLine
asked (Some m) = Ok (Order.Move m.0 m.1)

pub only_move : (text : List ℕ) (run : Run) (op : Op) → (run.0 < 2 ^ 16) × IsOp op → text ≡ move_text run.0 op →
    ((r : ℕ) (p : Op) → r < 2 ^ 16 → IsOp p → text ≡ move_text r p → ◌≡◌ {A = Option (Run × Op)} (Some (run, op)) (Some (record { 0 = r }, p))) →
    (o : Order) → SpellsOrder text o → ◌≡◌ {A = Result Order Refusal} (Ok (Order.Move run op)) (Ok o)
only_move text run op low spelled only (Order.Case name n) asks =
    absurd (move_no_letter run.0 99 op (codes "ase " ++ (name ++ (codes " " ++ decimal n))) low.0 (omega arith) (sym spelled ∙ asks.2))
only_move text run op low spelled only (Order.Named r name) asks =
    absurd (move_no_letter run.0 98 op (codes "ehaviour " ++ (decimal r.0 ++ (codes " " ++ name))) low.0 (omega arith) (sym spelled ∙ asks.2))
only_move text run op low spelled only (Order.Move r p) asks = ap asked (only r.0 p asks.0 asks.1 asks.2)
only_move text run op low spelled only (Order.Remark r sentence) asks = absurd (said_not_move r.0 run.0 op sentence asks.0 low.0 low.1 (sym asks.2 ∙ spelled))
only_move text run op low spelled only Order.End asks = absurd (move_no_letter run.0 101 op (codes "nd") low.0 (omega arith) (sym spelled ∙ asks))

number_short : (n : ℕ) → n < 2 ^ 16 → length (decimal n) ≤ 5
number_short n small = length-decimal-le 5 n (omega arith) (omega (arith, small)) (omega (arith, small))

comp_short : (n : ℕ) → n < 2 ^ 32 → length (decimal n) ≤ 10
comp_short n small = length-decimal-le 10 n (omega arith) (omega (arith, small)) (omega (arith, small))

args_short : (cs : List Comp) → AreComps cs → length (args_text cs) ≤ 11 * length cs
args_short [] fits = omega arith
args_short (c ∷ cs) fits = omega (arith, comp_short c.0 fits.0, args_short cs fits.1, length-append (decimal c.0) (args_text cs))

group_short : (g : Group) → IsGroup g → length (group_text g) ≤ 10
group_short (Group.One c) fits = comp_short c.0 fits
group_short Group.All fits = omega arith

target_short : (t : Target) → IsTarget t → length (target_text t) ≤ 10
target_short (Target.One c) fits = comp_short c.0 fits
target_short _ fits = omega arith

given_short : (v : UserVerdict) → length (name_of (given v)) ≤ 10
given_short UserVerdict.None = omega arith
given_short _ = omega arith

op_short : (op : Op) → IsOp op → length (op_text op) ≤ 100
op_short (Op.Create false (Some name)) fits = let short = name_short name fits in omega (arith, short)
op_short (Op.Create true (Some name)) fits = let short = name_short name fits in omega (arith, short)
op_short (Op.Start c run args) fits =
    let few = fits.2 in
    omega (arith, comp_short c.0 fits.0, number_short run.0 fits.1, few, args_short args fits.3, length-append (decimal c.0) (codes " " ++ (decimal run.0 ++ args_text args)), length-append (decimal run.0) (args_text args))
op_short (Op.Stop g) fits = omega (arith, group_short g fits)
op_short (Op.Kill g) fits = omega (arith, group_short g fits)
op_short (Op.Running t) fits = omega (arith, target_short t fits)
op_short (Op.Alive t) fits = omega (arith, target_short t fits)
op_short (Op.Done t) fits = omega (arith, target_short t fits)
op_short (Op.Killed t) fits = omega (arith, target_short t fits)
op_short (Op.Wait false t) fits = omega (arith, target_short t fits)
op_short (Op.Wait true t) fits = omega (arith, target_short t fits)
op_short (Op.Wake false t) fits = omega (arith, target_short t fits)
op_short (Op.Wake true t) fits = omega (arith, target_short t fits)
op_short (Op.SetVerdict v) fits = omega (arith, given_short v)
op_short _ fits = omega arith

pub order_short : (line : List ℕ) (o : Order) → SpellsOrder line o → length line < LINE_BYTES
order_short line (Order.Case name n) asks =
    let short = name_short name asks.0 in
    let few = asks.1.1 in
    omega (arith, short, ap length asks.2, number_short n (omega (arith, few)), length-append name (codes " " ++ decimal n))
order_short line (Order.Named run name) asks =
    let short = name_short name asks.1 in
    omega (arith, short, ap length asks.2, number_short run.0 asks.0, length-append (decimal run.0) (codes " " ++ name))
order_short line (Order.Move caller op) asks =
    omega (arith, ap length asks.2, number_short caller.0 asks.0, op_short op asks.1, length-append (decimal caller.0) (codes " " ++ op_text op))
order_short line (Order.Remark run sentence) asks =
    let short = asks.1.short in
    omega (arith, short, ap length asks.2, number_short run.0 asks.0, length-append (decimal run.0) (codes " # " ++ sentence))
order_short line Order.End asks = omega (arith, ap length asks)

pub long_lines_are_refused : (line : List ℕ) (s : ServiceState) → LINE_BYTES ≤ length line → Refuses Refusal.TooLong true (seen line) s
long_lines_are_refused line s long = inr (
  λ o asks. absurd (omega (arith, order_short (seen line) o asks.1, length-take-le LINE_BYTES line long)),
  (refl, omega (arith, length-take-le LINE_BYTES line long)),
)
