-- The hands of a new board, dealt out one after the other, and the records of its words, as std's lists have them.
use Rattle.std.{proofs.{Common.{ℕ, zero, suc, ◌≡◌, ◌+◌, ◌-◌, ◌<◌, List, [], length, get_or, refl, ap, ◌∙◌, arith, ◌≤◌, ◌==◌, true, false, Some, ◌∷◌, set, length-set, replicate}, lemmas.Bool.Decides.nat_tests, lemmas.List.{get_or-replicate, length-replicate}, lemmas.Option.slice_get-get_or}, specs.{List.remove, Prelude.slice_get}}
use Rattle.atomic_table.specs.Seated.{TableId}
use Rattle.tc_board.specs.{Prelude.{HandView, new_hand, new_hands, IsOpen, carried_by, carried_in}, declared.record.Record.Record, declared.record.Record.TheVariants.{Closed, Open, Unbegun}}
use Rattle.tc_rules.specs.Prelude.{comp_of, phase, is_active, UserVerdict}
use Rattle.tc_book.specs.{Inside.Words.is_open, Inside.Words.opening, Words.IsWordOf, Words.WordsAgree, Words.carried, Words.record_at}

pub length_hands : (board : TableId) (k n : ℕ) → length (new_hands board k n) ≡ n
length_hands board k zero = refl
length_hands board k (suc n) = ap suc (length_hands board (k + 1) n)

pub without_first : (board : TableId) (k n : ℕ) (xs ys : List HandView) → xs ≡ new_hands board k n → 0 < n → ys ≡ remove xs 0 → ys ≡ new_hands board (k + 1) (n - 1)
without_first board k zero xs ys is some less = absurd (omega arith)
without_first board k (suc n) xs ys is some less =
    let e : n ≡ suc n - 1 = omega arith in
    less ∙ (ap (λ l. remove l 0) is ∙ ap (new_hands board (k + 1)) e)

pub first_hand : (board : TableId) (k n : ℕ) (xs : List HandView) (x : HandView) → xs ≡ new_hands board k n → 0 < n → x ≡ get_or xs 0 x → x ≡ new_hand board k
first_hand board k zero xs x is some at = absurd (omega arith)
first_hand board k (suc n) xs x is some at = at ∙ ap (λ l. get_or l 0 x) is

-- the hand of a run above 0 has had no answer
pub later_hand : (board : TableId) (k n : ℕ) (xs : List HandView) (x : HandView) → 0 < k → xs ≡ new_hands board k n → 0 < n → x ≡ get_or xs 0 x → x ≡ record { board = board; run = k; answers = [] }
later_hand board zero n xs x later is some at = absurd (omega arith)
later_hand board (suc k) n xs x later is some at = first_hand board (suc k) n xs x is some at

pub without_next : (board : TableId) (k n : ℕ) (xs ys : List HandView) → xs ≡ new_hands board k (n - k) → k < n → ys ≡ remove xs 0 → ys ≡ new_hands board (k + 1) (n - (k + 1))
without_next board k n xs ys is some less =
    let b : n - k - 1 ≡ n - (k + 1) = omega arith in
    without_first board k (n - k) xs ys is (omega arith) less ∙ ap (new_hands board (k + 1)) b

pub get_at : (words : List Record) (b : ℕ) (r : Record) → b < length words → record_at words b ≡ r → slice_get words b ≡ Some r
get_at words b r within is = slice_get-get_or words b Unbegun within ∙ ap Some is

open_by : (r : Record) → is_open r ≡ true → r ≡ Open (opening r)
open_by (Open u) h = refl
open_by _ h = absurd cc

pub open_at : (words : List Record) (b : ℕ) → b < length words → is_open (record_at words b) ≡ true → IsOpen words b
open_at words b within h = (opening (record_at words b), get_at words b (Open (opening (record_at words b))) within (open_by (record_at words b) h))

pub carried_at : (words : List Record) (b : ℕ) → b < length words → is_open (record_at words b) ≡ true → carried_by words b ≡ opening (record_at words b)
unfolding open_at
carried_at words b within h = ap carried_in (open_at words b within h).1

main_goes_on : is_active [] 0 ≡ true
unfolding is_active phase
main_goes_on = refl

word_at : (n b : ℕ) (words : List Record) → b < n → IsWordOf (comp_of [] b) (is_active [] b) (carried words [] b) (record_at (set (replicate n Unbegun) 0 (Open UserVerdict.None)) b)
word_at zero b words less = absurd (omega arith)
word_at (suc n) zero words less = rw main_goes_on refl
word_at (suc n) (suc b) words less = let k : (suc b == 0) ≡ false = grind (arith, nat_tests) in rw k (get_or-replicate n b Unbegun Unbegun (omega arith))

-- the words of a new board follow from the opening
pub agree_of_new : (n : ℕ) → 1 ≤ n → WordsAgree n [] (set (replicate n Unbegun) 0 (Open UserVerdict.None))
agree_of_new n some = record {
  as_many = length-set (replicate n Unbegun) 0 (Open UserVerdict.None) ∙ length-replicate n Unbegun;
  each = λ b less. word_at n b (set (replicate n Unbegun) 0 (Open UserVerdict.None)) less;
  before = λ b a is. absurd cc;
}

pub ruleset word_rules = (agree_of_new, get_at, open_at, carried_at)
