-- Words that are closed one after the other.
use Rattle.std.proofs.{Common.{ℕ, ◌≡◌, ◌≢◌, ◌+◌, ◌<◌, Bool, true, false, Option, Some, None, is_some, unwrap_or, List, length, length-set, get_or-set_other, get_or-set_same, set, below_more, refl, ap, sym, ◌∙◌, subst, arith, inl, inr}, lemmas.Bool.cases_eq}
use Rattle.tc_rules.specs.Prelude.{Run, UserVerdict, Comp, Entry, comp_of, is_active}
use Rattle.tc_board.specs.declared.record.Record.{Record, TheVariants.Closed, TheVariants.Open, TheVariants.Unbegun}
use Rattle.tc_book.specs.{Inside.Words.{Lags, WordsLag, is_open, opening, left_by}, Words.{IsWordOf, StayClosed, WordsAgree, carried, closing, record_at, run_before}}

-- an open word is of a run that was started and is active
pub open_means : (o : Option Comp) (active : Bool) (u : UserVerdict) (r : Record) → IsWordOf o active u r → is_open r ≡ true →
    (c : Comp) × (o ≡ Some c) × (active ≡ true) × (r ≡ Open u)
open_means None active u r is h = let e : false ≡ true = sym (ap is_open is) ∙ h in absurd cc
open_means (Some c) true u r is h = (c, refl, refl, is)
open_means (Some c) false u r is h = let e : false ≡ true = sym (ap is_open is.1) ∙ h in absurd cc

not_closed_if_open : (r : Record) → is_open r ≡ true → is_some (closing r) ≡ true → is_some (closing Unbegun) ≡ true
not_closed_if_open (Open u) a b = b
not_closed_if_open _ a b = a

pub at_other : (words : List Record) (i b : ℕ) (r : Record) → b ≢ i → record_at (set words i r) b ≡ record_at words b
at_other words i b r other = get_or-set_other words i b r Unbegun other

pub at_same : (words : List Record) (i : ℕ) (r : Record) → i < length words → record_at (set words i r) i ≡ r
at_same words i r within = get_or-set_same words i r Unbegun within

left_by_same : (words : List Record) (i : ℕ) (r : Record) (o : Option Run) → is_open (record_at words i) ≡ true →
    ((a : Run) → o ≡ Some a → is_some (closing (record_at words a.0)) ≡ true) → left_by (set words i r) o ≡ left_by words o
left_by_same words i r None begun done = refl
left_by_same words i r (Some a) begun done =
    let other : a.0 ≢ i = λ is. let e = not_closed_if_open (record_at words i) begun (subst (λ k. is_some (closing (record_at words k)) ≡ true) is (done a refl)) in cc in
    ap (λ x. unwrap_or (closing x) UserVerdict.None) (at_other words i a.0 r other)

pub close_one : (n : ℕ) (past : List Entry) (words : List Record) (i : ℕ) (w : UserVerdict) → WordsLag n past words i → i < n →
    is_open (record_at words i) ≡ true → is_active past i ≡ false →
    WordsLag n past (set words i (Closed (opening (record_at words i)) w)) (i + 1)
close_one n past words i w p less begun halted =
    let r : Record = Closed (opening (record_at words i)) w in
    let within : i < length words = rw p.as_many less in
    let same : (b : ℕ) → carried (set words i r) past b ≡ carried words past b =
    λ b. left_by_same words i r (run_before past b) begun (p.before b) in
    let begins = open_means (comp_of past i) (p.each i less).was (carried words past i) (record_at words i) (p.each i less).is begun in
    let here : Lags past (set words i r) i =
    record {
      was = false;
      active = λ a. sym halted ∙ a;
      is = rw (at_same words i r within, same i, begins.1) (w, ap (λ x. Closed (opening x) w) begins.3);
    } in
    record {
      as_many = rw length-set p.as_many;
      each = λ b below. elim (cases_eq b i) [
        | inl is ↦ subst (λ k. Lags past (set words i r) k) (sym is) here
        | inr other ↦ record {
          was = (p.each b below).was;
          active = (p.each b below).active;
          is = rw (at_other words i b r other, same b) (p.each b below).is;
        }
      ];
      before = λ b a is.
          let old = p.before b a is in
          let other : a.0 ≢ i = λ e. let q = not_closed_if_open (record_at words i) begun (subst (λ k. is_some (closing (record_at words k)) ≡ true) e old) in cc in
          rw (at_other words i a.0 r other) old;
      settled = below_more (λ b. is_open (record_at (set words i r) b) ≡ true → is_active past b ≡ true) i
          (λ b below. let other : b ≢ i = omega arith in rw (at_other words i b r other) (p.settled b below))
          (rw (at_same words i r within) (λ e. let q : false ≡ true = e in cc));
    }

word_of : (o : Option Comp) (was active : Bool) (u : UserVerdict) (r : Record) → IsWordOf o was u r →
    (active ≡ true → was ≡ true) → (is_open r ≡ true → active ≡ true) → IsWordOf o active u r
word_of None was active u r is a s = is
word_of (Some c) true true u r is a s = is
word_of (Some c) true false u r is a s = let e = s (ap is_open is) in cc
word_of (Some c) false true u r is a s = let e = a refl in cc
word_of (Some c) false false u r is a s = is

pub all_agree : (n : ℕ) (past : List Entry) (words : List Record) → WordsLag n past words n → WordsAgree n past words
all_agree n past words p = record {
  as_many = p.as_many;
  each = λ b less. word_of (comp_of past b) (p.each b less).was (is_active past b) (carried words past b) (record_at words b)
      (p.each b less).is (p.each b less).active (p.settled b less);
  before = p.before;
}

-- a word that is not closed can be changed, and those that are stay as they were
pub stay_closed : (words : List Record) (i : ℕ) (r : Record) → is_some (closing (record_at words i)) ≡ false → StayClosed words (set words i r)
stay_closed words i r unclosed b h =
    let other : b ≢ i = λ is. let q : true ≡ false = sym (subst (λ k. is_some (closing (record_at words k)) ≡ true) is h) ∙ unclosed in cc in
    at_other words i b r other

pub open_unclosed : (r : Record) → is_open r ≡ true → is_some (closing r) ≡ false
open_unclosed (Closed u v) h = absurd cc
open_unclosed _ h = refl
