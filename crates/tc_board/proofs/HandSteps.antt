-- The steps of a hand keep the rule: set, get and meet.
use Rattle.std.proofs.Common.{◌≡◌, ◌≢◌, ℕ, ◌<◌, ◌==◌, if◌then◌else◌, Bool, true, false, List, [], ◌∷◌, ◌++◌, length, set, get_or, inl, inr, refl, sym, ap, ◌∙◌, subst, ⊎_elim, arith, max, length-set}
use mathlib.Core.Option.{none, some}
use lib.ListN.{get_elem?}
use Rattle.atomic_table.{specs.Table.{step, keeps, stepped, Allows}, proofs.Lists.{at_set, set_here}}
use Rattle.tc_entry.specs.Prelude.{UserVerdict, level_of, given}
use Rattle.tc_board.{specs.{Answers.worst_answer, Inside.Seats.{hand_view, list}, Inside.Steps.{Seated, get_answer, set_answer, was_got, was_met, was_set}, Inside.Table.{Holds, Knows, Row, row}, Rule.Fits, declared.answer.Answer.Answer, declared.answer.Answer.TheVariants.{Found, Met, Shut, Taken}, declared.record.Record.Record, declared.record.Record.TheVariants.{Closed, Open, Unbegun}, declared.rule.View.View}, proofs.{Answers.{finds-end, never-end, rank_in, stays-end, worst_of-other, worst_of-taken}, Lookup.at_length, Numbers.{begun_closed, begun_open, get_closed, get_open, max-closed, max-worse, rank_less, set_closed, set_open, verdict_of-rank}, Rows.{Board, hand_knows, lists_stand, no_other, stands_on, still_knows, words_fit}}}

-- a hand's answers and its word change, and they fit the record as before
hand_step : (s : Board) (id k : ℕ) (before after : List Answer) (word : ℕ) → Holds s → get_elem? s.views id ≡ some (hand_view k before) → ((r : Record) → Fits r before (get_or s.words k 0) → Fits r after word)
    → Holds (stepped s k word id [] (hand_view k after) keeps)
hand_step s id k before after word h at fits =
    let mine = (h.each_seat id (hand_view k before) at).lists 0 (list k before) refl in
    let r : Record = mine.0 in
    let was : get_elem? h.rows k ≡ some (row r before id) = mine.1 in
    let less : k < length h.rows = at_length h.rows k (row r before id) was in
    let new : Row = row r after id in
    record {
      rows = set h.rows k new;
      keeper = h.keeper;
      as_many = length-set s.words k word ∙ h.as_many ∙ sym (length-set h.rows k new);
      each_word = words_fit s h k word new less (fits r (h.each_word k (row r before id) was));
      each_seat = λ j v e. ⊎_elim
          (λ t. subst (λ (z : ℕ × View). Knows (set h.rows k new) h.keeper z.0 z.1) (λ i. (sym t.0 i, t.1 i)) (hand_knows (set h.rows k new) h.keeper k id r after (set_here h.rows k new less)))
          (λ t. still_knows h.rows h.keeper k id j v r before after id was t.0 (h.each_seat j v t.1))
          (at_set s.views id j (hand_view k after) v e);
      each_list = lists_stand h.rows s.views (set s.views id (hand_view k after)) k new h.each_list (hand_view k after, 0, set_here s.views id (hand_view k after) (at_length s.views id (hand_view k before) at), refl)
          (λ j x other. stands_on s.views id j (hand_view k before) (hand_view k after) x at (no_other k j before (hand_view k after) other));
    }

-- what a setting does to the answers and the word fits the record
set_fits : (answers : List Answer) (v : UserVerdict) (found : ℕ) → answers ≢ [] → (r : Record) → Fits r answers found → Fits r (answers ++ set_answer v found ∷ []) (max found (level_of (given v)))
set_fits answers v found met Unbegun f = absurd (met f.1)
set_fits answers v found met (Open u) f =
    let w = rank_in u answers found f.0 in
    let less : found < 4 = subst (λ n. n < 4) (sym w.2) (rank_less w.0) in
    subst (λ x. Fits (Open u) (answers ++ x ∷ []) (max found (level_of (given v)))) (sym (set_open v found less)) (
      ap (λ n. max n (level_of (given v))) f.0 ∙ (max-worse (worst_answer u answers) v ∙ ap level_of (sym (worst_of-taken u answers v))),
      (never-end answers (Taken v) f.1.0 (λ e. cc), finds-end u answers (Taken v) f.1.1 (λ w e. absurd (cc))),
    )
set_fits answers v found met (Closed u w) f =
    let is : set_answer v found ≡ Shut = ap (set_answer v) f.0 ∙ set_closed v (level_of (given w)) in
    subst (λ x. Fits (Closed u w) (answers ++ x ∷ []) (max found (level_of (given v)))) (sym is) (
      ap (λ n. max n (level_of (given v))) f.0 ∙ max-closed w v,
      (f.1.0 ∙ sym (worst_of-other u answers Shut refl), finds-end u answers Shut f.1.1 (λ w e. absurd (cc)), stays-end answers Shut f.1.2 (inl refl)),
    )

get_fits : (answers : List Answer) (found : ℕ) → answers ≢ [] → (r : Record) → Fits r answers found → Fits r (answers ++ get_answer found ∷ []) found
get_fits answers found met Unbegun f = absurd (met f.1)
get_fits answers found met (Open u) f =
    let w = rank_in u answers found f.0 in
    let is : get_answer found ≡ Found w.0 = ap get_answer w.2 ∙ get_open w.0 in
    subst (λ x. Fits (Open u) (answers ++ x ∷ []) found) (sym is) (
      f.0 ∙ ap level_of (sym (worst_of-other u answers (Found w.0) refl)),
      (never-end answers (Found w.0) f.1.0 (λ e. cc), finds-end u answers (Found w.0) f.1.1 (λ v e. ap given (found_same w.0 v e) ∙ w.1)),
    )
  where
    found_same : (w v : UserVerdict) → Found w ≡ Found v → v ≡ w
    found_same w v e = cc
get_fits answers found met (Closed u w) f =
    let is : get_answer found ≡ Shut = ap get_answer f.0 ∙ get_closed w in
    subst (λ x. Fits (Closed u w) (answers ++ x ∷ []) found) (sym is) (
      f.0,
      (f.1.0 ∙ sym (worst_of-other u answers Shut refl), finds-end u answers Shut f.1.1 (λ w e. absurd (cc)), stays-end answers Shut f.1.2 (inl refl)),
    )

-- the answers after a meet
abbrev met_answers : List Answer → ℕ → List Answer
met_answers answers found = if found == 16 then answers else (answers ++ Met ∷ [])

meet_fits : (answers : List Answer) (found : ℕ) (r : Record) → Fits r answers found → Fits r (met_answers answers found) found
meet_fits answers found Unbegun f = subst (λ n. Fits Unbegun (met_answers answers n) n) (sym f.0) (refl, f.1)
meet_fits answers found (Open u) f =
    let w = rank_in u answers found f.0 in
    let is : (found == 16) ≡ false = ap (λ n. n == 16) w.2 ∙ begun_open w.0 in
    subst (λ b. Fits (Open u) (if b then answers else (answers ++ Met ∷ [])) found) (sym is) (
      f.0 ∙ ap level_of (sym (worst_of-other u answers Met refl)),
      (never-end answers Met f.1.0 (λ e. cc), finds-end u answers Met f.1.1 (λ v e. absurd (cc))),
    )
meet_fits answers found (Closed u w) f =
    let is : (found == 16) ≡ false = ap (λ n. n == 16) f.0 ∙ begun_closed w in
    subst (λ b. Fits (Closed u w) (if b then answers else (answers ++ Met ∷ [])) found) (sym is) (
      f.0,
      (f.1.0 ∙ sym (worst_of-other u answers Met refl), finds-end u answers Met f.1.1 (λ w e. absurd (cc)), stays-end answers Met f.1.2 (inr refl)),
    )

met_view : (k : ℕ) (answers : List Answer) (b : Bool) → hand_view k (if b then answers else (answers ++ Met ∷ [])) ≡ (if b then hand_view k answers else hand_view k (answers ++ Met ∷ []))
met_view k answers true = refl
met_view k answers false = refl

unmet : (answers : List Answer) (found : ℕ) (r : Record) → Fits r answers found → found ≡ 16 → answers ≡ []
unmet answers found Unbegun f is = f.1
unmet answers found (Open u) f is = let w = rank_in u answers found f.0 in let a = w.2 in let b = rank_less w.0 in absurd (omega arith)
unmet answers found (Closed u w) f is = let a = f.0 in let b = rank_less w in absurd (omega arith)

sets : (slots id k : ℕ) (answers : List Answer) (v : UserVerdict) → answers ≢ []
    → Allows Holds slots id (hand_view k answers, []) k (λ n. max n (level_of (given v))) (was_set (step slots k (level_of (given v)) 0 none) (hand_view k answers, []))
sets slots id k answers v met s h _ at _ =
    let found : ℕ = get_or s.words k 0 in (
      hand_view k (answers ++ set_answer v found ∷ []),
      keeps,
      tt,
      hand_step s id k answers (answers ++ set_answer v found ∷ []) (max found (level_of (given v))) h at (set_fits answers v found met),
      ap (λ w. (hand_view k (answers ++ set_answer w found ∷ []), [])) (sym (verdict_of-rank v)),
    )

gets : (slots id k : ℕ) (answers : List Answer) → answers ≢ [] → Allows Holds slots id (hand_view k answers, []) k (λ n. n) (was_got (step slots k 0 0 none) (hand_view k answers, []))
gets slots id k answers met s h _ at _ =
    let found : ℕ = get_or s.words k 0 in
    (hand_view k (answers ++ get_answer found ∷ []), keeps, tt, hand_step s id k answers (answers ++ get_answer found ∷ []) found h at (get_fits answers found met), refl)

meets : (slots id k : ℕ) (answers : List Answer) → Allows Holds slots id (hand_view k answers, []) k (λ n. n) (was_met (step slots k 0 0 none) (hand_view k answers, []))
meets slots id k answers s h _ at _ =
    let found : ℕ = get_or s.words k 0 in
    let mine = (h.each_seat id (hand_view k answers) at).lists 0 (list k answers) refl in (
      hand_view k (met_answers answers found),
      keeps,
      tt,
      hand_step s id k answers (met_answers answers found) found h at (meet_fits answers found),
      (ap (λ v. (v, [])) (met_view k answers (found == 16)), unmet answers found mine.0 (h.each_word k (row mine.0 answers id) mine.1)),
    )

-- the same at a seat that has the view of a hand
pub sets_at : (slots id k n : ℕ) (me : Seated) (answers : List Answer) (v : UserVerdict) → me ≡ (hand_view k answers, []) → n ≡ level_of (given v) → answers ≢ []
    → Allows Holds slots id me k (λ x. max x n) (was_set (step slots k n 0 none) me)
sets_at slots id k n me answers v is rank met = subst (λ (m : Seated × ℕ). Allows Holds slots id m.0 k (λ x. max x m.1) (was_set (step slots k m.1 0 none) m.0)) (λ i. (sym is i, sym rank i)) (sets slots id k answers v met)

pub gets_at : (slots id k : ℕ) (me : Seated) (answers : List Answer) → me ≡ (hand_view k answers, []) → answers ≢ [] → Allows Holds slots id me k (λ x. x) (was_got (step slots k 0 0 none) me)
gets_at slots id k me answers is met = subst (λ (m : Seated). Allows Holds slots id m k (λ x. x) (was_got (step slots k 0 0 none) m)) (sym is) (gets slots id k answers met)

pub meets_at : (slots id k : ℕ) (me : Seated) (answers : List Answer) → me ≡ (hand_view k answers, []) → Allows Holds slots id me k (λ x. x) (was_met (step slots k 0 0 none) me)
meets_at slots id k me answers is = subst (λ (m : Seated). Allows Holds slots id m k (λ x. x) (was_met (step slots k 0 0 none) m)) (sym is) (meets slots id k answers)
