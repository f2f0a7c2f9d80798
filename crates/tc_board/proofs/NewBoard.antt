-- A new board meets the rule, and its keeper can give each hand its list.
use Rattle.std.proofs.{Common.{◌≡◌, ◌≢◌, ℕ, zero, suc, ◌+◌, ◌-◌, ◌<◌, ◌≤◌, List, [], ◌∷◌, ◌++◌, map, length, set, get_or, replicate, refl, sym, ap, ◌∙◌, subst, ⊎_elim, arith, length-set}, lemmas.List.{length-replicate, FromFn.map-range_with_len_more}}
use mathlib.Core.Option.{some, some-injective, some-ne-none}
use lib.ListN.{get_elem?}
use Rattle.atomic_table.{specs.{Table.{opening, Splits}, Seated.TableId}, proofs.Lists.{at_longer, at_set, set_here, at_last}}
use Rattle.tc_verdict.specs.declared.user_verdict.UserVerdict.TheVariants.{None}
use Rattle.tc_board.{specs.{Answers.FindsWorst, Board.{first_answers, new_hand, new_hands}, Hand.HandView, Inside.Seats.{answers_of, first_lists, hand_view, keeper_view, left_over, list, opening_view, split_off}, Inside.Steps.Seated, Inside.Table.{Holds, Knows, Row, Stands, record_of, row}, Rule.{AnswersAgree, Fits, word_of}, declared.answer.Answer.Answer, declared.answer.Answer.TheVariants.Met, declared.answer.AnswerList.AnswerList, declared.record.Record.{Record, TheVariants.{Open, Unbegun}}, declared.rule.View.View}, proofs.{Answers.NeverShut, Lookup.{at_end, at_length}, Rows.{hand_knows, lists_stand, same_records, stands_on, stays_at, still_knows, words_stay}}}

-- the first record of the word of a run
abbrev first_record : ℕ → Record
first_record zero = Open None
first_record (suc k) = Unbegun

first_rows : ℕ → ℕ → List Row
first_rows k zero = []
first_rows k (suc n) = row (first_record k) (first_answers k) 0 ∷ first_rows (suc k) n

first_words : ℕ → ℕ → List ℕ
first_words k zero = []
first_words k (suc n) = word_of (first_record k) (first_answers k) ∷ first_words (suc k) n

later_words : (k n : ℕ) → first_words (suc k) n ≡ replicate n 16
unfolding first_words
later_words k zero = refl
later_words k (suc n) = ap (λ (l : List ℕ). 16 ∷ l) (later_words (suc k) n)

as_many_rows : (k n : ℕ) → length (first_words k n) ≡ length (first_rows k n)
unfolding first_rows first_words
as_many_rows k zero = refl
as_many_rows k (suc n) = ap suc (as_many_rows (suc k) n)

unbegun_rows : (k n : ℕ) → replicate n Unbegun ≡ map record_of (first_rows (suc k) n)
unfolding first_rows
unbegun_rows k zero = refl
unbegun_rows k (suc n) = ap (λ l. Unbegun ∷ l) (unbegun_rows (suc k) n)

-- the first record of a new board is open, the others are unbegun
records_of_rows : (n : ℕ) → set (replicate n Unbegun) 0 (Open None) ≡ map record_of (first_rows 0 n)
unfolding first_rows
records_of_rows zero = refl
records_of_rows (suc n) = ap (λ l. Open None ∷ l) (unbegun_rows 0 n)

first_agrees : (k : ℕ) → AnswersAgree (first_record k) (first_answers k)
first_agrees zero = (never_shut, finds)
  where
    never_shut : NeverShut (Met ∷ [])
    never_shut zero e = absurd (cc)
    never_shut (suc i) e = absurd (cc)

    finds : FindsWorst None (Met ∷ [])
    finds zero v e = absurd (cc)
    finds (suc i) v e = absurd (cc)
first_agrees (suc k) = refl

first_fits : (k n j : ℕ) (r : Row) → get_elem? (first_rows k n) j ≡ some r → Fits r.record_is r.answers (get_or (first_words k n) j 0)
unfolding first_rows first_words
first_fits k zero j r e = absurd (some-ne-none r (sym e))
first_fits k (suc n) zero r e = subst (λ (x : Row). Fits x.record_is x.answers (word_of (first_record k) (first_answers k))) (some-injective (row (first_record k) (first_answers k) 0) r e) (refl, first_agrees k)
first_fits k (suc n) (suc j) r e = first_fits (suc k) n j r e

list_at : (k n p : ℕ) (l : AnswerList) → get_elem? (first_lists k n) p ≡ some l → (l ≡ list (k + p) (first_answers (k + p))) × (get_elem? (first_rows k n) p ≡ some (row (first_record (k + p)) (first_answers (k + p)) 0))
unfolding first_rows
list_at k zero p l e = absurd (some-ne-none l (sym e))
list_at k (suc n) zero l e = let is : k ≡ k + 0 = omega arith in (sym (some-injective _ _ e) ∙ ap (λ i. list i (first_answers i)) is, ap (λ i. some (row (first_record i) (first_answers i) 0)) is)
list_at k (suc n) (suc p) l e = let is : suc k + p ≡ k + suc p = omega arith in let f = list_at (suc k) n p l e in (f.0 ∙ ap (λ i. list i (first_answers i)) is, f.1 ∙ ap (λ i. some (row (first_record i) (first_answers i) 0)) is)

keeper_knows : (n : ℕ) → Knows (first_rows 0 n) 0 0 (opening_view n)
keeper_knows n = record {
  lists = λ p l e. let f = list_at 0 n p l e in let is : 0 + p ≡ p = omega arith in
      (first_record (0 + p), subst (λ (y : AnswerList). get_elem? (first_rows 0 n) y.run ≡ some (row (first_record (0 + p)) y.answers 0)) (sym f.0) (ap (get_elem? (first_rows 0 n)) is ∙ f.1));
  records = λ _. (refl, records_of_rows n);
}

row_stands : (k n p : ℕ) (r : Row) → get_elem? (first_rows k n) p ≡ some r → (r.seat ≡ 0) × (get_elem? (first_lists k n) p ≡ some (list (k + p) r.answers))
unfolding first_rows
row_stands k zero p r e = absurd (some-ne-none r (sym e))
row_stands k (suc n) zero r e =
    let is : k ≡ k + 0 = omega arith in
    let same = some-injective (row (first_record k) (first_answers k) 0) r e in
    (ap (λ (x : Row). x.seat) (sym same), λ i. some (list (is i) (same i).answers))
row_stands k (suc n) (suc p) r e = let is : suc k + p ≡ k + suc p = omega arith in let f = row_stands (suc k) n p r e in (f.0, f.1 ∙ ap (λ i. some (list i r.answers)) is)

opens_well : (n : ℕ) → Holds (opening (first_words 0 n) [] (opening_view n))
opens_well n = record {
  rows = first_rows 0 n;
  keeper = 0;
  as_many = as_many_rows 0 n;
  each_word = first_fits 0 n;
  each_seat = λ j v e. seat j v e;
  each_list = λ k r e. let f = row_stands 0 n k r e in let is : 0 + k ≡ k = omega arith in (opening_view n, k, ap (get_elem? (opening_view n ∷ [])) f.0, f.1 ∙ ap (λ i. some (list i r.answers)) is);
}
  where
    seat : (j : ℕ) (v : View) → get_elem? (opening_view n ∷ []) j ≡ some v → Knows (first_rows 0 n) 0 j v
    seat zero v e = subst (Knows (first_rows 0 n) 0 0) (some-injective (opening_view n) v e) (keeper_knows n)
    seat (suc j) v e = absurd (some-ne-none v (sym e))

words_made : (n : ℕ) → 0 < n → set (replicate n 16) 0 0 ≡ first_words 0 n
unfolding first_words
words_made zero some_word = absurd (omega arith)
words_made (suc n) some_word = ap (λ (l : List ℕ). 0 ∷ l) (sym (later_words 0 n))

-- the table as it is made
pub new_holds : (n m : ℕ) (words : List ℕ) → 0 < n → words ≡ set (replicate n 16) 0 0 → m ≡ n → Holds (opening words [] (opening_view m))
new_holds n m words some_word is same = subst (λ (z : List ℕ × ℕ). Holds (opening z.0 [] (opening_view z.1))) (λ i. (sym (is ∙ words_made n some_word) i, sym same i)) (opens_well n)

-- the lists from this run on have no run before it
from_run : (n k p : ℕ) (l : AnswerList) → get_elem? (first_lists k n) p ≡ some l → k ≤ l.run
from_run zero k p l e = absurd (some-ne-none l (sym e))
from_run (suc n) k zero l e = let is : k ≡ l.run = ap (λ (y : AnswerList). y.run) (some-injective (list k (first_answers k)) l e) in omega arith
from_run (suc n) k (suc p) l e = let more = from_run n (suc k) p l e in omega arith

-- the keeper gives the first list to a new hand
splits : (id k n : ℕ) (records : List Record) → Splits Holds id (keeper_view records (first_lists k (suc n))) (keeper_view records (first_lists (suc k) n)) (hand_view k (first_answers k))
splits id k n records s h at =
    let before : View = keeper_view records (first_lists k (suc n)) in
    let after : View = keeper_view records (first_lists (suc k) n) in
    let know = h.each_seat id before at in
    let known = know.records refl in
    let mine = know.lists 0 (list k (first_answers k)) refl in
    let r : Record = mine.0 in
    let was : get_elem? h.rows k ≡ some (row r (first_answers k) id) = mine.1 in
    let less : k < length h.rows = at_length h.rows k (row r (first_answers k) id) was in
    let seat : ℕ = length (set s.views id after) in
    let new : Row = row r (first_answers k) seat in
    record {
      rows = set h.rows k new;
      keeper = h.keeper;
      as_many = h.as_many ∙ sym (length-set h.rows k new);
      each_word = words_stay s h k new (h.each_word k (row r (first_answers k) id) was);
      each_seat = λ j v e. ⊎_elim
          (λ t. ⊎_elim
          (λ q. subst (λ (z : ℕ × View). Knows (set h.rows k new) h.keeper z.0 z.1) (λ i. (sym q.0 i, q.1 i)) record {
            lists = λ p l e'. stays_at h.rows k id new l (λ is. let above = from_run n (suc k) p l e' in absurd (omega arith)) (know.lists (suc p) l e');
            records = λ _. (known.0, known.1 ∙ sym (same_records h.rows k r (first_answers k) (first_answers k) id seat was));
          })
          (λ q. still_knows h.rows h.keeper k id j v r (first_answers k) (first_answers k) seat was q.0 (h.each_seat j v q.1))
          (at_set s.views id j after v t.1))
          (λ t. subst (λ (z : ℕ × View). Knows (set h.rows k new) h.keeper z.0 z.1) (λ i. (sym t.0 i, t.1 i)) (hand_knows (set h.rows k new) h.keeper k seat r (first_answers k) (set_here h.rows k new less)))
          (at_end (set s.views id after) (hand_view k (first_answers k)) v j e);
      each_list = lists_stand h.rows s.views (set s.views id after ++ hand_view k (first_answers k) ∷ []) k new h.each_list
          (hand_view k (first_answers k), 0, at_last (set s.views id after) (hand_view k (first_answers k)) seat refl, refl)
          (λ j x other stands. longer (set s.views id after) (hand_view k (first_answers k)) j x (stands_on s.views id j before after x at (λ p l is q. later j p l other is q) stands));
    }
  where
    longer : (views : List View) (w : View) (j : ℕ) (x : Row) → Stands views j x → Stands (views ++ w ∷ []) j x
    longer views w j x stands = (stands.0, stands.1, at_longer views (w ∷ []) x.seat stands.0 stands.2, stands.3)

    later : (j p : ℕ) (l : AnswerList) → j ≢ k → l.run ≡ j → get_elem? (first_lists k (suc n)) p ≡ some l → (q : ℕ) × (get_elem? (first_lists (suc k) n) q ≡ some l)
    later j zero l other is q = absurd (other (sym is ∙ sym (ap (λ (y : AnswerList). y.run) (some-injective (list k (first_answers k)) l q))))
    later j (suc p) l other is q = (p, q)

pub splits_at : (id k n : ℕ) (v : View) (records : List Record) → v ≡ keeper_view records (first_lists k n) → 0 < n → Splits Holds id v (left_over v) (split_off v)
splits_at id k zero v records is more = absurd (omega arith)
splits_at id k (suc n) v records is more = subst (λ (u : View). Splits Holds id u (left_over u) (split_off u)) (sym is) (splits id k n records)

-- the keeper after the list k went to its hand
pub keeper_left : (k n : ℕ) (me me' : Seated) (records : List Record) → me ≡ (keeper_view records (first_lists k n), []) → 0 < n → me' ≡ (left_over me.0, me.1) → me' ≡ (keeper_view records (first_lists (k + 1) (n - 1)), [])
keeper_left k zero me me' records is more e = absurd (omega arith)
keeper_left k (suc n) me me' records is more e =
    let a : suc k ≡ k + 1 = omega arith in
    let b : n ≡ suc n - 1 = omega arith in
    e ∙ (ap (λ (m : Seated). (left_over m.0, m.1)) is ∙ (λ i. (keeper_view records (first_lists (a i) (b i)), [])))

-- and the hand
pub hand_made : (k n : ℕ) (me other : Seated) (records : List Record) → me ≡ (keeper_view records (first_lists k n), []) → 0 < n → other ≡ (split_off me.0, []) → other ≡ (hand_view k (first_answers k), [])
hand_made k zero me other records is more e = absurd (omega arith)
hand_made k (suc n) me other records is more e = e ∙ ap (λ (m : Seated). (split_off m.0, [])) is

pub hand_shape : (k : ℕ) (answers : List Answer) (me : Seated) → me ≡ (hand_view k answers, []) → me ≡ (hand_view k (answers_of me.0.lists), [])
hand_shape k answers me is = subst (λ (m : Seated). m ≡ (hand_view k (answers_of m.0.lists), [])) (sym is) refl

pub keeper_shape : (n words : ℕ) (lists : List AnswerList) (me : Seated) → me ≡ (keeper_view (set (replicate n Unbegun) 0 (Open None)) lists, []) → words ≡ n → (me ≡ (keeper_view me.0.records me.0.lists, [])) × (length me.0.records ≡ words)
keeper_shape n words lists me is same = subst (λ (m : Seated). (m ≡ (keeper_view m.0.records m.0.lists, [])) × (length m.0.records ≡ words)) (sym is) (refl, length-set (replicate n Unbegun) 0 (Open None) ∙ (length-replicate n Unbegun ∙ sym same))

-- one more hand
pub hands_added : (board table : TableId) (k : ℕ) (hands hands' : List HandView) (me : Seated) → table ≡ board → hands ≡ new_hands board 0 k → me ≡ (hand_view k (first_answers k), [])
    → hands' ≡ hands ++ record { board = table; run = k; answers = answers_of me.0.lists } ∷ [] → hands' ≡ new_hands board 0 (k + 1)
hands_added board table k hands hands' me at before is e =
    let a : hands ++ record { board = table; run = k; answers = answers_of me.0.lists } ∷ [] ≡ new_hands board 0 k ++ new_hand board k ∷ [] = λ i. before i ++ record { board = at i; run = k; answers = answers_of (is i).0.lists } ∷ [] in
    e ∙ (a ∙ sym (map-range_with_len_more (new_hand board) 0 k k (omega arith)))
