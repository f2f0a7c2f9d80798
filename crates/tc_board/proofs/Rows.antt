-- The rule of the table if one row changes: what the other rows, words and seats keep.
use Rattle.std.proofs.{Common.{◌≡◌, ◌≢◌, ℕ, zero, suc, ◌<◌, true, false, true≢false, List, [], ◌∷◌, map, length, set, get_or, refl, sym, ap, ◌∙◌, subst, ⊎_elim, arith, get_or-set_same, get_or-set_other}, lemmas.List.map-set}
use mathlib.Core.Option.{some, some-injective, some-ne-none}
use native.Mathlib.Decide.{ℕ_discrete}
use lib.ListN.{get_elem?}
use Rattle.atomic_table.{specs.Table.State, proofs.Lists.{at_set, set_here, set_else, set_again, at_map}}
use Rattle.tc_board.{specs.{Inside.Seats.{hand_view, list}, Inside.Table.{Holds, IsAt, Knows, Row, Stands, record_of, row}, Rule.Fits, declared.answer.Answer.Answer, declared.answer.AnswerList.AnswerList, declared.record.Record.Record, declared.rule.View.View}, proofs.Lookup.at_length}

-- a board's table as plain data
abbrev pub Board : Type 0
Board = State (Unit {0}) View

pub never : {X : Type 0} → false ≡ true → X
never e = absurd (true≢false (sym e))

pub same_records : (rows : List Row) (k : ℕ) (r : Record) (before after : List Answer) (a b : ℕ) → get_elem? rows k ≡ some (row r before a) → map record_of (set rows k (row r after b)) ≡ map record_of rows
same_records rows k r before after a b was = map-set record_of rows k (row r after b) ∙ set_again (map record_of rows) k r (at_map record_of rows k (row r before a) was)

-- a list of another run stays where it is
pub stays_at : (rows : List Row) (k seat : ℕ) (new : Row) (l : AnswerList) → l.run ≢ k → IsAt rows seat l → IsAt (set rows k new) seat l
stays_at rows k seat new l other there = (there.0, set_else rows k l.run new other ∙ there.1)

-- the list of run k is at one seat only
pub other_run : (rows : List Row) (k a seat : ℕ) (r : Record) (answers : List Answer) (l : AnswerList) → get_elem? rows k ≡ some (row r answers a) → seat ≢ a → IsAt rows seat l → l.run ≢ k
other_run rows k a seat r answers l was apart there is = apart (sym (ap (λ (y : Row). y.seat) (some-injective _ _ (sym (ap (get_elem? rows) is ∙ was) ∙ there.1))))

-- what another seat knows stays when the row of k changes and its record does not
pub still_knows : (rows : List Row) (keeper k a seat : ℕ) (v : View) (r : Record) (before after : List Answer) (b : ℕ) → get_elem? rows k ≡ some (row r before a) → seat ≢ a → Knows rows keeper seat v
    → Knows (set rows k (row r after b)) keeper seat v
still_knows rows keeper k a seat v r before after b was apart know = record {
  lists = λ p l e. stays_at rows k seat (row r after b) l (other_run rows k a seat r before l was apart (know.lists p l e)) (know.lists p l e);
  records = λ e. let known = know.records e in (known.0, known.1 ∙ sym (same_records rows k r before after a b was));
}

-- a hand knows its list
pub hand_knows : (rows : List Row) (keeper k seat : ℕ) (r : Record) (answers : List Answer) → get_elem? rows k ≡ some (row r answers seat) → Knows rows keeper seat (hand_view k answers)
hand_knows rows keeper k seat r answers is = record { lists = λ p l e. at p l e; records = λ e. never e }
  where
    at : (p : ℕ) (l : AnswerList) → get_elem? (list k answers ∷ []) p ≡ some l → IsAt rows seat l
    at zero l e = subst (IsAt rows seat) (some-injective (list k answers) l e) (r, is)
    at (suc p) l e = absurd (some-ne-none l (sym e))

-- the words fit if a row and its word change
pub words_fit : (s : Board) (h : Holds s) (k word : ℕ) (new : Row) → k < length h.rows → Fits new.record_is new.answers word
    → (j : ℕ) (r : Row) → get_elem? (set h.rows k new) j ≡ some r → Fits r.record_is r.answers (get_or (set s.words k word) j 0)
words_fit s h k word new less fits j r e = let wide = h.as_many in ⊎_elim
    (λ t. subst (λ (z : ℕ × Row). Fits z.1.record_is z.1.answers (get_or (set s.words k word) z.0 0)) (λ i. (sym t.0 i, t.1 i)) (subst (Fits new.record_is new.answers) (sym (get_or-set_same s.words k word 0 (omega arith))) fits))
    (λ t. subst (Fits r.record_is r.answers) (sym (get_or-set_other s.words k j word 0 t.0)) (h.each_word j r t.1))
    (at_set h.rows k j new r e)

-- the same if no word changes
pub words_stay : (s : Board) (h : Holds s) (k : ℕ) (new : Row) → Fits new.record_is new.answers (get_or s.words k 0) → (j : ℕ) (r : Row) → get_elem? (set h.rows k new) j ≡ some r → Fits r.record_is r.answers (get_or s.words j 0)
words_stay s h k new fits j r e = ⊎_elim
    (λ t. subst (λ (z : ℕ × Row). Fits z.1.record_is z.1.answers (get_or s.words z.0 0)) (λ i. (sym t.0 i, t.1 i)) fits)
    (λ t. h.each_word j r t.1)
    (at_set h.rows k j new r e)

-- each list is in the next views, if the changed one does and the others do
pub lists_stand : (rows : List Row) (views views' : List View) (k : ℕ) (new : Row) → ((j : ℕ) (r : Row) → get_elem? rows j ≡ some r → Stands views j r) → Stands views' k new
    → ((j : ℕ) (r : Row) → j ≢ k → Stands views j r → Stands views' j r) → (j : ℕ) (r : Row) → get_elem? (set rows k new) j ≡ some r → Stands views' j r
lists_stand rows views views' k new old here there j r e = ⊎_elim
    (λ t. subst (λ (z : ℕ × Row). Stands views' z.0 z.1) (λ i. (sym t.0 i, t.1 i)) here)
    (λ t. there j r t.0 (old j r t.1))
    (at_set rows k j new r e)

-- a list is on where a seat's next view has it if the view before had it
pub stands_on : (views : List View) (seat j : ℕ) (v w : View) (r : Row) → get_elem? views seat ≡ some v → ((p : ℕ) (l : AnswerList) → l.run ≡ j → get_elem? v.lists p ≡ some l → (q : ℕ) × (get_elem? w.lists q ≡ some l))
    → Stands views j r → Stands (set views seat w) j r
stands_on views seat j v w r at keeps_it stands = by_seat (ℕ_discrete r.seat seat)
  where
    by_seat : Dec (r.seat ≡ seat) → Stands (set views seat w) j r
    by_seat (yes is) =
        let same : stands.0 ≡ v = some-injective _ _ (sym stands.2 ∙ (ap (get_elem? views) is ∙ at)) in
        let kept = keeps_it stands.1 (list j r.answers) refl (ap (λ (u : View). get_elem? u.lists stands.1) (sym same) ∙ stands.3) in
        (w, kept.0, ap (get_elem? (set views seat w)) is ∙ set_here views seat w (at_length views seat v at), kept.1)
    by_seat (no other) = (stands.0, stands.1, set_else views seat r.seat w other ∙ stands.2, stands.3)

-- a hand's view has no list of another run
pub no_other : (k j : ℕ) (answers : List Answer) (w : View) → j ≢ k → (p : ℕ) (l : AnswerList) → l.run ≡ j → get_elem? (list k answers ∷ []) p ≡ some l → (q : ℕ) × (get_elem? w.lists q ≡ some l)
no_other k j answers w other zero l is e = absurd (other (sym is ∙ sym (ap (λ (y : AnswerList). y.run) (some-injective (list k answers) l e))))
no_other k j answers w other (suc p) l is e = absurd (some-ne-none l (sym e))
