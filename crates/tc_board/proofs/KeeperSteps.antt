-- The steps of the keeper keep the rule: open, close, the look at a word, and taking back a hand.
use Rattle.std.{proofs.{Common.{◌≡◌, ℕ, ◌+◌, ◌<◌, true, List, [], ◌∷◌, ◌++◌, length, set, get_or, refl, sym, ap, ◌∙◌, subst, ⊎_elim, bit_or, length-set, Contains}, lemmas.List.{map-set, set-get_or}}, specs.Prelude.{slice_get, Some}}
use mathlib.Core.Option.{none, some, some-injective, some-ne-none}
use native.Mathlib.Decide.{ℕ_discrete}
use lib.ListN.{get_elem?}
use Rattle.atomic_table.{specs.Table.{step, keeps, stepped, Allows, Joins}, proofs.Lists.{at_longer, at_set, set_here, set_else, set_again, at_map, at_last}}
use Rattle.tc_entry.specs.Prelude.{UserVerdict, level_of, given}
use Rattle.tc_board.{specs.{Answers.worst_answer, Inside.Seats.{hand_view, keeper_view, list, spent_view, taken_back}, Inside.Steps.{Counts, Seated, verdict_of, was_closed, was_opened, was_seen, with_record}, Inside.Table.{Holds, IsAt, Knows, Row, record_of, row}, Keeper.{carried_by, carried_in}, Rule.{AnswersAgree, Fits}, declared.answer.Answer.Answer, declared.answer.AnswerList.AnswerList, declared.record.Record.Record, declared.record.Record.TheVariants.{Closed, Open, Unbegun}, declared.rule.View.View}, proofs.{Answers.{never-stays, rank_in}, Lookup.{at_end, at_length, at_map_back, contained_at, elem_got}, Numbers.{or-closed, rank_less, verdict_of-rank}, Rows.{Board, lists_stand, never, no_other, other_run, same_records, stands_on, stays_at, still_knows, words_fit, words_stay}}}

-- a record and its word change, and each list that fitted fits
keeper_step : (s : Board) (id k : ℕ) (v : View) (r r' : Record) (word : ℕ) → Holds s → get_elem? s.views id ≡ some v → v.is_keeper ≡ true → get_elem? v.records k ≡ some r
    → ((answers : List Answer) → Fits r answers (get_or s.words k 0) → Fits r' answers word) → Holds (stepped s k word id [] (with_record v k r') keeps)
keeper_step s id k v r r' word h at keeping here fits =
    let known = (h.each_seat id v at).records keeping in
    let found = at_map_back record_of h.rows k r (ap (λ l. get_elem? l k) (sym known.1) ∙ here) in
    let was : Row = found.0 in
    let less : k < length h.rows = at_length h.rows k was found.1 in
    let new : Row = row r' was.answers was.seat in
    let at_still = λ (j : ℕ) (l : AnswerList) (there : IsAt h.rows j l). still_at k r' h.rows was found.1 less j l there (ℕ_discrete l.run k) in
    record {
      rows = set h.rows k new;
      keeper = h.keeper;
      as_many = length-set s.words k word ∙ h.as_many ∙ sym (length-set h.rows k new);
      each_word = words_fit s h k word new less (fits was.answers (subst (λ q. Fits q was.answers (get_or s.words k 0)) found.2 (h.each_word k was found.1)));
      each_seat = λ j u e. ⊎_elim
          (λ t. subst (λ (z : ℕ × View). Knows (set h.rows k new) h.keeper z.0 z.1) (λ i. (sym t.0 i, t.1 i)) record {
            lists = λ p l q. at_still id l ((h.each_seat id v at).lists p l q);
            records = λ _. (known.0, ap (λ l. set l k r') known.1 ∙ sym (map-set record_of h.rows k new));
          })
          (λ t. record {
            lists = λ p l q. at_still j l ((h.each_seat j u t.1).lists p l q);
            records = λ keeping'. absurd (t.0 (((h.each_seat j u t.1).records keeping').0 ∙ sym known.0));
          })
          (at_set s.views id j (with_record v k r') u e);
      each_list = lists_stand h.rows s.views (set s.views id (with_record v k r')) k new h.each_list
          (stands_on s.views id k v (with_record v k r') was at (λ p l _ q. (p, q)) (h.each_list k was found.1))
          (λ j x other. stands_on s.views id j v (with_record v k r') x at (λ p l _ q. (p, q)));
    }
  where
    still_at : (k : ℕ) (r' : Record) (rows : List Row) (was : Row) → get_elem? rows k ≡ some was → k < length rows → (j : ℕ) (l : AnswerList) → IsAt rows j l → Dec (l.run ≡ k) → IsAt (set rows k (row r' was.answers was.seat)) j l
    still_at k r' rows was here less j l there (yes is) =
        let same : was ≡ row there.0 l.answers j = some-injective _ _ (sym here ∙ (sym (ap (get_elem? rows) is) ∙ there.1)) in
        (r', subst (λ n. get_elem? (set rows k (row r' was.answers was.seat)) n ≡ some (row r' l.answers j)) (sym is) (set_here rows k (row r' was.answers was.seat) less ∙ ap (λ (y : Row). some (row r' y.answers y.seat)) same))
    still_at k r' rows was here less j l there (no apart) = stays_at rows k j (row r' was.answers was.seat) l apart there

-- a load that changes no view
unchanged : (s : Board) (id k : ℕ) (v : View) → Holds s → get_elem? s.views id ≡ some v → Holds (stepped s k (get_or s.words k 0) id [] v keeps)
unchanged s id k v h at = subst (λ (z : List ℕ × List View). Holds record { words = z.0; homes = s.homes; views = z.1 }) (λ i. (sym (set-get_or s.words k 0) i, sym (set_again s.views id v at) i)) h

-- each list that the keeper holds fits its record and its word
held_fits : (s : Board) (id k : ℕ) (records : List Record) (lists : List AnswerList) (h : Holds s) → get_elem? s.views id ≡ some (keeper_view records lists)
    → (p : ℕ) (l : AnswerList) → get_elem? lists p ≡ some l → l.run ≡ k → (r : Record) × (get_elem? records l.run ≡ some r) × Fits r l.answers (get_or s.words k 0)
held_fits s id k records lists h at p l e is =
    let know = h.each_seat id (keeper_view records lists) at in
    let there = know.lists p l e in (
      there.0,
      ap (λ rs. get_elem? rs l.run) (know.records refl).1 ∙ at_map record_of h.rows l.run (row there.0 l.answers id) there.1,
      subst (λ n. Fits there.0 l.answers (get_or s.words n 0)) is (h.each_word l.run (row there.0 l.answers id) there.1),
    )

opens : (slots id k : ℕ) (records : List Record) (lists : List AnswerList) (u : UserVerdict) → get_elem? records k ≡ some Unbegun
    → Allows Holds slots id (keeper_view records lists, []) k (λ _. level_of (given u)) (λ _. was_opened (step slots k (level_of (given u)) 0 none) (keeper_view records lists, []) (level_of (given u)))
opens slots id k records lists u here s h _ at _ = (
  with_record (keeper_view records lists) k (Open u),
  keeps,
  tt,
  keeper_step s id k (keeper_view records lists) Unbegun (Open u) (level_of (given u)) h at refl here (λ answers f. open_empty answers f.1),
  ap (λ w. (with_record (keeper_view records lists) k (Open w), [])) (sym (verdict_of-rank u)),
)
  where
    rank_alone : (u : UserVerdict) → level_of (given u) ≡ level_of (worst_answer u [])
    rank_alone UserVerdict.None = refl
    rank_alone _ = refl

    open_empty : (answers : List Answer) → answers ≡ [] → Fits (Open u) answers (level_of (given u))
    open_empty answers none_yet = subst (λ l. Fits (Open u) l (level_of (given u))) (sym none_yet) (rank_alone u, ((λ i e. cc), (λ i v e. absurd (cc))))

-- the verdict that a close finds counts what was taken
found_counts : (u : UserVerdict) (answers : List Answer) (found : ℕ) → Fits (Open u) answers found → (given (verdict_of found) ≡ worst_answer u answers) × (found < 4)
found_counts u answers found f =
    let w = rank_in u answers found f.0 in
    (ap given (ap verdict_of w.2 ∙ verdict_of-rank w.0) ∙ w.1, subst (λ n. n < 4) (sym w.2) (rank_less w.0))

close_fits : (u : UserVerdict) (answers : List Answer) (found : ℕ) → Fits (Open u) answers found → Fits (Closed u (verdict_of found)) answers (bit_or found 8)
close_fits u answers found f =
    let w = rank_in u answers found f.0 in
    let is : verdict_of found ≡ w.0 = ap verdict_of w.2 ∙ verdict_of-rank w.0 in
    (ap (λ n. bit_or n 8) w.2 ∙ (or-closed w.0 ∙ ap (λ v. 8 + level_of (given v)) (sym is)), ((found_counts u answers found f).0, f.1.1, never-stays answers f.1.0))

closes : (slots id k : ℕ) (records : List Record) (lists : List AnswerList) (u : UserVerdict) → get_elem? records k ≡ some (Open u)
    → Allows Holds slots id (keeper_view records lists, []) k (λ n. bit_or n 8) (was_closed (step slots k 8 0 none) (keeper_view records lists, []))
closes slots id k records lists u here s h _ at _ =
    let found : ℕ = get_or s.words k 0 in
    let carried : carried_by records k ≡ u = ap carried_in (elem_got records k (Open u) here) in
    let new : Record = Closed (carried_by records k) (verdict_of found) in
    let fits : (answers : List Answer) → Fits (Open u) answers found → Fits new answers (bit_or found 8) =
    λ answers f. subst (λ w. Fits (Closed w (verdict_of found)) answers (bit_or found 8)) (sym carried) (close_fits u answers found f) in
    let mine = open_row s id k records lists u h at here in (
      with_record (keeper_view records lists) k new,
      keeps,
      tt,
      keeper_step s id k (keeper_view records lists) (Open u) new (bit_or found 8) h at refl here fits,
      (refl, (found_counts u mine.0 found mine.1).1, λ p l e is. counted l is carried (held_fits s id k records lists h at p l e is)),
    )
  where
    -- some answers fit the open word
    open_row : (s : Board) (id k : ℕ) (records : List Record) (lists : List AnswerList) (u : UserVerdict) (h : Holds s) → get_elem? s.views id ≡ some (keeper_view records lists) → get_elem? records k ≡ some (Open u)
        → (answers : List Answer) × Fits (Open u) answers (get_or s.words k 0)
    open_row s id k records lists u h at here =
        let known = (h.each_seat id (keeper_view records lists) at).records refl in
        let found = at_map_back record_of h.rows k (Open u) (ap (λ l. get_elem? l k) (sym known.1) ∙ here) in
        (found.0.answers, subst (λ r. Fits r found.0.answers (get_or s.words k 0)) found.2 (h.each_word k found.0 found.1))

    counted : {n : ℕ} (l : AnswerList) → l.run ≡ k → carried_by records k ≡ u → (r : Record) × (get_elem? records l.run ≡ some r) × Fits r l.answers n → given (verdict_of n) ≡ worst_answer (carried_by records k) l.answers
    counted {n} l is carried f =
        let same : f.0 ≡ Open u = some-injective _ _ (sym f.1 ∙ (ap (get_elem? records) is ∙ here)) in
        subst (λ w. given (verdict_of n) ≡ worst_answer w l.answers) (sym carried) (found_counts u l.answers n (subst (λ r. Fits r l.answers n) same f.2)).0

looks : (slots id k : ℕ) (records : List Record) (lists : List AnswerList) → Allows Holds slots id (keeper_view records lists, []) k (λ n. n) (was_seen (step slots k 0 0 none) (keeper_view records lists, []))
looks slots id k records lists s h _ at _ = (keeper_view records lists, keeps, tt, unchanged s id k (keeper_view records lists) h at, (refl, held_fits s id k records lists h at))

takes_back : (id other k : ℕ) (records : List Record) (lists : List AnswerList) (answers : List Answer)
    → Joins Holds id (keeper_view records lists) other (hand_view k answers) (keeper_view records (lists ++ list k answers ∷ [])) spent_view
takes_back id other k records lists answers s h at apart there =
    let before : View = keeper_view records lists in
    let after : View = keeper_view records (lists ++ list k answers ∷ []) in
    let know = h.each_seat id before at in
    let known = know.records refl in
    let theirs : get_elem? s.views other ≡ some (hand_view k answers) = sym (set_else s.views id other after apart) ∙ there in
    let mine = (h.each_seat other (hand_view k answers) theirs).lists 0 (list k answers) refl in
    let r : Record = mine.0 in
    let was : get_elem? h.rows k ≡ some (row r answers other) = mine.1 in
    let less : k < length h.rows = at_length h.rows k (row r answers other) was in
    let new : Row = row r answers id in
    record {
      rows = set h.rows k new;
      keeper = h.keeper;
      as_many = h.as_many ∙ sym (length-set h.rows k new);
      each_word = words_stay s h k new (h.each_word k (row r answers other) was);
      each_seat = λ j v e. ⊎_elim
          (λ t. subst (λ (z : ℕ × View). Knows (set h.rows k new) h.keeper z.0 z.1) (λ i. (sym t.0 i, t.1 i)) record {
            lists = λ p l e'. absurd (some-ne-none l (sym e'));
            records = λ e'. never e';
          })
          (λ t. ⊎_elim
          (λ q. subst (λ (z : ℕ × View). Knows (set h.rows k new) h.keeper z.0 z.1) (λ i. (sym q.0 i, q.1 i)) record {
            lists = λ p l e'. ⊎_elim
                (λ f. stays_at h.rows k id new l (other_run h.rows k other id r answers l was (λ is. apart (sym is)) (know.lists p l f.1)) (know.lists p l f.1))
                (λ f. subst (IsAt (set h.rows k new) id) f.1 (r, set_here h.rows k new less))
                (at_end lists (list k answers) l p e');
            records = λ _. (known.0, known.1 ∙ sym (same_records h.rows k r answers answers other id was));
          })
          (λ q. still_knows h.rows h.keeper k other j v r answers answers id was t.0 (h.each_seat j v q.1))
          (at_set s.views id j after v t.1))
          (at_set (set s.views id after) other j spent_view v e);
      each_list = lists_stand h.rows s.views (set (set s.views id after) other spent_view) k new h.each_list
          (after, length lists, set_else (set s.views id after) other id spent_view (λ is. apart (sym is)) ∙ set_here s.views id after (at_length s.views id before at), at_last lists (list k answers) (length lists) refl)
          (λ j x other' stands. stands_on (set s.views id after) other j (hand_view k answers) spent_view x there (no_other k j answers spent_view other')
          (stands_on s.views id j before after x at (λ p l _ q. (p, at_longer lists (list k answers ∷ []) p l q)) stands));
    }

-- the same at a seat that has the view of the keeper
pub opens_at : (slots id k n : ℕ) (me : Seated) (records : List Record) (lists : List AnswerList) (u : UserVerdict) → me ≡ (keeper_view records lists, []) → n ≡ level_of (given u) → get_elem? records k ≡ some Unbegun
    → Allows Holds slots id me k (λ _. n) (λ _. was_opened (step slots k n 0 none) me n)
opens_at slots id k n me records lists u is rank here = subst (λ (m : Seated × ℕ). Allows Holds slots id m.0 k (λ _. m.1) (λ _. was_opened (step slots k m.1 0 none) m.0 m.1)) (λ i. (sym is i, sym rank i)) (opens slots id k records lists u here)

pub closes_at : (slots id k : ℕ) (me : Seated) (records : List Record) (lists : List AnswerList) (u : UserVerdict) → me ≡ (keeper_view records lists, []) → get_elem? records k ≡ some (Open u)
    → Allows Holds slots id me k (λ x. bit_or x 8) (was_closed (step slots k 8 0 none) me)
closes_at slots id k me records lists u is here = subst (λ (m : Seated). Allows Holds slots id m k (λ x. bit_or x 8) (was_closed (step slots k 8 0 none) m)) (sym is) (closes slots id k records lists u here)

pub looks_at : (slots id k : ℕ) (me : Seated) (records : List Record) (lists : List AnswerList) → me ≡ (keeper_view records lists, []) → Allows Holds slots id me k (λ x. x) (was_seen (step slots k 0 0 none) me)
looks_at slots id k me records lists is = subst (λ (m : Seated). Allows Holds slots id m k (λ x. x) (was_seen (step slots k 0 0 none) m)) (sym is) (looks slots id k records lists)

pub takes_back_at : (id other k : ℕ) (v w : View) (records : List Record) (lists : List AnswerList) (answers : List Answer) → v ≡ keeper_view records lists → w ≡ hand_view k answers
    → Joins Holds id v other w (taken_back v w) spent_view
takes_back_at id other k v w records lists answers is is' = subst (λ (z : View × View). Joins Holds id z.0 other z.1 (taken_back z.0 z.1) spent_view) (λ i. (sym is i, sym is' i)) (takes_back id other k records lists answers)

-- what the look after a join says about the hand
pub seen_agrees : (slots k found : ℕ) (me me' : Seated) (records : List Record) (lists : List AnswerList) (answers : List Answer) → me ≡ (keeper_view records (lists ++ list k answers ∷ []), [])
    → was_seen (step slots k 0 0 none) me found me' → (r : Record) × (slice_get records k ≡ Some r) × AnswersAgree r answers
seen_agrees slots k found me me' records lists answers is told =
    let t = (subst (λ (m : Seated). was_seen (step slots k 0 0 none) m found me') is told).1 (length lists) (list k answers) (at_last lists (list k answers) (length lists) refl) refl in
    (t.0, elem_got records k t.0 t.1, t.2.1)

-- what a close says about the hands that the keeper has
pub counts_gathered : (slots k found : ℕ) (me : Seated) (result : UserVerdict) → result ≡ verdict_of found → Counts (step slots k 8 0 none) me found
    → (l : AnswerList) → Contains me.0.lists l → l.run ≡ k → given result ≡ worst_answer (carried_by me.0.records k) l.answers
counts_gathered slots k found me result is counts l there run = let at = contained_at me.0.lists l there in ap given is ∙ counts at.0 l at.1 run
