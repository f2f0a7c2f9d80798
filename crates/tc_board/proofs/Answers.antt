-- What one more answer does to the answers of a hand.
use Rattle.std.proofs.{Common.{◌≡◌, ◌≢◌, ◌⊎◌, ℕ, ◌<◌, Bool, true, false, if◌then◌else◌, nat_lt, Some, slice_get, List, [], ◌∷◌, ◌++◌, map, refl, sym, ap, ◌∙◌, subst, ⊎_elim, arith}, lemmas.List.{take-append-le, take_at, append-nil}}
use Rattle.tc_entry.specs.Prelude.{UserVerdict, level_of, worse, worst, given}
use Rattle.tc_verdict.proofs.Lemmas.Order.{worst-more}
use Rattle.tc_board.{specs.{Answers.{FindsWorst, taken, worst_answer}, declared.answer.Answer.Answer, declared.answer.Answer.TheVariants.{Found, Met, Shut, Taken}}, proofs.Lookup.got_end}

taken-end : (answers : List Answer) (x : Answer) → taken (answers ++ x ∷ []) ≡ taken answers ++ taken (x ∷ [])
taken-end [] x = refl
taken-end (Taken v ∷ answers) x = ap (λ vs. v ∷ vs) (taken-end answers x)
taken-end (_ ∷ answers) x = taken-end answers x

map-end : (vs : List UserVerdict) (v : UserVerdict) → map given (vs ++ v ∷ []) ≡ map given vs ++ given v ∷ []
map-end [] v = refl
map-end (w ∷ vs) v = ap (λ l. given w ∷ l) (map-end vs v)

-- a setting that is taken worsens the worst
pub worst_of-taken : (u : UserVerdict) (answers : List Answer) (v : UserVerdict) → worst_answer u (answers ++ Taken v ∷ []) ≡ worse (worst_answer u answers) (given v)
worst_of-taken u answers v =
    ap (λ vs. worst (given u ∷ map given vs)) (taken-end answers (Taken v))
    ∙ (ap (λ l. worst (given u ∷ l)) (map-end (taken answers) v) ∙ worst-more (given u ∷ map given (taken answers)) (given v))

-- any other answer leaves it
pub worst_of-other : (u : UserVerdict) (answers : List Answer) (x : Answer) → taken (x ∷ []) ≡ [] → worst_answer u (answers ++ x ∷ []) ≡ worst_answer u answers
worst_of-other u answers x none_taken = ap (λ vs. worst (given u ∷ map given vs)) (taken-end answers x ∙ (ap (λ vs. taken answers ++ vs) none_taken ∙ append-nil (taken answers)))

-- the worst of settings is a setting
worst_given : (vs : List UserVerdict) → (w : UserVerdict) × (given w ≡ worst (map given vs))
worst_given [] = (UserVerdict.None, refl)
worst_given (v ∷ vs) = let w = worst_given vs in by_test (nat_lt (level_of (worst (map given vs))) (level_of (given v))) w
  where
    by_test : (t : Bool) → (w : UserVerdict) × (given w ≡ worst (map given vs)) → (w : UserVerdict) × (given w ≡ (if t then given v else worst (map given vs)))
    by_test true w = (v, refl)
    by_test false w = w

worst_of-given : (u : UserVerdict) (answers : List Answer) → (w : UserVerdict) × (given w ≡ worst_answer u answers)
worst_of-given u answers = worst_given (u ∷ taken answers)

-- the number in an open word is the rank of the worst
pub rank_in : (u : UserVerdict) (answers : List Answer) (found : ℕ) → found ≡ level_of (worst_answer u answers) → (w : UserVerdict) × (given w ≡ worst_answer u answers) × (found ≡ level_of (given w))
rank_in u answers found is = let w = worst_of-given u answers in (w.0, w.1, is ∙ ap level_of (sym w.1))

pub finds-end : (u : UserVerdict) (answers : List Answer) (x : Answer) → FindsWorst u answers → ((v : UserVerdict) → x ≡ Found v → given v ≡ worst_answer u answers) → FindsWorst u (answers ++ x ∷ [])
finds-end u answers x finds last i v e = ⊎_elim
    (λ t. let less = t.0 in finds i v t.1 ∙ ap (worst_answer u) (sym (take-append-le i answers (x ∷ []) (omega arith))))
    (λ t. last v t.1 ∙ ap (worst_answer u) (sym (take_at answers (x ∷ []) i (sym t.0))))
    (got_end answers x (Found v) i e)

-- no call found the word closed
abbrev pub NeverShut : List Answer → Type 0
NeverShut answers = (i : ℕ) → slice_get answers i ≢ Some Shut

-- once a call found the word closed, no setting is taken and no verdict is found
abbrev pub StaysShut : List Answer → Type 0
StaysShut answers = (i j : ℕ) (answer : Answer) → slice_get answers i ≡ Some Shut → i < j → slice_get answers j ≡ Some answer → (answer ≡ Shut) ⊎ (answer ≡ Met)

pub never-end : (answers : List Answer) (x : Answer) → NeverShut answers → x ≢ Shut → NeverShut (answers ++ x ∷ [])
never-end answers x never other i e = ⊎_elim (λ t. never i t.1) (λ t. other t.1) (got_end answers x Shut i e)

pub never-stays : (answers : List Answer) → NeverShut answers → StaysShut answers
never-stays answers never i j x e less at = absurd (never i e)

pub stays-end : (answers : List Answer) (x : Answer) → StaysShut answers → (x ≡ Shut) ⊎ (x ≡ Met) → StaysShut (answers ++ x ∷ [])
stays-end answers x stays is i j y e less at = ⊎_elim
    (λ t. ⊎_elim (λ s. stays i j y s.1 less t.1) (λ s. let a = t.0 in let b = s.0 in absurd (omega arith)) (got_end answers x Shut i e))
    (λ t. subst (λ z. (z ≡ Shut) ⊎ (z ≡ Met)) t.1 is)
    (got_end answers x y j at)
