-- The test cases that an observer was given, one after another, and what one that keeps them has then.
use Rattle.std.{proofs.{Common.{ℕ, ◌≡◌, ◌∙◌, ◌≤◌, ◌<◌, ◌+◌, Option, ◌++◌, ◌∷◌, [], true, false, List, length, arith, sym, ap, append_assoc, Bool, refl, subst}, lemmas.List.{append-nil, length-append}}, specs.{Global.Vec, Vec.{vec_capacity, vec_len}}}
use Rattle.tc_report.specs.{Inside.IsEndedAt, Observers.{AreTaken, Keeps, KeepsTimes}, declared.results.{Finished.Finished, Kept.Kept}}

-- if there is room for them, those that it was given are kept after the others, and the room stays
all_kept : (fs : List Finished) (before after : Kept) → AreTaken Keeps fs before after → length before.finished.items + length fs ≤ vec_capacity before.finished
    → (after.finished.items ≡ before.finished.items ++ fs) × (vec_capacity after.finished ≡ vec_capacity before.finished)
all_kept [] before after same fits = (ap (λ (k : Kept). k.finished.items) same ∙ sym (append-nil before.finished.items), ap (λ (k : Kept). vec_capacity k.finished) same)
all_kept (f ∷ fs) before after taken fits =
    let one = taken.1 (omega (arith, fits)) in
    let long = ap length one.1 ∙ length-append before.finished.items (f ∷ []) in
    let rest = all_kept fs taken.0 after taken.2 (omega (arith, fits, long, one.2)) in
    (rest.0 ∙ ap (λ l. l ++ fs) one.1 ∙ append_assoc before.finished.items (f ∷ []) fs, rest.1 ∙ one.2)

module _ (fs : List Finished) (before after : Kept) (none : before.finished.items ≡ []) (room : length fs ≤ vec_capacity before.finished) where
  fits : length before.finished.items + length fs ≤ vec_capacity before.finished
  fits = omega (arith, ap length none, room)

  -- if there is room for all that it was given, it keeps them
  pub are_kept : AreTaken Keeps fs before after → after.finished.items ≡ fs
  are_kept taken = (all_kept fs before after taken fits).0 ∙ ap (λ l. l ++ fs) none

  -- and it never ends the campaign
  pub never_ended : IsEndedAt Keeps fs before after → ⊥
  never_ended ended =
      let long = ap length ended.all ∙ length-append ended.others (ended.last ∷ []) in
      let kept = all_kept ended.others before ended.between ended.each (omega (arith, fits, long)) in
      let there = ap length kept.0 ∙ length-append before.finished.items ended.others in
      let went : false ≡ true = (ended.at_last (omega (arith, fits, long, there, kept.1))).0 in
      absurd (cc went)

-- one test case more
pub taken_more : {O : Type 0} (takes : O → Finished → O → Bool → Type 0) (fs : List Finished) (f : Finished) (before between after : O)
    → AreTaken takes fs before between → takes between f after true → AreTaken takes (fs ++ f ∷ []) before after
taken_more takes [] f before between after same one = (after, subst (λ o. takes o f after true) same one, refl)
taken_more takes (g ∷ fs) f before between after all one = (all.0, all.1, taken_more takes fs f all.0 between after all.2 one)

-- a time more
pub one_kept : (time : Option (ℕ × ℕ)) (before after later : Vec (Option (ℕ × ℕ)))
    → (vec_len before < vec_capacity before → after.items ≡ before.items ++ time ∷ []) → vec_capacity after ≡ vec_capacity before → later ≡ after
    → KeepsTimes before 1 later
one_kept time before after later kept room same fits = (time ∷ [], refl, ap (λ v. v.items) same ∙ kept (omega (arith, fits)), ap vec_capacity same ∙ room)

-- some times, and others after them
kept_both : (n m : ℕ) (a b c : Vec (Option (ℕ × ℕ))) → KeepsTimes a n b → KeepsTimes b m c → KeepsTimes a (n + m) c
kept_both n m a b c p q fits =
    let one = p (omega (arith, fits)) in
    let long = ap length one.2 ∙ length-append a.items one.0 in
    let two = q (omega (arith, fits, long, one.1, one.3)) in
    let all = length-append one.0 two.0 in
    let count : length (one.0 ++ two.0) ≡ n + m = omega (arith, all, one.1, two.1) in
    (one.0 ++ two.0, count, two.2 ∙ ap (λ l. l ++ two.0) one.2 ∙ append_assoc a.items one.0 two.0, two.3 ∙ one.3)

-- if none was kept before, and there is room, as many are kept
pub as_many : (n : ℕ) (before after : Vec (Option (ℕ × ℕ))) → KeepsTimes before n after → before.items ≡ [] → n ≤ vec_capacity before → length after.items ≡ n
as_many n before after kept none room =
    let all = kept (omega (arith, ap length none, room)) in
    omega (arith, ap length all.2, length-append before.items all.0, ap length none, all.1)

module _ {O : Type 0} (takes : O → Finished → O → Bool → Type 0) (kept : O → Vec (Option (ℕ × ℕ)))
    (each : (before : O) (f : Finished) (after : O) (goes_on : Bool) → takes before f after goes_on → KeepsTimes (kept before) 1 (kept after)) where
  -- if of each test case one time is kept, of all as many are as they are
  pub all_timed : (fs : List Finished) (before after : O) → AreTaken takes fs before after → KeepsTimes (kept before) (length fs) (kept after)
  all_timed [] before after same = λ fits.
      ([], refl, ap (λ o. (kept o).items) same ∙ sym (append-nil (kept before).items), ap (λ o. vec_capacity (kept o)) same)
  all_timed (f ∷ fs) before after taken =
      let count : 1 + length fs ≡ length (f ∷ fs) = omega arith in
      subst (λ n. KeepsTimes (kept before) n (kept after)) count
      (kept_both 1 (length fs) (kept before) (kept taken.0) (kept after) (each before f taken.0 true taken.1) (all_timed fs taken.0 after taken.2))

  pub ended_timed : (fs : List Finished) (before after : O) → IsEndedAt takes fs before after → KeepsTimes (kept before) (length fs) (kept after)
  ended_timed fs before after ended =
      let long = ap length ended.all ∙ length-append ended.others (ended.last ∷ []) in
      subst (λ n. KeepsTimes (kept before) n (kept after)) (sym long)
      (kept_both (length ended.others) 1 (kept before) (kept ended.between) (kept after) (all_timed ended.others before ended.between ended.each)
      (each ended.between ended.last after false ended.at_last))
