-- What workers left, one after another.
use Rattle.std.proofs.{Common.{ℕ, zero, suc, ◌≡◌, ◌≢◌, ◌<◌, ◌+◌, ◌==◌, ◌||◌, inl, inr, Bool, true, false, Some, None, Result, Ok, Err, IfOk, List, [], ◌∷◌, ◌++◌, length, get_or, map, reverse, refl, sym, ap, subst, ◌∙◌, arith}, lemmas.{Bool.Decides.nat_tests, List.{Elements.All-get_or, append-nil}}}
use Rattle.tc_rules.specs.{Prelude.{Entry, comp_of, Run, Reply, is_ended, is_fault, is_ok, Op}, declared.{closed.Closed.Closed, refusal.CaseError.{CaseError, TheVariants.{NoMemory, Torn}}}}
use Rattle.tc_book.{specs.{Prelude.{IsFitting, IsOneEach, IsWhole, start_of, PassState, LeftState, has_ended, with_own_entry}, Inside.comp_by}, proofs.Lemmas.PartOf.comp_is}
use Rattle.tc_exec.specs.{Case.{AreCalled, IsHandedBack, IsMadeOf, IsOutOfMemory}, Inside.{AreLeftBy, Gathers, HasActed, HasStarved, IsOneStarved, IsWorked, is_starved}, Workers.{IsLeftBy, WasCalled, opening_pass, HasLeft}, declared.{gathered.Gathered.Gathered, handed.Handed.Handed, job.{Back.Back, Ending.Ending}}}

-- memory ran out neither before nor now
pub neither : (before now after : Bool) → after ≡ (before || now) → after ≡ false → (before ≡ false) × (now ≡ false)
neither false false after is none = (refl, refl)
neither true now after is none = absurd cc
neither false true after is none = absurd cc

came_back : (e : Ending) → is_starved e ≡ false → e ≡ Ending.Returned
came_back Ending.Returned none = refl
came_back Ending.Starved none = absurd cc

ran_out : (e : Ending) → is_starved e ≡ true → e ≡ Ending.Starved
ran_out Ending.Starved some = refl
ran_out Ending.Returned some = absurd cc

-- one more that was left keeps the first
pub first_kept : (d : LeftState) (old now after : List LeftState) (x : LeftState) → (0 < length old → (0 < length now) × (get_or now 0 d ≡ get_or old 0 d)) → after ≡ now ++ x ∷ [] →
    0 < length old → (0 < length after) × (get_or after 0 d ≡ get_or old 0 d)
first_kept d old [] after x was is some = absurd (omega (arith, (was some).0))
first_kept d old (n ∷ now) after x was is some = rw is (omega arith, (was some).1)

module _ {B : Type 0} (outcome : B → PassState → Back → Type 0) where
  -- what a worker handed back whose behaviour did not run out of memory
  pub left_by : (run : Run) (b : B) (h : Handed) → is_starved h.ending ≡ false → IsWorked run (outcome b) h → IsLeftBy outcome run b h.left
  left_by run b h none (inl unstarted) = inl (ap (λ m. m.left) unstarted)
  left_by run b h none (inr w) = inr (
    record { given = w.pass; handed = w.called.back; own = w.own; new = w.new; main = w.main; outcome_of = w.called.outcome_of; left = w.called.left },
    sym w.called.ending ∙ came_back h.ending none,
  )

  pushed : (runs : List Run) (bs : List B) (ls : List LeftState) (run : Run) (b : B) (l : LeftState) →
      AreLeftBy outcome runs bs ls → IsLeftBy outcome run b l → AreLeftBy outcome (runs ++ run ∷ []) (bs ++ b ∷ []) (ls ++ l ∷ [])
  pushed [] [] [] run b l all one = (one, tt)
  pushed (_ ∷ runs) (_ ∷ bs) (_ ∷ ls) run b l all one = (all.0, pushed runs bs ls run b l all.1 one)
  pushed [] [] (_ ∷ ls) run b l all one = absurd all
  pushed [] (_ ∷ bs) ls run b l all one = absurd all
  pushed (_ ∷ runs) [] ls run b l all one = absurd all
  pushed (_ ∷ runs) (_ ∷ bs) [] run b l all one = absurd all

  over : {A W : Type 0} (f : W → A) (xs : List A) (ws : List W) (w : W) → (xs ++ map f ws) ++ f w ∷ [] ≡ xs ++ map f (ws ++ w ∷ [])
  over f [] [] w = refl
  over f [] (v ∷ ws) w = ap (λ q. f v ∷ q) (over f [] ws w)
  over f (x ∷ xs) ws w = ap (λ q. x ∷ q) (over f xs ws w)

  -- what a worker handed back whose behaviour ran out of memory
  starved_by : (run : Run) (b : B) (h : Handed) → is_starved h.ending ≡ true → IsWorked run (outcome b) h → HasStarved outcome run b
  starved_by run b h some (inl unstarted) = let bad : false ≡ true = sym (ap (λ m. is_starved m.ending) unstarted) ∙ some in absurd cc
  starved_by run b h some (inr w) = (
    h.left,
    record { given = w.pass; handed = w.called.back; own = w.own; new = w.new; main = w.main; outcome_of = w.called.outcome_of; left = w.called.left },
    sym w.called.ending ∙ ran_out h.ending some,
  )

  -- with one more, the one that ran out of memory is among them still
  one_stays : (runs : List Run) (bs : List B) (run : Run) (b : B) → IsOneStarved outcome runs bs → IsOneStarved outcome (runs ++ run ∷ []) (bs ++ b ∷ [])
  one_stays (_ ∷ runs) (_ ∷ bs) run b (inl this) = inl this
  one_stays (_ ∷ runs) (_ ∷ bs) run b (inr one) = inr (one_stays runs bs run b one)
  one_stays [] bs run b one = absurd one
  one_stays (_ ∷ runs) [] run b one = absurd one

  one_added : (runs : List Run) (bs : List B) (ls : List LeftState) (run : Run) (b : B) →
      AreLeftBy outcome runs bs ls → HasStarved outcome run b → IsOneStarved outcome (runs ++ run ∷ []) (bs ++ b ∷ [])
  one_added [] [] [] run b all this = inl this
  one_added (_ ∷ runs) (_ ∷ bs) (_ ∷ ls) run b all this = inr (one_added runs bs ls run b all.1 this)
  one_added [] [] (_ ∷ ls) run b all this = absurd all
  one_added [] (_ ∷ bs) ls run b all this = absurd all
  one_added (_ ∷ runs) [] ls run b all this = absurd all
  one_added (_ ∷ runs) (_ ∷ bs) [] run b all this = absurd all

  -- what one run more left was gathered
  pub gathered_more : (runs : List Run) (bs : List B) (run : Run) (b : B) (h : Handed) (before after : Gathered) → Gathers outcome runs bs before →
      IsWorked run (outcome b) h → after.lefts.items ≡ before.lefts.items ++ h.left ∷ [] → after.starved ≡ (before.starved || is_starved h.ending) →
      Gathers outcome (runs ++ run ∷ []) (bs ++ b ∷ []) after
  gathered_more runs bs run b h before after all worked is starved = record {
    lefts = λ none.
        let both = neither _ _ _ starved none in
        rw is (pushed runs bs before.lefts.items run b h.left (all.lefts both.0) (left_by run b h both.1 worked));
    one_starved = λ some. one before.starved (is_starved h.ending) all.lefts all.one_starved (λ now. starved_by run b h now worked) (sym starved ∙ some);
  }
    where
      one : (was now : Bool) → (was ≡ false → AreLeftBy outcome runs bs before.lefts.items) → (was ≡ true → IsOneStarved outcome runs bs) →
          (now ≡ true → HasStarved outcome run b) → (was || now) ≡ true → IsOneStarved outcome (runs ++ run ∷ []) (bs ++ b ∷ [])
      one true now left before_now this some = one_stays runs bs run b (before_now refl)
      one false true left before_now this some = one_added runs bs before.lefts.items run b (left refl) (this refl)
      one false false left before_now this some = absurd cc

  -- no worker was joined so far
  pub joined_none : (runs : List Run) (bs : List B) (g : Gathered) → Gathers outcome runs bs g → Gathers outcome (runs ++ []) (bs ++ []) g
  joined_none runs bs g all = rw (append-nil runs, append-nil bs) all

  -- one worker more was joined
  pub joined : {W : Type 0} (run : W → Run) (behaviour : W → B) (runs : List Run) (bs : List B) (ws : List W) (w : W) (h : Handed) (before after : Gathered) →
      Gathers outcome (runs ++ map run ws) (bs ++ map behaviour ws) before → IsWorked (run w) (outcome (behaviour w)) h →
      after.lefts.items ≡ before.lefts.items ++ h.left ∷ [] → after.starved ≡ (before.starved || is_starved h.ending) →
      Gathers outcome (runs ++ map run (ws ++ w ∷ [])) (bs ++ map behaviour (ws ++ w ∷ [])) after
  joined run behaviour runs bs ws w h before after all worked is starved =
      rw (← over run runs ws w, ← over behaviour bs ws w)
      (gathered_more (runs ++ map run ws) (bs ++ map behaviour ws) (run w) (behaviour w) h before after all worked is starved)

  -- as many runs left as there are behaviours
  as_many_left : (runs : List Run) (bs : List B) (ls : List LeftState) → AreLeftBy outcome runs bs ls → length ls ≡ length bs
  as_many_left [] [] [] all = refl
  as_many_left (_ ∷ runs) (_ ∷ bs) (_ ∷ ls) all = ap suc (as_many_left runs bs ls all.1)
  as_many_left [] [] (_ ∷ ls) all = absurd all
  as_many_left [] (_ ∷ bs) ls all = absurd all
  as_many_left (_ ∷ runs) [] ls all = absurd all
  as_many_left (_ ∷ runs) (_ ∷ bs) [] all = absurd all

  -- what run k left
  left_at : (runs : List Run) (bs : List B) (ls : List LeftState) → AreLeftBy outcome runs bs ls → (k : ℕ) (run : Run) (b : B) (l : LeftState) → k < length bs →
      IsLeftBy outcome (get_or runs k run) (get_or bs k b) (get_or ls k l) × (k < length runs)
  left_at [] [] [] all k run b l below = absurd (omega arith)
  left_at (_ ∷ runs) (_ ∷ bs) (_ ∷ ls) all zero run b l below = (all.0, omega arith)
  left_at (_ ∷ runs) (_ ∷ bs) (_ ∷ ls) all (suc k) run b l below = let h = left_at runs bs ls all.1 k run b l (omega arith) in (h.0, omega (arith, h.1))
  left_at [] [] (_ ∷ ls) all k run b l below = absurd all
  left_at [] (_ ∷ bs) ls all k run b l below = absurd all
  left_at (_ ∷ runs) [] ls all k run b l below = absurd all
  left_at (_ ∷ runs) (_ ∷ bs) [] all k run b l below = absurd all

  left_numbered : (runs : List Run) (bs : List B) (ls : List LeftState) → AreLeftBy outcome runs bs ls → ((k : ℕ) (run : Run) → k < length runs → (get_or runs k run).0 ≡ k) →
      (k : ℕ) (b : B) (l : LeftState) → k < length bs → IsLeftBy outcome (record { 0 = k }) (get_or bs k b) (get_or ls k l)
  left_numbered runs bs ls all number k b l below =
      let h = left_at runs bs ls all k (record { 0 = 0 }) b l below in
      let same : get_or runs k (record { 0 = 0 }) ≡ record { 0 = k } = ap (λ m. let r : Run = record { 0 = m } in r) (number k (record { 0 = 0 }) h.1) in
      subst (λ r. IsLeftBy outcome r (get_or bs k b) (get_or ls k l)) same h.0

  pub unstarted_comp : (b : ℕ) → 0 < b → comp_by b None ≡ None
  unstarted_comp b above = let k : (b == 0) ≡ false = grind (arith, nat_tests) in rw k refl

  -- a started run above 0 was not left unstarted
  of_one : (history : List Entry) (run : Run) (b : B) (l : LeftState) → IsLeftBy outcome run b l → 0 < run.0 → IsFitting history l → comp_of (reverse history) run.0 ≢ None →
      (m : LeftState) × WasCalled (outcome b) run m
  of_one history run b l (inr w) above fits started = (l, w.0)
  of_one history run b l (inl e) above fits started =
      let own : l.run ≡ run = ap (λ m. m.run) e in
      let none : l.started ≡ None = ap (λ m. m.started) e in
      let known : l.started ≡ start_of (reverse history) l.run.0 = fits.started (rw own above) in
      let start : start_of (reverse history) run.0 ≡ None = rw (← own) (sym known ∙ none) in
      absurd (started (comp_is (reverse history) run.0 ∙ (rw start (unstarted_comp run.0 above))))

  -- the main behaviour was not left unstarted
  of_main : (b : B) (l : LeftState) → IsLeftBy outcome (record { 0 = 0 }) b l → l.started ≢ None → (m : LeftState) × WasCalled (outcome b) (record { 0 = 0 }) m
  of_main b l (inr w) some = (l, w.0)
  of_main b l (inl e) some = absurd (some (ap (λ m. m.started) e))

  pub all_called : (c : Closed) (bs : List B) → IsMadeOf outcome bs c → AreCalled outcome bs c
  all_called c bs made = λ k b below started. by k b below started
    where
      nothing : LeftState
      nothing = record { run = record { 0 = 0 }; log = []; started = None }

      by : (k : ℕ) (b : B) → k < length bs → comp_of (reverse c.history) k ≢ None → (m : LeftState) × WasCalled (outcome (get_or bs k b)) (record { 0 = k }) m
      by zero b below started = of_main (get_or bs 0 b) (get_or made.handed.lefts 0 nothing) (made.handed.left 0 b nothing below) (made.handed.main nothing)
      by (suc k) b below started =
          let above : 0 < suc k = omega arith in
          of_one c.history (record { 0 = suc k }) (get_or bs (suc k) b) (get_or made.handed.lefts (suc k) nothing) (made.handed.left (suc k) b nothing below) above
          (All-get_or (IsFitting c.history) made.handed.lefts (suc k) nothing (omega (arith, below, made.handed.as_many)) made.whole.fitting) started

  -- what the main behaviour left, as the first of all
  pub main_left : (p : PassState) (b : B) (h : Handed) (before after : Gathered) → p ≡ opening_pass → HasActed (outcome b p) h →
      before.lefts.items ≡ [] → before.starved ≡ false →
      after.lefts.items ≡ before.lefts.items ++ h.left ∷ [] → after.starved ≡ (before.starved || is_starved h.ending) →
      Gathers outcome (record { 0 = 0 } ∷ []) (b ∷ []) after
  main_left p b h before after is called empty fed taken starved =
      let own : p.run ≡ record { 0 = 0 } = ap (λ q. q.run) is in
      let new : p.log ≡ [] = ap (λ q. q.log) is in
      let none : Gathers outcome [] [] before = record { lefts = λ _. rw empty tt; one_starved = λ some. let bad : false ≡ true = sym fed ∙ some in absurd cc } in
      gathered_more [] [] (record { 0 = 0 }) b h before after none (inr (record { pass = p; own = own; new = new; main = λ _. is; called = called })) taken starved

  -- run 0, and then the others from 1 on
  pub numbered : (runs : List Run) → ((k : ℕ) (run : Run) → k < length runs → (get_or runs k run).0 ≡ k + 1) →
      (k : ℕ) (run : Run) → k < length (let r : List Run = record { 0 = 0 } ∷ runs in r) → (get_or (let r : List Run = record { 0 = 0 } ∷ runs in r) k run).0 ≡ k
  numbered runs h zero run below = refl
  numbered runs h (suc k) run below = h k run (omega arith) ∙ omega arith

  -- what the main behaviour left is not that of a run that was never started
  pub main_started : (p : PassState) (b : B) (h : Handed) → HasActed (outcome b p) h → (ls taken : List LeftState) (l : LeftState) → taken ≡ h.left ∷ [] →
      (0 < length taken → get_or ls 0 l ≡ get_or taken 0 l) → (get_or ls 0 l).started ≢ None
  main_started p b h called ls taken l is first started =
      let found : get_or ls 0 l ≡ h.left = first (rw is (omega arith)) ∙ (rw is refl) in
      let bad : Some (called.back.pass.me, called.back.pass.args) ≡ None = sym called.left.started ∙ ap (λ m. m.started) (sym found) ∙ started in
      absurd cc

  -- what was handed back of a case in which no behaviour ran out of memory
  abbrev handed_back : (runs : List Run) (bs : List B) (ls : List LeftState) → AreLeftBy outcome runs bs ls →
      ((k : ℕ) (run : Run) → k < length runs → (get_or runs k run).0 ≡ k) → ((l : LeftState) → (get_or ls 0 l).started ≢ None) → IsHandedBack outcome bs
  handed_back runs bs ls all number main =
      record { lefts = ls; as_many = as_many_left runs bs ls all; left = left_numbered runs bs ls all number; main = main }

  -- a report is made only if memory ran out in no behaviour
  pub report_made : (result : Result Closed CaseError) (starved : Bool) (runs : List Run) (bs : List B) (ls : List LeftState) →
      (starved ≡ true → result ≡ Err NoMemory) → (starved ≡ false → AreLeftBy outcome runs bs ls) →
      ((k : ℕ) (run : Run) → k < length runs → (get_or runs k run).0 ≡ k) →
      ((l : LeftState) → (get_or ls 0 l).started ≢ None) →
      IfOk result (λ c. IsWhole c.behaviours c.history ls) → IfOk result (IsMadeOf outcome bs)
  report_made (Ok c) false runs bs ls refused all number main whole = record { handed = handed_back runs bs ls (all refl) number main; whole = whole }
  report_made (Ok c) true runs bs ls refused all number main whole = let bad = refused refl in absurd cc
  report_made (Err e) starved runs bs ls refused all number main whole = tt

  -- each behaviour whose run was started was called for what the report is made of
  pub report_called : (result : Result Closed CaseError) (bs : List B) → IfOk result (IsMadeOf outcome bs) → IfOk result (AreCalled outcome bs)
  report_called (Ok c) bs made = all_called c bs made
  report_called (Err e) bs made = tt

  -- if a case is torn, memory ran out in no behaviour
  pub torn_handed : (result : Result Closed CaseError) (starved : Bool) (runs : List Run) (bs : List B) (ls : List LeftState) →
      (starved ≡ true → result ≡ Err NoMemory) → (starved ≡ false → AreLeftBy outcome runs bs ls) →
      ((k : ℕ) (run : Run) → k < length runs → (get_or runs k run).0 ≡ k) →
      ((l : LeftState) → (get_or ls 0 l).started ≢ None) →
      result ≡ Err Torn → IsHandedBack outcome bs
  torn_handed result false runs bs ls refused all number main torn = handed_back runs bs ls (all refl) number main
  torn_handed (Err e) true runs bs ls refused all number main torn = let bad = refused refl in absurd cc
  torn_handed (Ok c) true runs bs ls refused all number main torn = absurd cc

  -- the run in whose behaviour memory ran out
  starved_at : (runs : List Run) (bs : List B) → IsOneStarved outcome runs bs →
      (k : ℕ) × (k < length bs) × (k < length runs) × ((run : Run) (b : B) → HasStarved outcome (get_or runs k run) (get_or bs k b))
  starved_at (_ ∷ runs) (_ ∷ bs) (inl this) = (0, omega arith, omega arith, λ run b. this)
  starved_at (_ ∷ runs) (_ ∷ bs) (inr one) = let h = starved_at runs bs one in (suc h.0, omega (arith, h.1), omega (arith, h.2), λ run b. h.3 run b)
  starved_at [] bs one = absurd one
  starved_at (_ ∷ runs) [] one = absurd one

  -- if a case is out of memory, it ran out in a behaviour, or one of each run was handed back
  pub out_of_memory : (starved : Bool) (runs : List Run) (bs : List B) (ls : List LeftState) →
      (starved ≡ false → AreLeftBy outcome runs bs ls) → (starved ≡ true → IsOneStarved outcome runs bs) →
      ((k : ℕ) (run : Run) → k < length runs → (get_or runs k run).0 ≡ k) →
      ((l : LeftState) → (get_or ls 0 l).started ≢ None) →
      (starved ≡ false → IsOneEach (length ls) ls) → IsOutOfMemory outcome bs
  out_of_memory false runs bs ls all one number main each =
      inr (handed_back runs bs ls (all refl) number main, subst (λ n. IsOneEach n ls) (as_many_left runs bs ls (all refl)) (each refl))
  out_of_memory true runs bs ls all one number main each =
      let h = starved_at runs bs (one refl) in
      let same : get_or runs h.0 (record { 0 = 0 }) ≡ record { 0 = h.0 } = ap (λ m. let r : Run = record { 0 = m } in r) (number h.0 (record { 0 = 0 }) h.2) in
      inl (h.0, h.1, λ b. subst (λ r. HasStarved outcome r (get_or bs h.0 b)) same (h.3 (record { 0 = 0 }) b))

pub has_left : (p : PassState) (l : LeftState) → l.run ≡ p.run → l.started ≡ Some (p.me, p.args) → (has_ended p ≡ true → l.log ≡ p.log) →
    (has_ended p ≡ false → (r : Reply) × (l.log ≡ (with_own_entry p Op.Finish r).log) × ((is_ok r || is_ended r || is_fault r) ≡ true)) → HasLeft p l
has_left p l run started ended finished = record {
  run = run;
  started = started;
  ended = ended;
  finished = finished;
}
