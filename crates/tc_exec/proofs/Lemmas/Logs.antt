-- The logs of a report are those of the behaviours' passes.
use Rattle.std.proofs.{Common.{ℕ, zero, suc, ◌≡◌, ◌≢◌, ◌∙◌, ◌<◌, ◌≤◌, inl, inr, Option, Some, None, List, [], All, length, get_or, reverse, refl, sym, ap, subst, arith}, lemmas.List.Elements.{All-append, All-cons, All-nil, All-get_or}}
use Rattle.tc_rules.specs.{Prelude.{Run, Comp, Entry, comp_of, part, log_if, logs_below, IsOneHistory}, declared.closed.Closed.Closed}
use Rattle.tc_book.{specs.Prelude.{IsFitting, PassState, LeftState, start_of}, proofs.Lemmas.PartOf.comp_is}
use Rattle.tc_exec.{specs.{Case.{IsMadeOf, AreLogsBy, IsLogBy}, Workers.IsLeftBy, declared.job.Back.Back}, proofs.Lemmas.Calls.unstarted_comp}

module _ {B : Type 0} (outcome : B → PassState → Back → Type 0) (own : (b : B) (p : PassState) (k : Back) → outcome b p k → k.pass.run ≡ p.run) where
  -- the log of a run on a component, by what the run left
  of_left : (history : List Entry) (run : Run) (b : B) (l : LeftState) (c : Comp) → IsLeftBy outcome run b l → IsFitting history l →
      (run.0 ≡ 0 → l.started ≢ None) → comp_of (reverse history) run.0 ≡ Some c →
      IsLogBy (outcome b) history (record { run = run; comp = c; entries = part history run.0 })
  of_left history run b l c (inr w) fits main on =
      let same : l.run ≡ run = w.0.left.run ∙ own b w.0.given w.0.handed w.0.outcome_of ∙ w.0.own in
      record { left = l; called = w.0; returned = w.1; entries = sym (fits.part ∙ ap (λ r. part history r.0) same); started = λ above. fits.started (rw same above) ∙ ap (λ r. start_of (reverse history) r.0) same }
  of_left history run b l c (inl e) fits main on =
      let same : l.run ≡ run = ap (λ m. m.run) e in
      let none : l.started ≡ None = ap (λ m. m.started) e in
      absurd (unstarted run.0 refl same none)
    where
      unstarted : (k : ℕ) → run.0 ≡ k → l.run ≡ run → l.started ≡ None → ⊥
      unstarted zero is same none = main is none
      unstarted (suc k) is same none =
          let above : 0 < run.0 = omega (arith, is) in
          let start : start_of (reverse history) run.0 ≡ None = sym (ap (λ r. start_of (reverse history) r.0) same) ∙ sym (fits.started (rw same above)) ∙ none in
          let bad : Some c ≡ None = sym on ∙ comp_is (reverse history) run.0 ∙ (rw start (unstarted_comp outcome run.0 above)) in
          absurd cc

  log_one : (history : List Entry) (runs : List Run) (bs : List B) (ls : List LeftState) (behaviours : ℕ) (k : ℕ) (b : B) (o : Option Comp) →
      ((k : ℕ) (b : B) (c : Comp) → k < behaviours → comp_of (reverse history) k ≡ Some c → IsLogBy (outcome (get_or bs k b)) history (record { run = record { 0 = k }; comp = c; entries = part history k })) →
      k < behaviours → comp_of (reverse history) k ≡ o → All (λ l. IsLogBy (outcome (get_or bs l.run.0 b)) history l) (log_if o history k)
  log_one history runs bs ls behaviours k b None each below is = All-nil (λ l. IsLogBy (outcome (get_or bs l.run.0 b)) history l)
  log_one history runs bs ls behaviours k b (Some c) each below is =
      All-cons (λ l. IsLogBy (outcome (get_or bs l.run.0 b)) history l) (record { run = record { 0 = k }; comp = c; entries = part history k }) [] (each k b c below is)
      (All-nil (λ l. IsLogBy (outcome (get_or bs l.run.0 b)) history l))

  logs_up_to : (history : List Entry) (bs : List B) (behaviours n : ℕ) (b : B) → n ≤ behaviours →
      ((k : ℕ) (b : B) (c : Comp) → k < behaviours → comp_of (reverse history) k ≡ Some c → IsLogBy (outcome (get_or bs k b)) history (record { run = record { 0 = k }; comp = c; entries = part history k })) →
      All (λ l. IsLogBy (outcome (get_or bs l.run.0 b)) history l) (logs_below history n)
  logs_up_to history bs behaviours zero b most each = All-nil (λ l. IsLogBy (outcome (get_or bs l.run.0 b)) history l)
  logs_up_to history bs behaviours (suc n) b most each =
      All-append (λ l. IsLogBy (outcome (get_or bs l.run.0 b)) history l) (logs_below history n) (log_if (comp_of (reverse history) n) history n)
      (logs_up_to history bs behaviours n b (omega (arith, most)) each)
      (log_one history [] bs [] behaviours n b (comp_of (reverse history) n) each (omega (arith, most)) refl)

  -- the log of a run that was started is that of the behaviour of its number
  pub log_of_run : (c : Closed) (bs : List B) → IsMadeOf outcome bs c → (k : ℕ) (b : B) (comp : Comp) → k < length bs → comp_of (reverse c.history) k ≡ Some comp →
      IsLogBy (outcome (get_or bs k b)) c.history (record { run = record { 0 = k }; comp = comp; entries = part c.history k })
  log_of_run c bs made k b comp below on =
      let l : LeftState = record { run = record { 0 = 0 }; log = []; started = None } in
      let fits : IsFitting c.history (get_or made.handed.lefts k l) = All-get_or (IsFitting c.history) made.handed.lefts k l (omega (arith, below, made.handed.as_many)) made.whole.fitting in
      of_left c.history (record { 0 = k }) (get_or bs k b) (get_or made.handed.lefts k l) comp (made.handed.left k b l below) fits (λ zero_is. rw zero_is (made.handed.main l)) on

  -- if each behaviour hands back a pass of its own run
  pub logs_by : (c : Closed) (bs : List B) → IsOneHistory c → c.behaviours ≡ length bs → IsMadeOf outcome bs c → AreLogsBy outcome bs c
  logs_by c bs one count made b =
      subst (All (λ l. IsLogBy (outcome (get_or bs l.run.0 b)) c.history l)) (sym one.logs)
      (logs_up_to c.history bs (length bs) c.behaviours b (omega (arith, count)) (log_of_run c bs made))
