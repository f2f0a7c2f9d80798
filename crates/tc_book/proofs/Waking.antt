-- A quiet entry wakes nobody.
use Rattle.std.proofs.{Common.{ℕ, ◌≡◌, ◌&&◌, not, if◌then◌else◌, Bool, true, false, Option, Some, None, [], ◌∷◌, reverse, refl, ap, subst, sym, ◌∙◌}, lemmas.List.reverse-append}
use Rattle.tc_rules.{specs.Prelude.{Run, Entry, Op, Reply, is_ok, first_some, IsLegal, keeps_phases, lets_go_on}, proofs.Lemmas.Quiet.quiet_wakes_nobody}
use Rattle.tc_book.specs.{OpenCase.OpenCase, OpenCase.open_past, OpenCase.reply_to, OpenCase.with_entry, OpenCase.start_of, OpenCase.started_with, Inside.starts_with, OpenCase.NobodyWakes}

both : (a b : Bool) → a ≡ true → b ≡ true → (a && b) ≡ true
both true b h k = k
both false b h k = absurd cc

if_same : {A : Type 0} (t : Bool) (x : A) → (if t then x else x) ≡ x
if_same true x = refl
if_same false x = refl

first_alone : {A : Type 0} (o : Option A) → first_some o None ≡ o
first_alone (Some x) = refl
first_alone None = refl

none_started : (op : Op) (b : ℕ) → keeps_phases op ≡ true → starts_with op b ≡ None
none_started (Op.Start c run args) b h = absurd cc
none_started _ b h = refl

silent_quiet : (before after : OpenCase) (run : Run) (op : Op) (r : Reply) → IsLegal before.behaviours (open_past before) → after.behaviours ≡ before.behaviours → r ≡ reply_to before run op → after.history ≡ with_entry before run op r →
    keeps_phases op ≡ true → lets_go_on r ≡ true → NobodyWakes before after
silent_quiet before after run op r legal same reply added keeps goes =
    let e : Entry = record { caller = run; op = op; reply = r } in
    let past : open_past after ≡ e ∷ open_past before = ap reverse added ∙ reverse-append before.history (e ∷ []) in
    let w = quiet_wakes_nobody before.behaviours (open_past before) e (reply, legal) (both (keeps_phases op) (lets_go_on r) keeps goes) in
    let none : (b : ℕ) → started_with op r b ≡ None = λ b. rw (none_started op b keeps) (if_same (is_ok r) None) in
    record {
      parked = λ b k t h. rw (same, past) (w.parked b.0 k t h);
      starts = λ b. rw past (rw (none b) (first_alone (start_of (open_past before) b)));
      over = rw past w.over;
    }

told : (keeps goes : Bool) → not (keeps && goes) ≡ false → (keeps ≡ true) × (goes ≡ true)
told true true h = (refl, refl)
told true false h = absurd cc
told false goes h = absurd cc

-- the same, as a call has it: v is what the book shows before
pub silent : (v before after : OpenCase) (run : Run) (op : Op) (r : Reply) (tells : Bool) → v ≡ before → IsLegal v.behaviours (open_past v) → after.behaviours ≡ before.behaviours → r ≡ reply_to before run op → after.history ≡ with_entry before run op r →
    tells ≡ not (keeps_phases op && lets_go_on r) → tells ≡ false → NobodyWakes before after
silent v before after run op r tells view legal same reply added is h =
    let k = told (keeps_phases op) (lets_go_on r) (sym is ∙ h) in
    silent_quiet before after run op r (subst (λ (b : OpenCase). IsLegal b.behaviours (open_past b)) view legal) same reply added k.0 k.1
