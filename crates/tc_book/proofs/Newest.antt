-- The words after the newest entry, before any word is closed.
use Rattle.std.proofs.{Common.{ℕ, ◌≡◌, ◌<◌, ◌&&◌, not, Bool, true, false, Some, None, is_some, List, [], ◌∷◌, ◌++◌, drop, reverse, refl, ap, sym, ◌∙◌, subst, inl, inr}, lemmas.Bool.cases_eq, lemmas.List.reverse-append}
use Rattle.tc_rules.{specs.Prelude.{Run, UserVerdict, Comp, Entry, Op, Reply, comp_of, halts, start_in, is_active, may_halt, IsLegal}, proofs.{Lemmas.Going.{halted_by_entry, others_halt_nothing, started_by_entry}, Lemmas.Sound.starts_fresh}}
use Rattle.tc_board.specs.declared.record.Record.{Record, TheVariants.Open}
use Rattle.tc_book.{specs.{Inside.Words.{CanBegin, WordsLag, is_open, with_start, carried_to, carried_to_newest}, Words.{StayClosed, WordsAgree, carried, closing, record_at}}, proofs.{Lagging.{after_entry, can_begin, entry, same_test, start}, Settling.{all_agree, at_other, open_means, stay_closed}}}

both : (a h : Bool) → a ≡ true → h ≡ false → (a && not h) ≡ true
both true false p q = refl
both false h p q = absurd cc
both true true p q = absurd cc

-- a run with an open word continues after an entry that halts nothing
goes_on : (n : ℕ) (past : List Entry) (e : Entry) (words : List Record) (b : ℕ) → IsLegal n (e ∷ past) → WordsAgree n past words → may_halt e.op e.reply ≡ false → b < n →
    is_open (record_at words b) ≡ true → is_active (e ∷ past) b ≡ true
goes_on n past e words b legal agree quiet less h =
    let m = open_means (comp_of past b) (is_active past b) (carried words past b) (record_at words b) (agree.each b less) h in
    halted_by_entry n past e b m.0 legal m.1 ∙ both (is_active past b) (halts (comp_of past e.caller.0) e m.0.0) m.2 (others_halt_nothing (comp_of past e.caller.0) e m.0.0 quiet)

-- so does the run that the entry starts
starts_going : (n : ℕ) (past : List Entry) (caller : Run) (comp : Comp) (run : Run) (args : List Comp) → IsLegal n (start caller comp run args ∷ past) →
    is_active (start caller comp run args ∷ past) run.0 ≡ true
starts_going n past caller comp run args legal =
    let e : Entry = start caller comp run args in
    let begins : start_in e comp.0 ≡ Some run = rw (same_test comp.0) refl in
    let free : comp_of past run.0 ≡ None = (starts_fresh n past e comp.0 run legal.0 begins).1.free in
    started_by_entry n past e run.0 legal free ∙ rw (same_test run.0) refl

-- each open word is of a run that continues after the entry
open_go_on : (n : ℕ) (past : List Entry) (words : List Record) (caller : Run) (op : Op) (reply : Reply) (u : UserVerdict) →
    IsLegal n (entry caller op reply ∷ past) → WordsAgree n past words → may_halt op reply ≡ false → (b : ℕ) → b < n →
    is_open (record_at (with_start op reply u words) b) ≡ true → is_active (entry caller op reply ∷ past) b ≡ true
open_go_on n past words caller (Op.Start c run args) Reply.Ok u legal agree quiet b less h =
    elim (cases_eq b run.0) [
      | inl same ↦ subst (λ k. is_active (start caller c run args ∷ past) k ≡ true) (sym same) (starts_going n past caller c run args legal)
      | inr other ↦
          goes_on n past (start caller c run args) words b legal agree quiet less
          (sym (ap is_open (at_other words run.0 b (Open u) other)) ∙ h)
    ]
open_go_on n past words caller (Op.Start c run args) reply u legal agree quiet b less h = goes_on n past (entry caller (Op.Start c run args) reply) words b legal agree quiet less h
open_go_on n past words caller op reply u legal agree quiet b less h = goes_on n past (entry caller op reply) words b legal agree quiet less h

-- the words lag at most
pub lags_at_most : (n : ℕ) (whole past : List Entry) (e : Entry) (words after : List Record) (u : UserVerdict) → whole ≡ e ∷ past → IsLegal n whole → WordsAgree n (drop 1 whole) words →
    u ≡ carried_to_newest words whole → after ≡ with_start e.op e.reply u words → WordsLag n whole after 0
lags_at_most n whole past e words after u is legal agree carries begun =
    let now : IsLegal n (e ∷ past) = subst (λ p. IsLegal n p) is legal in
    let before : WordsAgree n past words = subst (λ p. WordsAgree n (drop 1 p) words) is agree in
    let begins : u ≡ carried_to words past e.op = carries ∙ ap (carried_to_newest words) is in
    rw (begun, begins, is) (after_entry n past words e.caller e.op e.reply now before)

-- and not at all if the entry halts nothing
pub agree_quietly : (n : ℕ) (whole past : List Entry) (e : Entry) (words after : List Record) (u : UserVerdict) → whole ≡ e ∷ past → IsLegal n whole → WordsAgree n (drop 1 whole) words →
    u ≡ carried_to_newest words whole → after ≡ with_start e.op e.reply u words → may_halt e.op e.reply ≡ false → WordsAgree n whole after
agree_quietly n whole past e words after u is legal agree carries begun quiet =
    let p = lags_at_most n whole past e words after u is legal agree carries begun in
    let now : IsLegal n (e ∷ past) = subst (λ p. IsLegal n p) is legal in
    let before : WordsAgree n past words = subst (λ p. WordsAgree n (drop 1 p) words) is agree in
    all_agree n whole after (record {
      as_many = p.as_many;
      each = p.each;
      before = p.before;
      settled = rw (begun, is) (open_go_on n past words e.caller e.op e.reply u now before quiet);
    })

-- the word that the entry begins is unbegun
pub can_begin_newest : (n : ℕ) (whole past : List Entry) (e : Entry) (words : List Record) → whole ≡ e ∷ past → IsLegal n whole → WordsAgree n (drop 1 whole) words → CanBegin e.op e.reply words
can_begin_newest n whole past e words is legal agree =
    let now : IsLegal n (e ∷ past) = subst (λ p. IsLegal n p) is legal in
    can_begin n past words e.caller e.op e.reply (subst (λ p. WordsAgree n (drop 1 p) words) is agree) now.0

-- the word that an entry begins was not closed
pub begun_stay_closed : (op : Op) (reply : Reply) (u : UserVerdict) (words : List Record) → CanBegin op reply words → StayClosed words (with_start op reply u words)
begun_stay_closed (Op.Start c run args) Reply.Ok u words can = stay_closed words run.0 (Open u) (ap (λ x. is_some (closing x)) can.1)
begun_stay_closed (Op.Start c run args) reply u words can = λ b h. refl
begun_stay_closed op reply u words can = λ b h. refl

-- one more entry is the newest
pub past_more : (h : List Entry) (e : Entry) → reverse (h ++ e ∷ []) ≡ e ∷ reverse h
past_more h e = reverse-append h (e ∷ [])

-- the newest entry and those before it
pub newest : (h before : List Entry) (e : Entry) → h ≡ before ++ e ∷ [] → reverse h ≡ e ∷ reverse before
newest h before e is = rw is (past_more before e)
