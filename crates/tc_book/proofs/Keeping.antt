-- Rules for what a book keeps, at the opening and after one more entry: its places are counted, and its replies suit.
use Rattle.std.proofs.{Common.{◌≡◌, ℕ, ◌+◌, ◌*◌, ◌<◌, ◌≤◌, Bool, true, false, List, [], ◌∷◌, length, set, replicate, arith, ◌==◌, ◌&&◌, ◌||◌, if◌then◌else◌, Option, Some, None, not, ap, refl, ◌∙◌, sym, ◌++◌, drop, reverse}, lemmas.List.Folds.sum_by-replicate, lemmas.List.Sums.{sum_by-cons, sum_by-set}, lemmas.List.{get_or_past, length-replicate, reverse-append}}
use Rattle.tc_rules.specs.Prelude.{Run, Entry, Op, Reply, Fault, is_ended, is_fault, is_ok, holds, is_stuck, fault, answer, answer_unless, plain_answer, is_active, is_verdict_call, UserVerdict, Comp, Case, past_of}
use Rattle.tc_entry.specs.declared.limits.TheConstants.{BEHAVIOURS}
use Rattle.tc_board.specs.declared.record.Record.{Record}
use Rattle.tc_book.{specs.{Inside.{IsKept, one_if, size_of, start_at, total, no_place, opening_place, Replies.suits, Words.{carried_to, carried_to_newest}}, OpenCase.places_at, Words.WordsAgree, declared.places.Places.Places}, proofs.Lemmas.Starting.starts_below}

pub one_at_most : (b : Bool) → one_if b ≤ 1
one_at_most true = omega arith
one_at_most false = omega arith

-- two places a run at most
pub total_bound : (ps : List Places) → total ps ≤ 2 * length ps
total_bound [] = omega arith
total_bound (p ∷ ps) = omega (arith, sum_by-cons size_of p ps, total_bound ps, one_at_most p.leave, one_at_most p.wake)

pub total_set : (ps : List Places) (run : Run) (p : Places) → run.0 < length ps → total (set ps run.0 p) + size_of (places_at ps run) ≡ total ps + size_of p
total_set ps run p below = sum_by-set size_of ps run.0 p no_place below

pub no_place_beyond : (ps : List Places) (run : Run) → length ps ≤ run.0 → places_at ps run ≡ no_place
no_place_beyond ps run beyond = get_or_past ps run.0 no_place beyond

-- one place for each run at the opening
pub total_opening : (n : ℕ) → total (replicate n opening_place) ≡ n
total_opening n = omega (arith, sum_by-replicate size_of n opening_place)

wait_suits : (k : Bool) (t : _) (held : Bool) → suits (Op.Wait k t) (if held then Reply.Matched else Reply.Parked) ≡ true
wait_suits k t true = refl
wait_suits k t false = refl

wake_suits : (k : Bool) (t : _) (held stuck : Bool) → suits (Op.Wake k t) (if held then Reply.Matched else if stuck then Reply.Fault Fault.Stuck else Reply.Parked) ≡ true
wake_suits k t true stuck = refl
wake_suits k t false true = refl
wake_suits k t false false = refl

plain_suits : (past : List Entry) (b : ℕ) (op : Op) → is_verdict_call op ≡ false → suits op (plain_answer past b op) ≡ true
plain_suits past b (Op.Wait k t) other = wait_suits k t (holds past (record { killed = k; target = t }))
plain_suits past b (Op.Wake k t) other = wake_suits k t (holds past (record { killed = k; target = t })) ((b == 0) && is_stuck past)
plain_suits past b Op.GetVerdict other = absurd cc
plain_suits past b (Op.SetVerdict v) other = absurd cc
plain_suits past b _ other = refl

by_case : (active : Bool) (f : Option Fault) (op : Op) (plain : Reply) → is_verdict_call op ≡ false → suits op plain ≡ true → suits op (if active then answer_unless f plain else Reply.Ended) ≡ true
by_case true None op plain other h = h
by_case true (Some f) op plain other h = ap not other
by_case false f op plain other h = refl

pub answer_suits : (n : ℕ) (past : List Entry) (b : ℕ) (op : Op) → is_verdict_call op ≡ false → suits op (answer n past b op) ≡ true
unfolding answer
answer_suits n past b op other = by_case (is_active past b) (fault n past b op) op (plain_answer past b op) other (plain_suits past b op other)

finish_replies : (r : Reply) → suits Op.Finish r ≡ true → (is_ok r || is_ended r || is_fault r) ≡ true
finish_replies Reply.Ok h = refl
finish_replies Reply.Ended h = refl
finish_replies (Reply.Fault f) h = refl
finish_replies _ h = absurd cc

-- which replies a Finish can get
pub answer_finishes : (n : ℕ) (past : List Entry) (b : ℕ) → (is_ok (answer n past b Op.Finish) || is_ended (answer n past b Op.Finish) || is_fault (answer n past b Op.Finish)) ≡ true
answer_finishes n past b = finish_replies (answer n past b Op.Finish) (answer_suits n past b Op.Finish refl)

pub past_more : (h : List Entry) (e : Entry) → reverse (h ++ e ∷ []) ≡ e ∷ reverse h
past_more h e = reverse-append h (e ∷ [])

pub opening_len : (n : ℕ) → n ≤ BEHAVIOURS → length (replicate n opening_place) ≤ BEHAVIOURS
opening_len n few = rw (length-replicate n opening_place) few

pub kept_at_opening : (n m : ℕ) (h : List Entry) (started : List (Option (Comp × List Comp))) (places : List Places) (count room : ℕ) (words : List Record) →
    m ≡ n → h ≡ [] → 1 ≤ n → n ≤ BEHAVIOURS → length started ≡ n → ((b : ℕ) → start_at started b ≡ None) → places ≡ replicate n opening_place → count ≡ n → count ≤ room → WordsAgree n [] words →
    IsKept m (reverse h) started places count room words
kept_at_opening n m h started places count room words same none some few as_many none_started are counted covered agree =
    rw (same, none, are) (record {
      some = some;
      few = few;
      legal = tt;
      as_many_starts = as_many;
      each_start = none_started;
      few_places = opening_len n few;
      counted = counted ∙ sym (total_opening n);
      covered = covered;
      others = tt;
      agreeing = agree;
    })

abbrev entry : Run → Op → Reply → Entry
entry caller op reply = record { caller = caller; op = op; reply = reply }

-- the words before an entry follow from the entries before it
pub agree_before : (t t' : Case) (words : List Record) (caller : Run) (op : Op) (reply : Reply) → t'.behaviours ≡ t.behaviours → t'.history ≡ t.history ++ entry caller op reply ∷ [] →
    WordsAgree t.behaviours (past_of t) words → WordsAgree t'.behaviours (drop 1 (past_of t')) words
agree_before t t' words caller op reply same added agree = rw (same, added, reverse-append t.history (entry caller op reply ∷ [])) agree

pub carried_before : (t t' : Case) (words : List Record) (caller : Run) (op : Op) (reply : Reply) (u : UserVerdict) → t'.history ≡ t.history ++ entry caller op reply ∷ [] →
    u ≡ carried_to words (past_of t) op → u ≡ carried_to_newest words (past_of t')
carried_before t t' words caller op reply u added is = rw (added, reverse-append t.history (entry caller op reply ∷ [])) is

pub ruleset book_rules = (total_opening, total_bound, one_at_most, total_set, no_place_beyond, past_more, starts_below, opening_len)
