-- What a line changes, and what it adds to the text.
use Rattle.std.{proofs.{Common.{ℕ, ◌≡◌, ◌∙◌, ◌<◌, ◌≤◌, ◌^◌, ◌&&◌, not, nat_lt, arith, if◌then◌else◌, Bool, true, false, is_some, Option, Some, None, MatchOption, Result, Ok, Err, List, [], ◌∷◌, refl, ap, sym, subst, ◌+◌, ◌++◌, reverse, append_assoc, add-one, length, take, drop, take_at, zero, suc}, lemmas.List.{Concat.flat_map-append, append-nil, reverse-append, take-append-drop}}, specs.{List.{AllByRecursion, flat_map}, Option.option_map_or, Result.{result_map_both, result_unwrap_or}, Io.StartsWith}}
use Rattle.tc_rules.specs.{Prelude.{Run, Op, IsBehaviours, IsName, is_wake, overall, waiting, is_parked, wake_op}, declared.awaited.Awaited.Awaited}
use Rattle.tc_text.specs.Prelude.{IsOp}
use Rattle.tc_blocks.specs.{declared.{header.{Header.Header, Kind.Kind}, line.Line.Line}, Prelude.{is_met, IsSentence, end_text, with_lf, header_text, line_text, entries_of}}
use Rattle.tc_serve.specs.{Inside.{with_line, woken_from, woken_once, called}, Laws.{AllServed, asked_by}, Protocol.{AreServed, Comes, SpellsOrder, Played, Sent, ServiceState, after_order, finished_state, made, moved, refused, why_text, with_added_line, with_name, woken}, declared.order.{Order.Order, Refusal.Refusal}, Serve.{opened_text, stand_text}}

abbrev pub new : List ℕ → ℕ → Played
new name n = record { name = name; behaviours = n; lines = [] }

-- what the first line of its evidence says
abbrev pub case_header : Played → Header
case_header p = record { kind = Kind.Evidence; name = p.name; behaviours = p.behaviours }

-- the state by the test cases that were closed and the one that is open
abbrev pub stand : List Played → Option Played → ServiceState
stand closed c = record { closed = closed; current = c }

-- a client may make the call
abbrev pub may_ask : Played → Run → Op → Bool
may_ask p caller op = not (is_wake op) && not (nat_lt caller.0 p.behaviours && is_some (waiting (entries_of p.lines) caller.0))

-- the line, which is no entry, may be added
abbrev pub may_add : Played → Line → Bool
may_add p (Line.Named run name) = nat_lt run.0 p.behaviours && not (is_met run.0 p.lines)
may_add p (Line.Entry e) = false
may_add p (Line.Remark run sentence) = nat_lt run.0 p.behaviours
may_add p (Line.Refused run sentence) = nat_lt run.0 p.behaviours

-- what is in a line that is no entry
abbrev pub IsNote : Line → Type 0
IsNote (Line.Named run name) = IsName name
IsNote (Line.Entry e) = ⊥
IsNote (Line.Remark run sentence) = IsSentence sentence
IsNote (Line.Refused run sentence) = (why : Refusal) × (sentence ≡ why_text why)

-- what was asked for changes the state so: a test case is opened, a line that is no entry is added, a move is made, the test case is
-- closed, or nothing changes
pub data Changed : List Order → ServiceState → ServiceState → Type 0 where
  opens : (closed : List Played) (name : List ℕ) (n : ℕ) → IsName name → IsBehaviours n → Changed (Order.Case name n ∷ []) (stand closed None) (stand closed (Some (new name n)))
  adds : (closed : List Played) (p : Played) (l : Line) → may_add p l ≡ true → IsNote l → Changed (asked_by l) (stand closed (Some p)) (stand closed (Some (with_line p l)))
  moves : (closed : List Played) (p : Played) (caller : Run) (op : Op) → may_ask p caller op ≡ true → caller.0 < 2 ^ 16 → IsOp op
      → Changed (Order.Move caller op ∷ []) (stand closed (Some p)) (stand closed (Some (moved p caller op)))
  closes : (closed : List Played) (p : Played) → Changed (Order.End ∷ []) (stand closed (Some p)) (stand (p ∷ closed) None)
  stays : (s : ServiceState) → Changed [] s s

-- ---- what may be done of the test case that is open

added_is : (run : Run) (l : Line) (p q : Played) → with_added_line run l p ≡ Ok q → (nat_lt run.0 p.behaviours ≡ true) × (with_line p l ≡ q)
added_is run l p q e = by_test (nat_lt run.0 p.behaviours) e
  where
    by_test : (b : Bool) → ◌≡◌ {A = Result Played Refusal} (if b then Ok (with_line p l) else Err Refusal.NoRun) (Ok q) → (b ≡ true) × (with_line p l ≡ q)
    by_test true e = (refl, let same : with_line p l ≡ q = cc in same)
    by_test false e = absurd cc

named_is : (run : Run) (name : List ℕ) (p q : Played) → with_name run name p ≡ Ok q → (may_add p (Line.Named run name) ≡ true) × (with_line p (Line.Named run name) ≡ q)
named_is run name p q e = by_tests (nat_lt run.0 p.behaviours) (is_met run.0 p.lines) e
  where
    by_tests : (a b : Bool) → ◌≡◌ {A = Result Played Refusal} (if a && b then Err Refusal.LateName else if a then Ok (with_line p (Line.Named run name)) else Err Refusal.NoRun) (Ok q) →
        ((a && not b) ≡ true) × (with_line p (Line.Named run name) ≡ q)
    by_tests true true e = absurd cc
    by_tests true false e = (refl, let same : with_line p (Line.Named run name) ≡ q = cc in same)
    by_tests false b e = absurd cc

pub made_is : (caller : Run) (op : Op) (p q : Played) → made caller op p ≡ Ok q → (may_ask p caller op ≡ true) × (moved p caller op ≡ q)
made_is caller op p q e = by_tests (is_wake op) (nat_lt caller.0 p.behaviours && is_some (waiting (entries_of p.lines) caller.0)) e
  where
    by_tests : (a b : Bool) → ◌≡◌ {A = Result Played Refusal} (if a then Err Refusal.Wake else if b then Err Refusal.Waiting else Ok (moved p caller op)) (Ok q) → ((not a && not b) ≡ true) × (moved p caller op ≡ q)
    by_tests true b e = absurd cc
    by_tests false true e = absurd cc
    by_tests false false e = (refl, let same : moved p caller op ≡ q = cc in same)

-- ---- what is done

module _ (closed : List Played) where
  -- the test case that is open became another
  became : (asks : List Order) (p t : Played) (r : Result Played Refusal) (s : ServiceState) → ((q : Played) → r ≡ Ok q → Changed asks (stand closed (Some p)) (stand closed (Some q))) →
      result_map_both (λ q. stand closed (Some q)) (λ (why : Refusal). why) r ≡ Ok s → Changed asks (stand closed (Some p)) s
  became asks p t (Err why) s change e = absurd cc
  became asks p t (Ok q) s change e = let same : stand closed (Some q) ≡ s = cc in subst (Changed asks (stand closed (Some p))) same (change q refl)

  -- by a line that is no entry
  noted : (p q : Played) (l : Line) → (may_add p l ≡ true) × (with_line p l ≡ q) → IsNote l → Changed (asked_by l) (stand closed (Some p)) (stand closed (Some q))
  noted p q l two is = subst (λ (x : Played). Changed (asked_by l) (stand closed (Some p)) (stand closed (Some x))) two.1 (adds closed p l two.0 is)

  -- by a move
  asked : (p q : Played) (caller : Run) (op : Op) → (may_ask p caller op ≡ true) × (moved p caller op ≡ q) → caller.0 < 2 ^ 16 → IsOp op → Changed (Order.Move caller op ∷ []) (stand closed (Some p)) (stand closed (Some q))
  asked p q caller op two low fits =
      subst (λ (x : Played). Changed (Order.Move caller op ∷ []) (stand closed (Some p)) (stand closed (Some x))) two.1 (moves closed p caller op two.0 low fits)

  done : (c : Option Played) (t : ServiceState) (line : List ℕ) (o : Order) → SpellsOrder line o → after_order (stand closed c) o ≡ Ok t → Changed (o ∷ []) (stand closed c) t
  done None t line (Order.Case name n) fits e = let same : stand closed (Some (new name n)) ≡ t = cc in subst (Changed _ (stand closed None)) same (opens closed name n fits.0 fits.1)
  done None t line _ fits e = absurd cc
  done (Some p) t line (Order.Case name n) fits e = absurd cc
  done (Some p) t line (Order.Named run name) fits e = became _ p p (with_name run name p) t (λ q is. noted p q (Line.Named run name) (named_is run name p q is) fits.1) e
  done (Some p) t line (Order.Move caller op) fits e = became _ p p (made caller op p) t (λ q is. asked p q caller op (made_is caller op p q is) fits.0 fits.1) e
  done (Some p) t line (Order.Remark run sentence) fits e =
      became _ p p (with_added_line run (Line.Remark run sentence) p) t (λ q is. noted p q (Line.Remark run sentence) (added_is run (Line.Remark run sentence) p q is) fits.1) e
  done (Some p) t line Order.End fits e = let same : stand (p ∷ closed) None ≡ t = cc in subst (Changed _ (stand closed (Some p))) same (closes closed p)

  refused_is : (c : Option Played) (t : ServiceState) (run : Run) (why : Refusal) → refused (stand closed c) run why ≡ Ok t → Changed [] (stand closed c) t
  refused_is None t run why e = absurd cc
  refused_is (Some p) t run why e =
      let l = Line.Refused run (why_text why) in became [] p p (with_added_line run l p) t (λ q is. noted p q l (added_is run l p q is) (why, refl)) e

-- what a line asked for that was done
abbrev pub done_by : Result Order (Refusal × Option Run) → List Order
done_by (Ok o) = o ∷ []
done_by (Err e) = []

pub changes : (c : Result Order (Refusal × Option Run)) (ended : Bool) (line : List ℕ) (s t : ServiceState) → Comes c ended line s t → Changed (done_by c) s t
changes (Ok o) ended line s t came = done s.closed s.current t line o came.0.1 came.1
changes (Err (why, Some run)) ended line s t came = refused_is s.closed s.current t run why came.2
changes (Err (why, None)) ended line s t came = subst (Changed [] s) (sym came.3) (stays s)

-- ---- what holds of each test case

-- also of one that is open
abbrev pub AllOf : (Played → Type 0) → ServiceState → Type 0
AllOf P s = AllByRecursion P s.closed × MatchOption s.current (Unit {0}) P

-- the test case that is open is closed, if one is
abbrev pub closing : ServiceState → Option Played → Result ServiceState Refusal
closing s c = option_map_or (λ p. Ok (stand (p ∷ s.closed) None)) c (Err Refusal.NoCase)

module _ (P : Played → Type 0) (at_first : (name : List ℕ) (n : ℕ) → IsName name → IsBehaviours n → P (new name n))
    (note : (p : Played) (l : Line) → may_add p l ≡ true → IsNote l → P p → P (with_line p l))
    (move : (p : Played) (caller : Run) (op : Op) → may_ask p caller op ≡ true → caller.0 < 2 ^ 16 → IsOp op → P p → P (moved p caller op)) where
  next : (asks : List Order) (s t : ServiceState) → AllOf P s → Changed asks s t → AllOf P t
  next _ _ _ so (opens closed name n is few) = (so.0, at_first name n is few)
  next _ _ _ so (adds closed p l may is) = (so.0, note p l may is so.1)
  next _ _ _ so (moves closed p caller op may low is) = (so.0, move p caller op may low is so.1)
  next _ _ _ so (closes closed p) = ((so.1, so.0), tt)
  next _ _ _ so (stays s) = so

  all : (lines : List Sent) (s : ServiceState) → AreServed lines s → AllOf P s
  all [] s served = subst (AllOf P) (sym served) (tt, tt)
  all (l ∷ before) t served = next _ served.0 t (all before served.0 served.1) (changes l.came l.ended _ served.0 t served.4)

  at_end : (s : ServiceState) (c : Option Played) → AllByRecursion P s.closed → MatchOption c (Unit {0}) P → AllByRecursion P (result_unwrap_or (closing s c) s).closed
  at_end s None closed current = closed
  at_end s (Some p) closed current = (current, closed)

  pub all_served : AllServed P
  all_served lines s served = let so = all lines s served in at_end s s.current so.0 so.1

-- what follows of each holds of all
pub also_served : (P Q : Played → Type 0) → ((p : Played) → P p → Q p) → AllServed P → AllServed Q
also_served P Q follows so lines s served = each (finished_state s).closed (so lines s served)
  where
    each : (ps : List Played) → AllByRecursion P ps → AllByRecursion Q ps
    each [] all = tt
    each (p ∷ ps) all = (follows p all.0, each ps all.1)

-- ---- runs that are woken

-- one more run is woken, if it can continue
pub woken_next : (n : ℕ) (lines : List Line) (k : ℕ) → woken n lines (k + 1) ≡ woken_once n (woken n lines k) k
woken_next n lines k = ap (λ i. woken n lines i) (add-one k)

-- what each wake of the first k runs keeps, which is not replied parked, all of these wakes keep
module _ (P : List Line → Type 0) (n k : ℕ)
    (one : (lines : List Line) (b : ℕ) (a : Awaited) → b < k → waiting (entries_of lines) b ≡ Some a → is_parked (called n lines (record { 0 = b }) (wake_op a)).reply ≡ false → P lines
    → P (Line.Entry (called n lines (record { 0 = b }) (wake_op a)) ∷ lines)) where
  one_woken : (lines : List Line) (b : ℕ) (o : Option Awaited) → b < k → waiting (entries_of lines) b ≡ o → P lines → P (woken_from n lines b o)
  one_woken lines b None less is so = so
  one_woken lines b (Some a) less is so = by_test (is_parked (called n lines (record { 0 = b }) (wake_op a)).reply) refl
    where
      by_test : (t : Bool) → is_parked (called n lines (record { 0 = b }) (wake_op a)).reply ≡ t → P (if t then lines else Line.Entry (called n lines (record { 0 = b }) (wake_op a)) ∷ lines)
      by_test true parked = so
      by_test false goes = one lines b a less is goes so

  pub all_woken : (lines : List Line) (j : ℕ) → j ≤ k → P lines → P (woken n lines j)
  all_woken lines zero within so = so
  all_woken lines (suc j) within so = one_woken (woken n lines j) j (waiting (entries_of (woken n lines j)) j) (omega (arith, within)) refl (all_woken lines j (omega (arith, within)) so)

-- ---- how the text grows: a line adds to it, and changes none of it

-- what is appended to a text that grows
pub appended : (before out written text more grown : List ℕ) → before ++ out ≡ text → written ≡ out ++ more → grown ≡ text ++ more → before ++ written ≡ grown
appended before out written text more grown is appends grows =
    ap (λ (l : List ℕ). before ++ l) appends ∙ (sym (append_assoc before out more) ∙ (ap (λ (l : List ℕ). l ++ more) is ∙ sym grows))

-- what begins with a text and more begins with the text
pub begun_before : (out move begun written : List ℕ) → begun ≡ out ++ move → StartsWith written begun → StartsWith written out
begun_before out move begun written is begins =
    let behind = drop (length begun) written in
    let parts : written ≡ out ++ (move ++ behind) = sym (take-append-drop (length begun) written) ∙ (ap (λ (l : List ℕ). l ++ behind) (begins ∙ is) ∙ append_assoc out move behind) in
    ap (take (length out)) parts ∙ take_at out (move ++ behind) (length out) refl

abbrev pub lines_text : List Line → List ℕ
lines_text lines = flat_map (λ l. with_lf (line_text l)) (reverse lines)

-- the text of one more line
pub line_more : (l : Line) (lines : List Line) → lines_text (l ∷ lines) ≡ lines_text lines ++ with_lf (line_text l)
line_more l lines =
    ap (flat_map (λ x. with_lf (line_text x))) (reverse-append (l ∷ []) lines)
    ∙ (flat_map-append (λ x. with_lf (line_text x)) (reverse lines) (l ∷ []) ∙ ap (λ (x : List ℕ). lines_text lines ++ x) (append-nil (with_lf (line_text l))))

-- the text of a test case that was closed
abbrev pub block : Played → List ℕ
block p = opened_text p ++ with_lf (end_text (overall (entries_of p.lines)))

abbrev pub closed_text : List Played → List ℕ
closed_text ps = flat_map block (reverse ps)

-- what the lines of the open test case grow by the whole text does
pub grows : (closed : List Played) (p : Played) (ls : List Line) (text : List ℕ) → lines_text ls ≡ lines_text p.lines ++ text → stand_text (stand closed (Some (record p { lines = ls }))) ≡ stand_text (stand closed (Some p)) ++ text
grows closed p ls text more =
    let head = with_lf (header_text (case_header p)) in
    ap (λ (l : List ℕ). closed_text closed ++ (head ++ l)) more
    ∙ (ap (λ (l : List ℕ). closed_text closed ++ l) (sym (append_assoc head (lines_text p.lines) text)) ∙ sym (append_assoc (closed_text closed) (opened_text p) text))

pub one_block : (ps : List Played) (p : Played) → closed_text (p ∷ ps) ≡ closed_text ps ++ block p
one_block ps p =
    ap (flat_map block) (reverse-append (p ∷ []) ps)
    ∙ (flat_map-append block (reverse ps) (p ∷ []) ∙ ap (λ (l : List ℕ). closed_text ps ++ l) (append-nil (block p)))

-- the open test case is closed
pub ends : (closed : List Played) (p : Played) → stand_text (stand (p ∷ closed) None) ≡ stand_text (stand closed (Some p)) ++ with_lf (end_text (overall (entries_of p.lines)))
ends closed p = append-nil (closed_text (p ∷ closed)) ∙ (one_block closed p ∙ sym (append_assoc (closed_text closed) (opened_text p) (with_lf (end_text (overall (entries_of p.lines))))))

-- a test case is opened
pub begins : (closed : List Played) (p : Played) → lines_text p.lines ≡ [] → stand_text (stand closed (Some p)) ≡ stand_text (stand closed None) ++ with_lf (header_text (case_header p))
begins closed p none =
    let head = with_lf (header_text (case_header p)) in
    ap (λ (l : List ℕ). closed_text closed ++ (head ++ l)) none
    ∙ (ap (λ (l : List ℕ). closed_text closed ++ l) (append-nil head) ∙ ap (λ (l : List ℕ). l ++ head) (sym (append-nil (closed_text closed))))

-- one text begins with the other
abbrev Grows : List ℕ → List ℕ → Type 0
Grows before after = (more : List ℕ) × (after ≡ before ++ more)

grows_on : (a b c : List ℕ) → Grows a b → Grows b c → Grows a c
grows_on a b c p q = (p.0 ++ q.0, q.1 ∙ (ap (λ (l : List ℕ). l ++ q.0) p.1 ∙ append_assoc a p.0 q.0))

-- the lines of the open test case grow by a call, and by the wakes after it
called_more : (n : ℕ) (lines : List Line) (caller : Run) (op : Op) → Grows (lines_text lines) (lines_text (woken n (Line.Entry (called n lines caller op) ∷ lines) n))
called_more n lines caller op =
    all_woken (λ ls. Grows (lines_text lines) (lines_text ls)) n n (λ ls b a less is goes so. grows_on (lines_text lines) (lines_text ls) _ so (_, line_more _ ls)) _ n (omega arith) (_, line_more _ lines)

grown : (asks : List Order) (s t : ServiceState) → Changed asks s t → Grows (stand_text s) (stand_text t)
grown _ _ _ (opens closed name n is few) = (_, begins closed (new name n) refl)
grown _ _ _ (adds closed p l may is) = (_, grows closed p (l ∷ p.lines) _ (line_more l p.lines))
grown _ _ _ (moves closed p caller op may low is) = let more = called_more p.behaviours p.lines caller op in (more.0, grows closed p (woken p.behaviours (Line.Entry (called p.behaviours p.lines caller op) ∷ p.lines) p.behaviours) more.0 more.1)
grown _ _ _ (closes closed p) = (_, ends closed p)
grown _ _ _ (stays s) = ([], sym (append-nil (stand_text s)))

pub text_grows : (c : Result Order (Refusal × Option Run)) (ended : Bool) (line : List ℕ) (s t : ServiceState) → Comes c ended line s t → (more : List ℕ) × (stand_text t ≡ stand_text s ++ more)
text_grows c line_ended line s t came = grown _ s t (changes c line_ended line s t came)
