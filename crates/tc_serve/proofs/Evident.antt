-- What is written is evidence of what was asked for.
use Rattle.std.{proofs.{Common.{ℕ, ◌≡◌, ◌≢◌, ◌∙◌, ◌==◌, ◌||◌, ◌&&◌, ◌+◌, ◌<◌, ◌≤◌, ◌^◌, inr, not, nat_lt, if◌then◌else◌, zero, suc, Bool, true, false, IsTrue, Option, Some, None, Result, Ok, Err, List, [], ◌∷◌, ◌++◌, length, reverse, refl, ap, sym, subst, append_assoc, arith}, lemmas.{Bool.Decides.nat_tests, List.{append-nil, reverse-append, reverse-reverse}}}, specs.{List.{All, AllByRecursion, flat_map, list_all, cons_option, filter_map, AllZip}, Result.{result_ok, result_unwrap_or}}}
use Rattle.tc_rules.{specs.{Prelude.{Run, IsBehaviours, IsName, Comp, Entry, Op, Reply, answer, local_reply, plain_answer, comp_of, created, overall, awaited, holds, parks, waiting, is_parked, Fault, is_wake, IsLegal, wake_op}, declared.awaited.Awaited.Awaited}, proofs.Lemmas.{Deciding.{and_left, and_right}, Sound.{next, plain_if}, Stuck.and_split}}
use Rattle.tc_text.specs.Prelude.{is_plain, IsOp, IsReply, IsTarget}
use Rattle.tc_blocks.{specs.{Prelude.{end_text, AreEntries, IsEntry, with_lf, header_text, entries_of, is_about, is_met, IsSentence, AreBlocks, AreEvidence, AreLines, IsHeader, IsLine, block_lines, text_of_block, entry_in}, declared.{block.Block.Block, header.Kind.Kind, line.Line.Line}}, proofs.Lemmas.{Meeting.met_last, WrittenEvidence.written_evidence}}
use Rattle.tc_serve.{specs.{Inside.{after_call, with_line, called}, Laws.{AllServed, asked_by, asked_in, asked_of}, Protocol.{AreServed, Played, Sent, ServiceState, finished_state, moved, why_text, woken}, Serve.stand_text, declared.order.{Refusal.Refusal, Order.Order}}, proofs.Changes.{IsNote, adds, all_served, all_woken, also_served, block, case_header, closes, closing, may_add, moves, opens, lines_text, Changed, changes, done_by, may_ask, stays}}

-- ---- the numbers of entries are those of their types

made_by_create : (past : List Entry) (b : ℕ) (op : Op) (c : Comp) → Reply.Made c ≡ plain_answer past b op → created op (Reply.Made c) ≡ Some c
made_by_create past b (Op.Create alive name) c e = refl
made_by_create past b (Op.Wait k t) c e = by_test (holds past (record { killed = k; target = t })) e
  where
    by_test : (h : Bool) → Reply.Made c ≡ (if h then Reply.Matched else Reply.Parked) → created (Op.Wait k t) (Reply.Made c) ≡ Some c
    by_test true e = absurd cc
    by_test false e = absurd cc
made_by_create past b (Op.Wake k t) c e = by_test (holds past (record { killed = k; target = t })) _ e
  where
    by_stuck : (s : Bool) → Reply.Made c ≡ (if s then Reply.Fault Fault.Stuck else Reply.Parked) → created (Op.Wake k t) (Reply.Made c) ≡ Some c
    by_stuck true e = absurd cc
    by_stuck false e = absurd cc

    by_test : (h s : Bool) → Reply.Made c ≡ (if h then Reply.Matched else if s then Reply.Fault Fault.Stuck else Reply.Parked) → created (Op.Wake k t) (Reply.Made c) ≡ Some c
    by_test true s e = absurd cc
    by_test false s e = by_stuck s e
made_by_create past b Op.GetVerdict c e = by_comp (comp_of past b) e
  where
    by_comp : (o : Option Comp) → Reply.Made c ≡ local_reply past o → created Op.GetVerdict (Reply.Made c) ≡ Some c
    by_comp None e = absurd cc
    by_comp (Some d) e = absurd cc
made_by_create past b _ c e = absurd cc

reply_fits : (n : ℕ) (past : List Entry) (run : Run) (op : Op) (reply : Reply) → reply ≡ answer n past run.0 op → IsReply reply
reply_fits n past run op (Reply.Made c) legal =
    let plain = plain_if n past run.0 op (Reply.Made c) refl refl legal in
    let is = next n past (record { caller = run; op = op; reply = Reply.Made c }) c legal (made_by_create past run.0 op c plain.is) in
    omega (arith, is.number, is.few)
reply_fits n past run op _ legal = tt

entry_fits : (n : ℕ) (lines : List Line) (run : Run) (op : Op) → run.0 < 2 ^ 16 → IsOp op → IsEntry 2 (called n lines run op)
entry_fits n lines run op low fits = record {
  caller = low;
  op = fits;
  reply = reply_fits n (entries_of lines) run op (answer n (entries_of lines) run.0 op) refl;
  names = λ e. absurd (omega (arith, e));
}

awaited_fits : (op : Op) (a : Awaited) → IsOp op → awaited op ≡ Some a → IsTarget a.target
awaited_fits (Op.Wait k t) a fits is = let e : record { killed = k; target = t } ≡ a = cc in rw (← e) fits
awaited_fits (Op.Wake k t) a fits is = let e : record { killed = k; target = t } ≡ a = cc in rw (← e) fits
awaited_fits _ a fits is = absurd cc

parked_fits : (op : Op) (reply : Reply) (a : Awaited) → IsOp op → parks op reply ≡ Some a → IsTarget a.target
parked_fits op Reply.Parked a fits is = awaited_fits op a fits is
parked_fits op _ a fits is = absurd cc

waiting_fits : (past : List Entry) (b : ℕ) (a : Awaited) → AreEntries 2 past → waiting past b ≡ Some a → IsTarget a.target
waiting_fits [] b a fits is = absurd cc
waiting_fits (e ∷ past) b a fits is = by_test (e.caller.0 == b) is (λ w. waiting_fits past b a fits.1 w)
  where
    by_test : (t : Bool) → (if t then parks e.op e.reply else waiting past b) ≡ Some a → (waiting past b ≡ Some a → IsTarget a.target) → IsTarget a.target
    by_test true is before = parked_fits e.op e.reply a fits.0.op is
    by_test false is before = before is

-- ---- lines, each in its place

-- these lines may be in evidence, the newest first in the list
record Fit (n : ℕ) (lines : List Line) : Type 0 where
  entries : AreEntries 2 (entries_of lines)
  are : AreLines Kind.Evidence n [] (reverse lines)

right_more : (n : ℕ) (before ls : List Line) (l : Line) → AreLines Kind.Evidence n before ls → IsLine Kind.Evidence n (before ++ ls) l → AreLines Kind.Evidence n before (ls ++ l ∷ [])
right_more n before [] l are one = (subst (λ (b : List Line). IsLine Kind.Evidence n b l) (append-nil before) one, tt)
right_more n before (x ∷ xs) l are one =
    (are.0, right_more n (before ++ x ∷ []) xs l are.1 (subst (λ (b : List Line). IsLine Kind.Evidence n b l) (sym (append_assoc before (x ∷ []) xs)) one))

fit_more : (n : ℕ) (lines : List Line) (l : Line) → Fit n lines → AreEntries 2 (entries_of (l ∷ lines)) → IsLine Kind.Evidence n (reverse lines) l → Fit n (l ∷ lines)
fit_more n lines l fit entries one = record { entries = entries; are = subst (AreLines Kind.Evidence n []) (sym (reverse-append (l ∷ []) lines)) (right_more n [] (reverse lines) l fit.are one) }

entry_more : (n : ℕ) (lines : List Line) (e : Entry) → Fit n lines → IsEntry 2 e → Fit n (Line.Entry e ∷ lines)
entry_more n lines e fit is = fit_more n lines (Line.Entry e) fit (is, fit.entries) is

woken_fits : (n : ℕ) (lines : List Line) → n ≤ 256 → Fit n lines → Fit n (woken n lines n)
woken_fits n lines few fit =
    all_woken (Fit n) n n
    (λ ls b a less is goes so. entry_more n ls _ so (entry_fits n ls (record { 0 = b }) (wake_op a) (omega (arith, few, less)) (waiting_fits (entries_of ls) b a so.entries is)))
    lines n (omega arith) fit

-- ---- who was met does not depend on the order

met_reverse : (b : ℕ) (ls : List Line) → is_met b ls ≡ is_met b (reverse ls)
met_reverse b [] = refl
met_reverse b (l ∷ ls) = ap (λ (t : Bool). is_about b l || t) (met_reverse b ls) ∙ (met_last b (reverse ls) l ∙ ap (is_met b) (sym (reverse-append (l ∷ []) ls)))

-- ---- one line

-- what may be evidence of a test case: its name, its number of behaviours, its entries, and its lines, each in its place
record IsEvident (p : Played) : Type 0 where
  name : IsName p.name
  behaviours : IsBehaviours p.behaviours
  entries : AreEntries 2 (entries_of p.lines)
  lines : AreLines Kind.Evidence p.behaviours [] (reverse p.lines)

fit_of : (p : Played) → IsEvident p → Fit p.behaviours p.lines
fit_of p is = record { entries = is.entries; are = is.lines }

-- the test case with other lines
evident : (p : Played) (ls : List Line) → IsEvident p → Fit p.behaviours ls → IsEvident (record p { lines = ls })
evident p ls is fit = record { name = is.name; behaviours = is.behaviours; entries = fit.entries; lines = fit.are }

below : (a b : ℕ) → nat_lt a b ≡ true → a < b
below a b test = grind (arith, nat_tests)

all_plain : (bs : List ℕ) → list_all is_plain bs ≡ true → All (λ b. IsTrue (is_plain b)) bs
all_plain [] all k d within = absurd (omega (arith, within))
all_plain (b ∷ bs) all zero d within = and_left (is_plain b) (list_all is_plain bs) all
all_plain (b ∷ bs) all (suc k) d within = all_plain bs (and_right (is_plain b) (list_all is_plain bs) all) k d (omega (arith, within))

refusal_plain : (why : Refusal) → IsSentence (why_text why)
refusal_plain Refusal.Unended = record { some = omega arith; short = omega arith; plain = all_plain (why_text Refusal.Unended) refl }
refusal_plain why = record { some = omega arith; short = omega arith; plain = all_plain (why_text why) refl }

note_fits : (p : Played) (l : Line) → may_add p l ≡ true → IsNote l → IsEvident p → IsEvident (with_line p l)
note_fits p (Line.Named run name) may fits is =
    let two = and_split (nat_lt run.0 p.behaviours) (is_met run.0 p.lines) may in
    evident p (Line.Named run name ∷ p.lines) is
    (fit_more p.behaviours p.lines (Line.Named run name) (fit_of p is) is.entries
    (refl, below run.0 p.behaviours two.0, fits, sym (met_reverse run.0 p.lines) ∙ two.1))
note_fits p (Line.Entry e) may fits is = absurd fits
note_fits p (Line.Remark run sentence) may fits is =
    evident p (Line.Remark run sentence ∷ p.lines) is
    (fit_more p.behaviours p.lines (Line.Remark run sentence) (fit_of p is) is.entries (refl, below run.0 p.behaviours may, fits))
note_fits p (Line.Refused run sentence) may fits is =
    evident p (Line.Refused run sentence ∷ p.lines) is
    (fit_more p.behaviours p.lines (Line.Refused run sentence) (fit_of p is) is.entries
    (refl, below run.0 p.behaviours may, subst IsSentence (sym fits.1) (refusal_plain fits.0)))

move_fits : (p : Played) (caller : Run) (op : Op) → caller.0 < 2 ^ 16 → IsOp op → IsEvident p → IsEvident (moved p caller op)
move_fits p caller op low fits is =
    evident p (woken p.behaviours (after_call p caller op) p.behaviours) is
    (woken_fits p.behaviours (after_call p caller op) is.behaviours.1 (entry_more p.behaviours p.lines _ (fit_of p is) (entry_fits p.behaviours p.lines caller op low fits)))

-- ---- the text

fit_append : (xs ys : List Played) → AllByRecursion IsEvident xs → AllByRecursion IsEvident ys → AllByRecursion IsEvident (xs ++ ys)
fit_append [] ys a b = b
fit_append (x ∷ xs) ys a b = (a.0, fit_append xs ys a.1 b)

fit_reverse : (xs : List Played) → AllByRecursion IsEvident xs → AllByRecursion IsEvident (reverse xs)
fit_reverse [] a = a
fit_reverse (x ∷ xs) a = rw (reverse-append (x ∷ []) xs) (fit_append (reverse xs) (x ∷ []) (fit_reverse xs a.1) (a.0, tt))

-- the block of a test case, whose first line is the line of this number
abbrev block_of : ℕ → Played → Block
block_of line p = record { header = case_header p; first_line = line; lines = reverse p.lines; verdict = overall (entries_of p.lines) }

-- the blocks of test cases, the first of which begins in this line
abbrev blocks_of : ℕ → List Played → List Block
blocks_of line [] = []
blocks_of line (p ∷ ps) = block_of line p ∷ blocks_of (line + length (block_lines (block_of line p))) ps

-- the block is that of the test case
abbrev IsBlockOf : Played → Block → Type 0
IsBlockOf p b = (b.header.kind ≡ Kind.Evidence) × (b.header.name ≡ p.name) × (b.header.behaviours ≡ p.behaviours) × (b.lines ≡ reverse p.lines) × (b.verdict ≡ overall (entries_of p.lines))

each_block : (line : ℕ) (ps : List Played) → AllZip IsBlockOf ps (blocks_of line ps)
each_block line [] = tt
each_block line (p ∷ ps) = ((refl, refl, refl, refl, refl), each_block (line + length (block_lines (block_of line p))) ps)

block_is : (line : ℕ) (p : Played) → text_of_block (block_of line p) ≡ block p
block_is line p = sym (append_assoc (with_lf (header_text (case_header p))) (lines_text p.lines) (with_lf (end_text (overall (entries_of p.lines)))))

blocks_text : (line : ℕ) (ps : List Played) → flat_map text_of_block (blocks_of line ps) ≡ flat_map block ps
blocks_text line [] = refl
blocks_text line (p ∷ ps) =
    ap (λ (l : List ℕ). l ++ flat_map text_of_block (blocks_of (line + length (block_lines (block_of line p))) ps)) (block_is line p)
    ∙ ap (λ (l : List ℕ). block p ++ l) (blocks_text (line + length (block_lines (block_of line p))) ps)

are_blocks : (line : ℕ) (ps : List Played) → AllByRecursion IsEvident ps → AreBlocks IsHeader line (blocks_of line ps)
are_blocks line [] fit = tt
are_blocks line (p ∷ ps) fit = (
  record { header = record { name_is = fit.0.name; few = fit.0.behaviours; kind_fits = λ e. absurd cc }; inside = fit.0.lines; first = refl },
  are_blocks (line + length (block_lines (block_of line p))) ps fit.1,
)

some_blocks : (ps : List Played) → ps ≢ [] → blocks_of 1 ps ≢ []
some_blocks [] some = absurd (some refl)
some_blocks (p ∷ ps) some = λ e. cc

some_reversed : (ps : List Played) → ps ≢ [] → reverse ps ≢ []
some_reversed ps some = λ e. some (sym (reverse-reverse ps) ∙ ap reverse e)

-- nothing is open at the end
none_left : (s : ServiceState) (c : Option Played) → s.current ≡ c → (result_unwrap_or (closing s c) s).current ≡ None
none_left s None is = is
none_left s (Some p) is = refl

closed_text : (s : ServiceState) → s.current ≡ None → stand_text s ≡ flat_map block (reverse s.closed)
closed_text s none = ap (λ (c : Option Played). stand_text (record { closed = s.closed; current = c })) none ∙ append-nil (flat_map block (reverse s.closed))

pub served_is_evidence : (lines : List Sent) (s : ServiceState) → AreServed lines s → (finished_state s).closed ≢ [] →
    (blocks : List Block) × AreEvidence (stand_text (finished_state s)) blocks × AllZip IsBlockOf (reverse (finished_state s).closed) blocks
served_is_evidence lines s served some =
    let ps = reverse (finished_state s).closed in
    let are = all_served IsEvident (λ name n name_is few. record { name = name_is; behaviours = few; entries = tt; lines = tt }) note_fits (λ p caller op may. move_fits p caller op) lines s served in
    let fit : AllByRecursion IsEvident ps = fit_reverse (finished_state s).closed are in (
      blocks_of 1 ps,
      rw (closed_text (finished_state s) (none_left s s.current refl))
          (rw (blocks_text 1 ps) at (written_evidence (blocks_of 1 ps) (some_blocks ps (some_reversed (finished_state s).closed some)) (are_blocks 1 ps fit))),
      each_block 1 ps,
    )

-- ---- what is asked

-- what asked for the test cases that were closed
abbrev before : List Played → List Order
before closed = flat_map (λ p. Order.End ∷ asked_in p) closed

not_wake : (a b : Bool) → (not a && b) ≡ true → a ≡ false
not_wake true b may = absurd cc
not_wake false b may = refl

-- wakes come of themselves
of_move : (p : Played) (caller : Run) (op : Op) → may_ask p caller op ≡ true → asked_in (moved p caller op) ≡ Order.Move caller op ∷ asked_in p
of_move p caller op may =
    ap (λ (l : List Order). l ++ Order.Case p.name p.behaviours ∷ [])
    (all_woken (λ ls. flat_map asked_by ls ≡ flat_map asked_by (after_call p caller op)) p.behaviours p.behaviours (λ ls b a less is goes so. so) (after_call p caller op) p.behaviours (omega arith) refl)
    ∙ ap (λ (t : Bool). ((if t then [] else Order.Move caller op ∷ []) ++ flat_map asked_by p.lines) ++ Order.Case p.name p.behaviours ∷ []) (not_wake (is_wake op) _ may)

asked_next : (asks : List Order) (s t : ServiceState) → Changed asks s t → asked_of t ≡ asks ++ asked_of s
asked_next _ _ _ (opens closed name n is few) = refl
asked_next _ _ _ (adds closed p l may is) =
    ap (λ (x : List Order). x ++ before closed) (append_assoc (asked_by l) (flat_map asked_by p.lines) (Order.Case p.name p.behaviours ∷ [])) ∙ append_assoc (asked_by l) (asked_in p) (before closed)
asked_next _ _ _ (moves closed p caller op may low is) = ap (λ (x : List Order). x ++ before closed) (of_move p caller op may)
asked_next _ _ _ (closes closed p) = refl
asked_next _ _ _ (stays s) = refl

one_done : (c : Result Order (Refusal × Option Run)) (orders : List Order) → done_by c ++ orders ≡ cons_option (result_ok c) orders
one_done (Ok o) orders = refl
one_done (Err e) orders = refl

pub evidence_is_asked : (lines : List Sent) (s : ServiceState) → AreServed lines s → asked_of s ≡ filter_map (λ l. result_ok l.came) lines
evidence_is_asked [] s served = ap asked_of served
evidence_is_asked (l ∷ before) t served =
    asked_next (done_by l.came) served.0 t (changes l.came l.ended _ served.0 t served.4)
    ∙ (ap (λ (x : List Order). done_by l.came ++ x) (evidence_is_asked before served.0 served.1) ∙ one_done l.came (filter_map (λ x. result_ok x.came) before))

-- no wake is replied parked
abbrev NoIdleWake : List Entry → Type 0
NoIdleWake past = AllByRecursion (λ e. is_wake e.op ≡ true → is_parked e.reply ≡ false) past

-- the entries among the lines are legal, and no wake is replied parked
pub record Sound (n : ℕ) (lines : List Line) : Type 0 where
  pub legal : IsLegal n (entries_of lines)
  pub wakes : NoIdleWake (entries_of lines)

pub all_legal : (n : ℕ) (lines : List Line) (k : ℕ) → IsLegal n (entries_of lines) → IsLegal n (entries_of (woken n lines k))
all_legal n lines k legal = all_woken (λ ls. IsLegal n (entries_of ls)) n k (λ ls b a less is goes so. (refl, so)) lines k (omega arith) legal

no_wake : (a b : Bool) → (not a && b) ≡ true → a ≡ true → ⊥
no_wake true b may wake = absurd cc
no_wake false b may wake = absurd cc

pub made_sound : (p : Played) (caller : Run) (op : Op) → may_ask p caller op ≡ true → Sound p.behaviours p.lines → Sound p.behaviours (moved p caller op).lines
made_sound p caller op may so =
    all_woken (Sound p.behaviours) p.behaviours p.behaviours (λ ls b a less is goes was. record { legal = (refl, was.legal); wakes = (λ _. goes, was.wakes) }) (after_call p caller op) p.behaviours (omega arith)
    (record { legal = (refl, so.legal); wakes = (λ wake. absurd (no_wake (is_wake op) _ may wake), so.wakes) })

noted : (n : ℕ) (lines : List Line) (l : Line) → entry_in l ≡ [] → Sound n lines → Sound n (l ∷ lines)
noted n lines l none so =
    let same : entries_of lines ≡ entries_of (l ∷ lines) = sym (ap (λ (es : List Entry). es ++ entries_of lines) none) in
    record { legal = subst (IsLegal n) same so.legal; wakes = subst NoIdleWake same so.wakes }

pub no_entry : (p : Played) (l : Line) → may_add p l ≡ true → entry_in l ≡ []
no_entry p (Line.Entry e) may = absurd cc
no_entry p _ may = refl

pub note_sound : (p : Played) (l : Line) → may_add p l ≡ true → Sound p.behaviours p.lines → Sound p.behaviours (l ∷ p.lines)
note_sound p l may so = noted p.behaviours p.lines l (no_entry p l may) so

-- each test case is
abbrev pub IsSound : Played → Type 0
IsSound p = Sound p.behaviours p.lines

pub served_is_sound : AllServed IsSound
served_is_sound = all_served IsSound (λ name n name_is few. record { legal = tt; wakes = tt }) (λ p l may note. note_sound p l may) (λ p caller op may low fits. made_sound p caller op may)

pub served_is_legal : AllServed (λ p. IsLegal p.behaviours (entries_of p.lines))
served_is_legal = also_served IsSound _ (λ p so. so.legal) served_is_sound

pub no_idle_wake : AllServed (λ p. NoIdleWake (entries_of p.lines))
no_idle_wake = also_served IsSound _ (λ p so. so.wakes) served_is_sound
