-- What a line tries, and the calls that it makes.
use Rattle.std.{proofs.{Common.{ℕ, ◌≡◌, ◌≢◌, ◌∙◌, ◌<◌, ◌^◌, if◌then◌else◌, Bool, true, false, is_some, not, inl, inr, Option, Some, None, Result, Ok, Err, is_err, MatchResult, List, [], ◌∷◌, ◌++◌, refl, ap, sym, subst, ◌==◌, ◌||◌, append_assoc, arith}}, specs.{Option.option_map_or, Result.{result_map_both, result_err}}}
use Rattle.tc_rules.{specs.{Prelude.{Comp, Run, Verdict, worse, overall, Entry, Op, Reply, answer, IsReplyOf, Kept, StandsFor, TakesIn, keeps_phases, IsLegal, started_run}}, proofs.Lemmas.Standing.legal_for}
use Rattle.tc_blocks.specs.{Prelude.{end_text, entries_of, with_lf, header_text, entry_in, is_met, line_text, starts, AreMet}, declared.{line.Line.Line, met.MetRuns.MetRuns}}
use Rattle.tc_serve.{specs.{Inside.{Changes, IsCurrent, IsOpen, Rests, StandsAs, TellsRun, Tries, TriesLine, with_line, AreAwake, Becomes, Holds, IsCalled, IsKept, IsText, Moves, after_call, entry, wakes_nobody, called, counted}, Protocol.{IsOf, IsOrderOf, IsWhyNothing, Played, ServiceState, after_order, SpellsOrder, refused, with_open, made, moved, woken}, Serve.stand_text, declared.{open_case.OpenCase.OpenCase, order.{Order.Order, Refusal.Refusal}, server.Server.Server}}, proofs.{Changes.{appended, begins, case_header, made_is, ends, grows, line_more}, Settled.{new_settled, moved_settled, nobody_woken, noted_settled}}}

abbrev pub server : Option OpenCase → Verdict → Server
server c w = record { current = c; worst = w }

-- a test case is open in the server and in its state, or in neither
pub both_open : (o : Option OpenCase) (c : Option Played) → IsCurrent o c → is_some o ≡ is_some c
both_open None None both = refl
both_open None (Some p) both = absurd both
both_open (Some o) None both = absurd both
both_open (Some o) (Some p) both = refl

-- the test case that is kept, if this one is open
pub open_is : (v : Server) (o : Option OpenCase) (s : ServiceState) (c : Option Played) (before out : List ℕ) → v.current ≡ o → StandsAs v s before out → s.current ≡ c → IsCurrent o c
open_is v o s c before out is stands current = subst (λ (x : Option OpenCase). IsCurrent x c) is (subst (λ (x : Option Played). IsCurrent v.current x) current stands.current)

-- the text by the test case that is open
text_is : (s : ServiceState) (c : Option Played) → s.current ≡ c → stand_text s ≡ stand_text (record { closed = s.closed; current = c })
text_is s c is = ap (λ (x : Option Played). stand_text (record { closed = s.closed; current = x })) is

-- the test case that is open is this one now
abbrev with_current : ServiceState → Played → ServiceState
with_current s p = record s { current = Some p }

-- the test case that is open became another, or none is open
abbrev changed : ServiceState → (Played → Result Played Refusal) → Option Played → Result ServiceState Refusal
changed s ask c = result_map_both (with_current s) (λ why. why) (option_map_or ask c (Err Refusal.NoCase))

module _ (v : Server) (held after : OpenCase) (ask : Played → Result Played Refusal) (why : Option Refusal) (out written : List ℕ) (is : v.current ≡ Some held) (change : Changes ask why held after out written) where
  -- a change of the test case that is open
  pub opened_tries : Tries (λ s. with_open s ask) why v (server (Some after) v.worst) out written
  opened_tries s before stands = by_current s.current refl (open_is v (Some held) s s.current before out is stands refl)
    where
      No : Refusal → Type 0
      No e = (why ≡ Some e) × StandsAs (server (Some after) v.worst) s before written

      Yes : ServiceState → Type 0
      Yes t = (why ≡ None) × StandsAs (server (Some after) v.worst) t before written

      by_change : (p : Played) (r : Result Played Refusal) → s.current ≡ Some p →
          MatchResult r (λ q. (why ≡ None) × Rests after q s.closed before written) (λ e. (why ≡ Some e) × Rests after p s.closed before written) → MatchResult (result_map_both (with_current s) (λ (e : Refusal). e) r) Yes No
      by_change p (Err e) current so =
          (so.0, record { current = subst (IsCurrent (Some after)) (sym current) so.1.is; worst = stands.worst; text = so.1.text ∙ sym (text_is s (Some p) current) })
      by_change p (Ok q) current so = (so.0, record { current = so.1.is; worst = stands.worst; text = so.1.text })

      by_current : (c : Option Played) → s.current ≡ c → IsCurrent (Some held) c → MatchResult (with_open s ask) Yes No
      by_current None current kept = absurd kept
      by_current (Some p) current kept =
          subst (λ (c : Option Played). MatchResult (changed s ask c) Yes No) (sym current) (by_change p (ask p) current (change p s.closed before (record { is = kept; text = stands.text ∙ text_is s (Some p) current })))

-- ---- a test case that is opened

abbrev new : List ℕ → ℕ → Played
new name n = record { name = name; behaviours = n; lines = [] }

-- it is opened, if none is open
abbrev beginning : ServiceState → Played → Bool → Result ServiceState Refusal
beginning s p some = if some then Err Refusal.CaseOpen else Ok (with_current s p)

pub not_begun : (v : Server) (name : List ℕ) (n : ℕ) (out : List ℕ) → is_some v.current ≡ true → Tries (λ s. after_order s (Order.Case name n)) (Some Refusal.CaseOpen) v v out out
not_begun v name n out some s before stands =
    let some_open : is_some s.current ≡ true = sym (both_open v.current s.current stands.current) ∙ some in
    subst (λ (t : Bool). MatchResult (beginning s (new name n) t) (λ t. (◌≡◌ {A = Option Refusal} (Some Refusal.CaseOpen) None) × StandsAs v t before out) (λ e. (◌≡◌ {A = Option Refusal} (Some Refusal.CaseOpen) (Some e)) × StandsAs v s before out)) (sym some_open) (refl, stands)

pub begun : (v : Server) (held : OpenCase) (name : List ℕ) (n : ℕ) (out written : List ℕ) → is_some v.current ≡ false → IsOpen held (new name n) → written ≡ out ++ with_lf (header_text (case_header (new name n))) →
    Tries (λ s. after_order s (Order.Case name n)) None v (server (Some held) v.worst) out written
begun v held name n out written none kept appends s before stands =
    let free : is_some s.current ≡ false = sym (both_open v.current s.current stands.current) ∙ none in
    subst (λ (t : Bool). MatchResult (beginning s (new name n) t) (λ t. (◌≡◌ {A = Option Refusal} None None) × StandsAs (server (Some held) v.worst) t before written) (λ e. (◌≡◌ {A = Option Refusal} None (Some e)) × StandsAs (server (Some held) v.worst) s before written)) (sym free) (
      refl,
      record {
        current = record { opened = kept; settled = new_settled name n };
        worst = stands.worst;
        text = appended before out written (stand_text s) _ _ stands.text appends (begins s.closed (new name n) refl ∙ ap (λ (l : List ℕ). l ++ with_lf (header_text (case_header (new name n)))) (sym (text_is s None (none_is s.current free))));
      },
    )
  where
    none_is : (c : Option Played) → is_some c ≡ false → c ≡ None
    none_is None e = refl
    none_is (Some p) e = absurd cc

-- ---- the test case that is open is closed

abbrev pub ended_with : ServiceState → Played → ServiceState
ended_with s p = record { closed = p ∷ s.closed; current = None }

-- it is closed, if one is open
abbrev ending : ServiceState → Option Played → Result ServiceState Refusal
ending s c = option_map_or (λ p. Ok (ended_with s p)) c (Err Refusal.NoCase)

pub closing : (v : Server) (held : OpenCase) (left : Option OpenCase) (own all : Verdict) (out written : List ℕ) → v.current ≡ Some held → left ≡ None → ((p : Played) → IsOpen held p → own ≡ overall (entries_of p.lines)) →
    ((p : Played) → IsOpen held p → all ≡ worse v.worst (counted p)) → written ≡ out ++ with_lf (end_text own) → Tries (λ s. after_order s Order.End) None v (server left all) out written
closing v held left own all out written is none owns alls appends s before stands = by_current s.current refl (open_is v (Some held) s s.current before out is stands refl)
  where
    Yes : ServiceState → Type 0
    Yes t = (◌≡◌ {A = Option Refusal} None None) × StandsAs (server left all) t before written

    No : Refusal → Type 0
    No e = (◌≡◌ {A = Option Refusal} None (Some e)) × StandsAs (server left all) s before written

    by_current : (c : Option Played) → s.current ≡ c → IsCurrent (Some held) c → MatchResult (ending s s.current) Yes No
    by_current None current kept = absurd kept
    by_current (Some p) current kept =
        subst (λ (c : Option Played). MatchResult (ending s c) Yes No) (sym current) (
          refl,
          record {
            current = subst (λ (c : Option OpenCase). IsCurrent c None) (sym none) tt;
            worst = alls p kept.opened ∙ ap (λ (w : Verdict). worse w (counted p)) stands.worst;
            text = appended before out written (stand_text s) _ _ stands.text (appends ∙ ap (λ (w : Verdict). out ++ with_lf (end_text w)) (owns p kept.opened))
                (ends s.closed p ∙ ap (λ (l : List ℕ). l ++ with_lf (end_text (overall (entries_of p.lines)))) (sym (text_is s (Some p) current)));
          },
        )

-- ---- lines

-- what was tried was done, or it was refused for this
module _ (A : ServiceState → Type 0) (B : Type 0) where
  was_done : (r : Result ServiceState Refusal) → MatchResult r (λ t. (◌≡◌ {A = Option Refusal} None None) × A t) (λ e. (◌≡◌ {A = Option Refusal} None (Some e)) × B) → (t : ServiceState) × (r ≡ Ok t) × A t
  was_done (Ok t) so = (t, refl, so.1)
  was_done (Err e) so = absurd (let same = so.0 in cc)

  was_refused : (why : Refusal) (r : Result ServiceState Refusal) → MatchResult r (λ t. (◌≡◌ {A = Option Refusal} (Some why) None) × A t) (λ e. (◌≡◌ {A = Option Refusal} (Some why) (Some e)) × B) →
      (r ≡ Err why) × B
  was_refused why (Ok t) so = absurd (let same = so.0 in cc)
  was_refused why (Err e) so =
      let is : ◌≡◌ {A = Option Refusal} (Some why) (Some e) = so.0 in
      let same : e ≡ why = cc in
      subst (λ (x : Refusal). (◌≡◌ {A = Result ServiceState Refusal} (Err e) (Err x)) × B) same (refl, so.1)

-- the line asks for this, which is tried
pub asked_by : (line : List ℕ) (o : Order) (why : Option Refusal) (v w : Server) (out written : List ℕ) → SpellsOrder line o → Tries (λ s. after_order s o) why v w out written → TriesLine true line why v w out written
asked_by line o None v w out written spelled tries = λ s before stands.
    let so = was_done (λ t. StandsAs w t before written) (StandsAs w s before written) (after_order s o) (tries s before stands) in
    (o, so.0, (refl, spelled), so.1, so.2)
asked_by line o (Some why) v w out written spelled tries = λ s before stands.
    let so = was_refused (λ t. StandsAs w t before written) (StandsAs w s before written) why (after_order s o) (tries s before stands) in
    (inl (o, (refl, spelled), so.0), so.1)

-- it asks for nothing
pub nothing_asked : (with_lf : Bool) (line : List ℕ) (why : Refusal) (v : Server) (out : List ℕ) → ((o : Order) → IsOrderOf with_lf line o → ⊥) → IsWhyNothing why with_lf line → TriesLine with_lf line (Some why) v v out out
nothing_asked with_lf line why v out none is = λ s before stands. (inr (none, is), stands)

-- ---- lines that are refused

same_run : (a b : Run) → a.0 ≡ b.0 → a ≡ b
same_run a b e = ap (λ (k : ℕ). make k) e
  where
    make : ℕ → Run
    make k = record { 0 = k }

-- the run that the line begins with
abbrev pub IsThatRun : List ℕ → Run → Type 0
IsThatRun line r = (run : ℕ) → run < 2 ^ 16 → IsOf line run → r.0 ≡ run

-- by what became of the refusal
pub tells_run : (line : List ℕ) (r : Run) (why : Refusal) (other : Option Refusal) (told : Bool) (v w : Server) (out written : List ℕ) → is_some other ≡ not told → IsOf line r.0 → IsThatRun line r → Tries (λ s. refused s r why) other v w out written →
    TellsRun line why told v w out written
tells_run line r why None false v w out written is of_run that tries = absurd cc
tells_run line r why (Some x) true v w out written is of_run that tries = absurd cc
tells_run line r why None true v w out written same of_run that tries = λ s before stands.
    let so = was_done (λ t. StandsAs w t before written) (StandsAs w s before written) (refused s r why) (tries s before stands) in
    (r, so.0, of_run, so.1, so.2)
tells_run line r why (Some x) false v w out written same of_run that tries = λ s before stands.
    let so = was_refused (λ t. StandsAs w t before written) (StandsAs w s before written) x (refused s r why) (tries s before stands) in
    (λ run low of_run. subst (λ (b : Run). is_err (refused s b why) ≡ true) (same_run r run (that run.0 low of_run)) (ap (λ (y : Result ServiceState Refusal). is_err y) so.0), so.1)

-- the line begins with no run
pub of_nobody : (line : List ℕ) (why : Refusal) (v : Server) (out : List ℕ) → ((run : ℕ) → run < 2 ^ 16 → IsOf line run → ⊥) → TellsRun line why false v v out out
of_nobody line why v out none = λ s before stands. (λ run low of_run. absurd (none run.0 low of_run), stands)

-- ---- a line that is no entry

pub noted : (v w : OpenCase) (p : Played) (l : Line) (closed : List Played) (before out written : List ℕ) → Rests v p closed before out → entry_in l ≡ [] → w.state ≡ v.state → w.waited ≡ v.waited → ((ls : List Line) → AreMet v.met ls → AreMet w.met (l ∷ ls)) →
    written ≡ out ++ with_lf (line_text l) → Rests w (with_line p l) closed before written
noted v w p l closed before out written holds none state waited met appends =
    let past : entries_of p.lines ≡ entries_of (l ∷ p.lines) = ap (λ (es : List Entry). es ++ entries_of p.lines) (sym none) in
    let kept = holds.is.opened.kept in
    record {
      is = record {
        opened = record {
          kept = record {
            behaviours = ap (λ (k : Kept). k.behaviours) state ∙ kept.behaviours;
            few = kept.few;
            stands = subst (StandsFor w.state) past (subst (λ (k : Kept). StandsFor k (entries_of p.lines)) (sym state) kept.stands);
            met_are = met p.lines kept.met_are;
          };
          few = rw waited holds.is.opened.few;
          awake = subst (AreAwake w.waited p.behaviours) past (rw waited holds.is.opened.awake);
        };
        settled = noted_settled p l none holds.is.settled;
      };
      text = appended before out written _ _ _ holds.text appends (grows closed p (l ∷ p.lines) (with_lf (line_text l)) (line_more l p.lines));
    }

-- ---- a change that may be made, and one that may not

pub by_test : (t s : Bool) (r e : Result Played Refusal) (P : Played → Type 0) (Q : Refusal → Type 0) → t ≡ s → MatchResult (if s then r else e) P Q → MatchResult (if t then r else e) P Q
by_test t s r e P Q same holds = subst (λ (x : Bool). MatchResult (if x then r else e) P Q) (sym same) holds

-- ---- a call

or_no : (t : Bool) → (t || false) ≡ t
or_no true = refl
or_no false = refl

-- the line is whole with what follows its move
pub line_whole : (text move outcome out written : List ℕ) → out ≡ text ++ move → written ≡ out ++ (outcome ++ 10 ∷ []) → written ≡ text ++ ((move ++ outcome) ++ 10 ∷ [])
line_whole text move outcome out written begun is =
    is ∙ (ap (λ (l : List ℕ). l ++ (outcome ++ 10 ∷ [])) begun ∙ (append_assoc text move (outcome ++ 10 ∷ []) ∙ ap (λ (l : List ℕ). text ++ l) (sym (append_assoc move outcome (10 ∷ [])))))

-- the line of a call is about the runs of two refused lines
pub met_other : (met : MetRuns) (caller : Run) (op : Op) (reply : Reply) (ls : List Line) → ((c : Comp) (run : Run) (args : List Comp) → op ≢ Op.Start c run args) → AreMet met (Line.Refused caller [] ∷ ls) → AreMet met (Line.Entry (entry caller op reply) ∷ ls)
met_other met caller op reply ls other are b d less = are b d less ∙ by_op op other
  where
    by_op : (o : Op) → ((c : Comp) (run : Run) (args : List Comp) → o ≢ Op.Start c run args) → ((caller.0 == b) || is_met b ls) ≡ (((caller.0 == b) || starts b o) || is_met b ls)
    by_op (Op.Start c run args) e = absurd (e c run args refl)
    by_op _ e = ap (λ (t : Bool). t || is_met b ls) (sym (or_no (caller.0 == b)))

pub met_some : (met : MetRuns) (caller run : Run) (op : Op) (reply : Reply) (ls : List Line) → Some run ≡ started_run op → AreMet met (Line.Refused run [] ∷ Line.Refused caller [] ∷ ls) → AreMet met (Line.Entry (entry caller op reply) ∷ ls)
met_some met caller run op reply ls some are b d less = are b d less ∙ by_op op some
  where
    turned : (x y z : Bool) → (x || (y || z)) ≡ ((y || x) || z)
    turned true true z = refl
    turned true false z = refl
    turned false true z = refl
    turned false false z = refl

    by_op : (o : Op) → Some run ≡ started_run o → ((run.0 == b) || ((caller.0 == b) || is_met b ls)) ≡ (((caller.0 == b) || starts b o) || is_met b ls)
    by_op (Op.Start c r args) e = let same : run ≡ r = cc in ap (λ (k : Run). (k.0 == b) || ((caller.0 == b) || is_met b ls)) same ∙ turned (r.0 == b) (caller.0 == b) (is_met b ls)
    by_op _ e = absurd cc

pub call_made : (v w : OpenCase) (caller : Run) (op : Op) (reply : Reply) (out written : List ℕ) → IsReplyOf v.state caller op reply → TakesIn v.state (entry caller op reply) w.state → w.state.behaviours ≡ v.state.behaviours → w.waited ≡ v.waited →
    ((ls : List Line) → AreMet v.met ls → AreMet w.met (Line.Entry (entry caller op reply) ∷ ls)) → written ≡ out ++ with_lf (line_text (Line.Entry (entry caller op reply))) → IsCalled caller op reply v w out written
call_made v w caller op reply out written replied takes behaviours waited met appends = record {
  same = waited;
  replied = answered;
  kept = λ p kept. subst (λ (e : Entry). IsKept w.state w.met (record p { lines = Line.Entry e ∷ p.lines })) (entry_is p kept) (record {
    behaviours = behaviours ∙ kept.behaviours;
    few = kept.few;
    stands = takes (entries_of p.lines) kept.stands;
    met_are = met p.lines kept.met_are;
  });
  text = λ p closed before kept text. subst (λ (e : Entry). IsText (record p { lines = Line.Entry e ∷ p.lines }) closed before written) (entry_is p kept)
      (appended before out written _ _ _ text appends (grows closed p (Line.Entry (entry caller op reply) ∷ p.lines) _ (line_more (Line.Entry (entry caller op reply)) p.lines)));
}
  where
    answered : (p : Played) → IsKept v.state v.met p → reply ≡ answer p.behaviours (entries_of p.lines) caller.0 op
    answered p kept = replied (entries_of p.lines) kept.stands ∙ ap (λ (n : ℕ). answer n (entries_of p.lines) caller.0 op) kept.behaviours

    entry_is : (p : Played) → IsKept v.state v.met p → entry caller op reply ≡ called p.behaviours p.lines caller op
    entry_is p kept = ap (entry caller op) (answered p kept)

-- ---- a call that is barred, and one that is not

pub barred : (r : Result Played Refusal) (P : Played → Type 0) (Q : Refusal → Type 0) (why : Refusal) → Some why ≡ result_err r → Q why → MatchResult r P Q
barred (Ok q) P Q why is holds = absurd cc
barred (Err e) P Q why is holds = let same : why ≡ e = cc in subst Q same holds

allowed : (r : Result Played Refusal) (P : Played → Type 0) (Q : Refusal → Type 0) → None ≡ result_err r → ((q : Played) → r ≡ Ok q → P q) → MatchResult r P Q
allowed (Ok q) P Q is holds = holds q refl
allowed (Err e) P Q is holds = absurd cc

pub made_so : (p : Played) (caller : Run) (op : Op) (P : Played → Type 0) (Q : Refusal → Type 0) → ◌≡◌ {A = Option Refusal} None (result_err (made caller op p)) → P (moved p caller op) → MatchResult (made caller op p) P Q
made_so p caller op P Q free holds = allowed (made caller op p) P Q free (λ q is. subst P (made_is caller op p q is).1 holds)

-- ---- a call, and who is woken by it

legal : (o : OpenCase) (p : Played) → IsKept o.state o.met p → IsLegal p.behaviours (entries_of p.lines)
legal o p kept = legal_for p.behaviours o.state (entries_of p.lines) kept.behaviours kept.stands

some : (o : OpenCase) (p : Played) → IsKept o.state o.met p → 0 < p.behaviours
some o p kept = omega (arith, kept.few.0)

-- nobody is, and so it was not tried
pub wakes_none : (v w : OpenCase) (caller : Run) (op : Op) (reply : Reply) (out written : List ℕ) → Becomes (λ p. record p { lines = after_call p caller op }) v w out written → ((p : Played) → IsOpen v p → reply ≡ (called p.behaviours p.lines caller op).reply) →
    wakes_nobody (keeps_phases op) reply ≡ true → Moves caller op v w out written
wakes_none v w caller op reply out written becomes replied nobody p closed before settled holds =
    let kept = holds.is.kept in
    subst (λ (q : Played). Holds w q closed before written) (nobody_woken p caller op (some v p kept) (legal v p kept) settled (rw (replied p holds.is) at nobody)) (becomes p closed before holds)

-- all are who can continue
pub wakes_all : (v w x : OpenCase) (caller : Run) (op : Op) (out mid written : List ℕ) → Becomes (λ p. record p { lines = after_call p caller op }) v w out mid →
    Becomes (λ p. record p { lines = woken p.behaviours p.lines p.behaviours }) w x mid written → Moves caller op v x out written
wakes_all v w x caller op out mid written asks becomes p closed before settled holds = becomes (record p { lines = after_call p caller op }) closed before (asks p closed before holds)

-- nobody is left asleep who can continue
pub moves_rest : (v w : OpenCase) (caller : Run) (op : Op) (out written : List ℕ) → Moves caller op v w out written → (p : Played) (closed : List Played) (before : List ℕ) → Rests v p closed before out → Rests w (moved p caller op) closed before written
moves_rest v w caller op out written moves p closed before rests =
    let holds : Holds w (moved p caller op) closed before written = moves p closed before rests.is.settled (record { is = rests.is.opened; text = rests.text }) in
    record { is = record { opened = holds.is; settled = moved_settled p caller op (legal v p rests.is.opened.kept) }; text = holds.text }
