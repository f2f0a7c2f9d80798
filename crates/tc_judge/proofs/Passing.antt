-- Test cases that have passed, by the names that blocks have.
use Rattle.std.{proofs.{Math.Bool.and-false, Common.{ℕ, ◌≡◌, ◌∙◌, ◌&&◌, ◌||◌, ◌↔◌, not, All, Bool, true, false, List, [], ◌∷◌, ◌++◌, if◌then◌else◌, filter, ap, ap₂, refl, sym, subst}, lemmas.List.{Elements.{All-cons, All-filter, All-head, All-nil, All-tail}, Folds.list_any-append}}, specs.List.{AllZip, list_any}}
use Rattle.tc_exec.specs.declared.test_case.Case.{Case}
use Rattle.tc_command.specs.declared.task.Choice.{Choice}
use Rattle.tc_blocks.specs.declared.block.Block.{Block}
use Rattle.tc_reader.specs.Prelude.{is_text, CampaignView, IsCase, Word, add, among}
use Rattle.tc_step.specs.Prelude.{ScriptView}
use Rattle.tc_answer.{specs.{Prelude.{AreChosen, blocks_part, script_part, CaseView}, Inside.{AreReadyAs, IsCaseOf, script_name}}, proofs.Lemmas.Chosen.{distinct_filtered, or_left, or_right, zip_filter}}
use Rattle.tc_judge.{specs.{Inside.{AreJudgedIn, HasSeen, IsJudgedBlock, IsJudgement, KeepsNothing, fails, judges_legal, passes, shows_passed, with_failed}, Compared.{AreToRun, AreUnpassed, HasPassed}, Check.{IsLegalBlock, counting, is_passing}, declared.{judged.Judged.Judged, kept.Nothing.Nothing, passed.Seen.Seen, playing.Judgement.Judgement}}, proofs.{Counting.same_word, Judging.any_named, Lemmas.no_difference}}

-- ---- names

last_or : (a b : Bool) → (a || (b || false)) ≡ (b || a)
last_or true true = refl
last_or true false = refl
last_or false true = refl
last_or false false = refl

known_or : (a b : Bool) → (b ≡ true → a ≡ true) → a ≡ (b || a)
known_or a true known = known refl
known_or a false known = refl

-- after a name is added, it is there, and what was there
pub among_added : (n k : Word) (ns : List Word) → among n (add k ns) ≡ (is_text n k || among n ns)
unfolding among
among_added n k ns = by (among k ns) refl
  where
    by : (there : Bool) → among k ns ≡ there → among n (if there then ns else ns ++ k ∷ []) ≡ (is_text n k || among n ns)
    by true is = known_or (list_any (is_text n) ns) (is_text n k) (λ e. ap (λ w. list_any (is_text w) ns) (same_word n k e) ∙ is)
    by false is = list_any-append (is_text n) ns (k ∷ []) ∙ last_or (list_any (is_text n) ns) (is_text n k)

-- ---- judged blocks

none_among : (n : Word) (ns : List Word) → ns ≡ [] → among n ns ≡ false
unfolding among
none_among n ns none = ap (λ l. list_any (is_text n) l) none

-- before any block there is no name
pub seen_none : (s : Seen) → s.names.keys ≡ [] → s.failed.keys ≡ [] → HasSeen [] s
seen_none s names failed name = (none_among name s.names.keys names, none_among name s.failed.keys failed)

-- one block more, whose name is there if it passes a test
met_added : (n : Word) (test : Judged Nothing → Bool) (js : List (Judged Nothing)) (j : Judged Nothing) (ns ms : List Word) → among n ms ≡ (test j || among n ns)
    → among n ns ≡ list_any test js → among n ms ≡ list_any test (js ++ j ∷ [])
met_added n test js j ns ms added so =
    added ∙ (ap (λ x. test j || x) so ∙ (sym (last_or (list_any test js) (test j)) ∙ sym (list_any-append test js (j ∷ []))))

-- one block more
pub seen_more : (js : List (Judged Nothing)) (j : Judged Nothing) (s t : Seen) → t.names.keys ≡ add j.name s.names.keys
    → t.failed.keys ≡ with_failed s.failed.keys j → HasSeen js s → HasSeen (js ++ j ∷ []) t
seen_more js j s t names failed seen n = (
  met_added n (λ x. is_text n x.name) js j s.names.keys t.names.keys (ap (among n) names ∙ among_added n j.name s.names.keys) (seen n).0,
  met_added n (fails n) js j s.failed.keys t.failed.keys (ap (among n) failed ∙ by (passes j)) (seen n).1,
)
  where
    by : (p : Bool) → among n (if p then s.failed.keys else add j.name s.failed.keys) ≡ ((not p && is_text n j.name) || among n s.failed.keys)
    by true = refl
    by false = among_added n j.name s.failed.keys

-- ---- what they show

-- it is legal, and its verdict is none or pass
abbrev ShowsPassed : Block → Type 0
ShowsPassed b = IsLegalBlock b × (is_passing b.verdict ≡ true)

-- a block that is judged legal and has such a verdict shows that its test case has passed
shows : (b : Block) (j : Judged Nothing) → IsJudgedBlock KeepsNothing b j → passes j ≡ true → ShowsPassed b
shows b j is p = by j.judgement is.judgement p
  where
    by : (k : Judgement) → IsJudgement b k → (judges_legal k && is_passing j.verdict) ≡ true → ShowsPassed b
    by (Judgement.Legal entries) so passing = (so.0, ap is_passing (sym is.verdict) ∙ passing)
    by (Judgement.OtherReply line given reply) so passing = absurd cc
    by (Judgement.OtherVerdict line given verdict) so passing = absurd cc

-- and no other does
shown : (b : Block) (j : Judged Nothing) → IsJudgedBlock KeepsNothing b j → ShowsPassed b → passes j ≡ true
shown b j is so = by j.judgement is.judgement
  where
    by : (k : Judgement) → IsJudgement b k → (judges_legal k && is_passing j.verdict) ≡ true
    by (Judgement.Legal entries) other = ap is_passing is.verdict ∙ so.1
    by (Judgement.OtherReply line given reply) other =
        absurd (no_difference b.header.behaviours b.lines other.before other.behind other.entry reply so.0.replies other.place other.answers other.other)
    by (Judgement.OtherVerdict line given verdict) other = absurd (other.2 (so.0.verdict ∙ sym other.1))

abbrev IsShown : Word → Block → Type 0
IsShown n b = is_text n b.header.name ≡ true → ShowsPassed b

-- without a block of the name that shows nothing, each block of it shows that its test case has passed
each_shown : (n : Word) (bs : List Block) (js : List (Judged Nothing)) → AllZip (IsJudgedBlock KeepsNothing) bs js → list_any (fails n) js ≡ false → All (IsShown n) bs
each_shown n [] [] each none = All-nil (IsShown n)
each_shown n (b ∷ bs) (j ∷ js) each none =
    let first = or_left (fails n j) (list_any (fails n) js) none in
    let rest = or_right (fails n j) (list_any (fails n) js) none in
    All-cons (IsShown n) b bs (λ named. shows b j each.0 (by (passes j) (ap (is_text n) each.0.name ∙ named) first)) (each_shown n bs js each.1 rest)
  where
    by : (p : Bool) → is_text n j.name ≡ true → (not p && is_text n j.name) ≡ false → p ≡ true
    by true named none = refl
    by false named none = absurd cc
each_shown n _ _ each none = absurd each

none_unshown : (n : Word) (bs : List Block) (js : List (Judged Nothing)) → AllZip (IsJudgedBlock KeepsNothing) bs js → All (IsShown n) bs → list_any (fails n) js ≡ false
none_unshown n [] [] each all = refl
none_unshown n (b ∷ bs) (j ∷ js) each all =
    ap₂ (λ x y. x || y) (by (is_text n j.name) refl) (none_unshown n bs js each.1 (All-tail (IsShown n) b bs all))
  where
    by : (t : Bool) → is_text n j.name ≡ t → (fails n j) ≡ false
    by true named = rw (shown b j each.0 (All-head (IsShown n) b bs all (ap (is_text n) (sym each.0.name) ∙ named))) refl
    by false named = rw named (and-false (not (passes j)))
none_unshown n _ _ each all = absurd each

-- what is kept of the names says which test cases have passed
pub passed_by_names : (bs : List Block) (js : List (Judged Nothing)) (s : Seen) → AllZip (IsJudgedBlock KeepsNothing) bs js → HasSeen js s
    → (n : Word) → (shows_passed s n ≡ true) ↔ HasPassed bs n
passed_by_names bs js s each seen n = (
  λ yes.
      let two = and_both (among n s.names.keys) (among n s.failed.keys) yes in
      record { some = sym (any_named KeepsNothing (is_text n) bs js each) ∙ (sym (seen n).0 ∙ two.0); each = each_shown n bs js each (sym (seen n).1 ∙ two.1) },
  λ has. ap₂ (λ x y. x && not y) ((seen n).0 ∙ (any_named KeepsNothing (is_text n) bs js each ∙ has.some)) ((seen n).1 ∙ none_unshown n bs js each has.each),
)
  where
    and_both : (a b : Bool) → (a && not b) ≡ true → (a ≡ true) × (b ≡ false)
    and_both true true e = absurd cc
    and_both true false e = (refl, refl)
    and_both false b e = absurd cc

-- ---- test cases

-- of the chosen test cases of a script those that have not passed are ready to be run
pub ready_unpassed : (choice : Choice) (text : List ℕ) (ks rs : List (Case ScriptView)) (js : List (Judged Nothing)) (s : Seen) → AreReadyAs (AreChosen choice (script_part text)) ks
    → AreJudgedIn KeepsNothing choice.last (blocks_part text) js → HasSeen js s → rs ≡ filter (λ k. not (shows_passed s k.name)) ks
    → AreReadyAs (AreUnpassed choice text) rs
ready_unpassed choice text ks rs js s are judged seen left =
    let test : CaseView → Bool = λ c. not (shows_passed s (script_name c)) in
    record {
      cases = filter test are.cases;
      chosen = record {
        all = are.cases;
        chosen = are.chosen;
        has_passed = shows_passed s;
        passed = record {
          blocks = judged.blocks;
          evidence = judged.evidence;
          holds = λ all so. passed_by_names (counting choice.last all) js s (judged.holds all so) seen;
        };
        are = refl;
      };
      distinct = distinct_filtered test are.cases are.distinct;
      lawful = All-filter test (λ c. IsCase c.1) are.cases are.lawful;
      each = subst (λ l. AllZip IsCaseOf (filter test are.cases) l) (sym left)
          (zip_filter IsCaseOf test (λ k. not (shows_passed s k.name)) (λ c k is. ap (λ n. not (shows_passed s n)) (sym is.name)) are.cases ks are.each);
    }

-- by whether those that have passed are left out
abbrev to_run_by : Bool → Choice → List ℕ → CampaignView → Type 0
to_run_by left_out choice = elim left_out [ true ↦ AreUnpassed choice | false ↦ AreChosen choice ]

pub to_run_left : (choice : Choice) (text : List ℕ) (ks : List (Case ScriptView)) → choice.failed ≡ true → AreReadyAs (AreUnpassed choice text) ks → AreReadyAs (AreToRun choice text) ks
to_run_left choice text ks is are = subst (λ b. AreReadyAs (to_run_by b choice text) ks) (sym is) are

pub to_run_chosen : (choice : Choice) (text : List ℕ) (ks : List (Case ScriptView)) → choice.failed ≡ false → AreReadyAs (AreChosen choice text) ks → AreReadyAs (AreToRun choice text) ks
to_run_chosen choice text ks is are = subst (λ b. AreReadyAs (to_run_by b choice text) ks) (sym is) are

pub ruleset to_run_rules = (to_run_left, to_run_chosen)
