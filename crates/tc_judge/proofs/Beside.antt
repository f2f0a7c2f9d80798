-- Blocks next to the test cases of their script: what is kept of them while they are taken in.
use Rattle.std.{proofs.{Math.{Bool.or-true, Path.fun_ext}, Common.{ℕ, zero, suc, ◌≡◌, ◌∙◌, ◌+◌, ◌<◌, ◌||◌, ◌↔◌, if◌then◌else◌, not, nat_lt, Bool, true, false, Option, Some, None, List, [], ◌∷◌, ◌++◌, drop, filter, length, map, get_or, reverse, take, slice_get, refl, sym, ap, ap₂, subst, append_assoc, arith}, lemmas.{Bool.Decides.nat_tests, List.{Quantifiers.position-Some, drop_more, reverse-append}}}, specs.{Bool.then_some, Cmp.Lexicographic.bytes_decides, List.{AllZip, list_any}, Option.option_map_or, Prelude.{max, position}}}
use Rattle.tc_blocks.specs.declared.block.Block.{Block}
use Rattle.tc_reader.specs.Prelude.{is_text, CampaignView, Word, add, among, has_twice}
use Rattle.tc_step.specs.Prelude.{ScriptView}
use Rattle.tc_course.specs.Prelude.{IsShown}
use Rattle.tc_rules.specs.Prelude.{Entry}
use Rattle.tc_answer.{specs.{Prelude.{AreChosen, CaseView, scripts_of, RefusesChoice, blocks_part, script_part}, Inside.{AreReadyAs, IsCaseOf}, declared.fault.RunFault.RunFault}, proofs.Lemmas.Chosen.{or_left, or_right}}
use Rattle.tc_exec.specs.declared.test_case.Case.{Case}
use Rattle.tc_command.specs.declared.task.Choice.{Choice}
use Rattle.tc_judge.{specs.{Check.RefusesHistory, Compared.{IsCompared, IsJudged, RefusesAgainst, has_block_named, has_later, missing, note, place_in}, Inside.{AreComparable, IsJudgedBlock, IsWholeOfBlock, Judges, Meets, StandsBeside}, declared.{compare.{Comparing.Comparing, Wrong.Wrong}, judged.Judged.Judged, kept.Whole.Whole}}, proofs.{Counting.same_word, Lemmas.few_jobs, Passing.among_added}}

-- ---- test cases by name

named_at : (cases : CampaignView) (p : ℕ) (n d : Word) → p < length (map (λ c. c.0) cases) → is_text n (get_or (map (λ c. c.0) cases) p d) ≡ true → (c : CaseView) × (slice_get cases p ≡ Some c)
named_at [] p n d lt e = absurd (omega arith)
named_at (c ∷ cs) zero n d lt e = (c, refl)
named_at (c ∷ cs) (suc p) n d lt e = named_at cs p n d (omega arith) e

-- the test case at the place of a name
pub placed : (cases : CampaignView) (n : Word) (p : ℕ) → place_in cases n ≡ Some p → (c : CaseView) × (slice_get cases p ≡ Some c)
placed cases n p e =
    let at = position-Some (is_text n) (map (λ c. c.0) cases) p [] e in
    named_at cases p n [] at.0 at.1

-- the scripts of the test case at a place
pub scripts_at : (cases : CampaignView) (ready : List (Case ScriptView)) (p : ℕ) (t : CaseView) (d : Case ScriptView) → AllZip IsCaseOf cases ready → slice_get cases p ≡ Some t
    → (get_or ready p d).jobs.items ≡ scripts_of t.1
scripts_at (c ∷ cs) (k ∷ ks) zero t d each at =
    let is : c ≡ t = cc in
    each.0.jobs ∙ ap (λ (y : CaseView). scripts_of y.1) is
scripts_at (c ∷ cs) (k ∷ ks) (suc p) t d each at = scripts_at cs ks p t d each.1 at
scripts_at [] ready p t d each at = absurd cc
scripts_at _ _ p t d each at = absurd each

-- ---- one more block

-- the place of the test case of its name
pub place_is : (cases : CampaignView) (before : List Block) (b : Block) (c : Comparing) (name : Word) (o : Option ℕ) → name ≡ b.header.name → StandsBeside cases before c →
    o ≡ position (is_text name) c.names.keys → place_in cases b.header.name ≡ o
place_is cases before b c name o is s e = ap₂ (λ n ns. position (is_text n) ns) (sym is) (sym s.names) ∙ sym e

-- whether there was one of its name
pub met_is : (cases : CampaignView) (before : List Block) (b : Block) (c : Comparing) (name : Word) (x : Bool) → name ≡ b.header.name → StandsBeside cases before c → x ≡ among name c.met.keys →
    has_block_named before b.header.name ≡ x
met_is cases before b c name x is s e = ap (has_block_named before) (sym is) ∙ (sym (s.met name) ∙ sym e)

-- it is judged by its course
pub course_judged : (cases : CampaignView) (before : List Block) (b : Block) (j : Judged Whole) (p : ℕ) (t : CaseView) (scripts : List ScriptView) (entries : List Entry) (is : Bool) →
    IsJudgedBlock IsWholeOfBlock b j → place_in cases b.header.name ≡ Some p → has_block_named before b.header.name ≡ false → has_later cases before p ≡ false →
    slice_get cases p ≡ Some t → scripts ≡ scripts_of t.1 → entries ≡ j.kept.entries.items → ((is ≡ true) ↔ IsShown scripts j.kept.behaviours entries j.verdict) →
    IsJudged cases before b (then_some (not is) Wrong.NoCourse)
course_judged cases before b j p t scripts entries is judged at new next place same lent course =
    rw (at, new, next) (t, is, place, by is, rw (← same, ← judged.verdict, ← judged.kept.behaviours, ← judged.kept.entries, ← lent) course)
  where
    by : (x : Bool) → then_some (not x) Wrong.NoCourse ≡ (if x then None else Some Wrong.NoCourse)
    by true = refl
    by false = refl

-- what is kept after it
pub beside_more : (c after : Comparing) (name : Word) → after.names ≡ c.names → after.ready ≡ c.ready → after.met.keys ≡ add name c.met.keys →
    after.next ≡ option_map_or (λ p. max c.next (p + 1)) (position (is_text name) c.names.keys) c.next → Meets name c after
beside_more c after name names ready met next cases before b is s = record {
  names = ap (λ x. x.keys) names ∙ s.names;
  ready = subst (λ x. AllZip IsCaseOf cases x.items) (sym ready) s.ready;
  met = λ n. ap (among n) met ∙ (among_added n name c.met.keys ∙ ap₂ (λ w x. is_text n w || x) is (s.met n));
  next = λ q. ap (λ x. option_map_or (nat_lt q) (place_in cases b.header.name) false || x) (s.next q)
      ∙ (ap (λ o. option_map_or (nat_lt q) o false || nat_lt (q + 1) c.next) (place_is cases before b c name _ is s refl) ∙ by q (position (is_text name) c.names.keys) next);
}
  where
    by : (q : ℕ) (o : Option ℕ) → after.next ≡ option_map_or (λ p. max c.next (p + 1)) o c.next → (option_map_or (nat_lt q) o false || nat_lt (q + 1) c.next) ≡ nat_lt (q + 1) after.next
    by q None e = ap (nat_lt (q + 1)) (sym e)
    by q (Some p) e = grind (arith, nat_tests)

-- ---- before any block

among_last : (x n : Word) (xs ys : List Word) → n ≡ x → among x (xs ++ n ∷ ys) ≡ true
unfolding is_text among
among_last x n [] ys e = ap (λ b. b || list_any (is_text x) ys) ((bytes_decides x n).1 (sym e))
among_last x n (y ∷ xs) ys e = ap (λ b. is_text x y || b) (among_last x n xs ys e) ∙ or-true (is_text x y)

-- of names that are there once, those before one are others
apart : (xs : List Word) (n : Word) (ys : List Word) → has_twice (xs ++ n ∷ ys) ≡ false → among n xs ≡ false
unfolding among
apart [] n ys h = refl
apart (x ∷ xs) n ys h = by (apart xs n ys (or_right (among x (xs ++ n ∷ ys)) (has_twice (xs ++ n ∷ ys)) h)) (is_text n x) refl
  where
    first : among x (xs ++ n ∷ ys) ≡ false
    first = or_left (among x (xs ++ n ∷ ys)) (has_twice (xs ++ n ∷ ys)) h

    by : list_any (is_text n) xs ≡ false → (t : Bool) → is_text n x ≡ t → (t || list_any (is_text n) xs) ≡ false
    by rest false k = rest
    by rest true k = let known = among_last x n xs ys (same_word n x k) in absurd cc

-- the names so far and those of the test cases that are left are those of all; the next is added
pub name_more : (ready : List (Case ScriptView)) (i : ℕ) (k : Case ScriptView) (keys : List Word) → AreComparable ready → i < length ready → get_or ready i k ≡ k
    → keys ++ map (λ r. r.name) (drop i ready) ≡ map (λ r. r.name) ready → add k.name keys ++ map (λ r. r.name) (drop (i + 1) ready) ≡ map (λ r. r.name) ready
name_more ready i k keys are within item is =
    let here : drop i ready ≡ k ∷ drop (i + 1) ready = drop_more ready i k within ∙ ap (λ x. x ∷ drop (i + 1) ready) item in
    let parts : keys ++ k.name ∷ map (λ r. r.name) (drop (i + 1) ready) ≡ map (λ r. r.name) ready = ap (λ l. keys ++ map (λ r. r.name) l) (sym here) ∙ is in
    let new : among k.name keys ≡ false = apart keys k.name (map (λ r. r.name) (drop (i + 1) ready)) (ap has_twice parts ∙ are.distinct) in
    rw new (append_assoc keys (k.name ∷ []) (map (λ r. r.name) (drop (i + 1) ready)) ∙ parts)

same_names : (cases : CampaignView) (ready : List (Case ScriptView)) → AllZip IsCaseOf cases ready → map (λ k. k.name) ready ≡ map (λ t. t.0) cases
same_names [] [] each = refl
same_names (c ∷ cs) (k ∷ ks) each = ap₂ (λ (x : Word) (xs : List Word). x ∷ xs) each.0.name (same_names cs ks each.1)
same_names _ _ each = absurd each

-- before any block nothing is met
pub beside_none : (c : Comparing) (cases : CampaignView) → c.names.keys ≡ map (λ k. k.name) c.ready.items → AllZip IsCaseOf cases c.ready.items → c.met.keys ≡ [] → c.next ≡ 0 → StandsBeside cases [] c
unfolding among
beside_none c cases names each met next = record {
  names = names ∙ same_names cases c.ready.items each;
  ready = each;
  met = λ n. ap (list_any (is_text n)) met;
  next = λ p. let test : nat_lt (p + 1) c.next ≡ false = grind (arith, nat_tests) in sym test;
}

-- the chosen test cases of a script can be compared
pub comparable : (choice : Choice) (text : List ℕ) (ready : List (Case ScriptView)) → AreReadyAs (AreChosen choice text) ready → AreComparable ready
comparable choice text ready are = record {
  distinct = ap has_twice (same_names are.cases ready are.each) ∙ are.distinct;
  few = few_jobs are.cases ready are.each are.lawful;
}

-- ---- test cases that no block has the name of

pub missing_is : (c : Comparing) (cases : CampaignView) (before : List Block) → StandsBeside cases before c → filter (λ n. not (among n c.met.keys)) c.names.keys ≡ missing before cases
missing_is c cases before s = ap₂ (λ (has : Word → Bool) ns. filter (λ n. not (has n)) ns) (fun_ext s.met) s.names

-- ---- a text that is refused

-- a script that is refused
pub script_refused : (choice : Choice) (text : List ℕ) (fault : RunFault) → RefusesChoice choice (script_part text) fault → RefusesAgainst choice text fault
script_refused choice text (RunFault.Text fault) refused = absurd refused
script_refused choice text _ refused = refused

-- the blocks are refused, after a script that is not
pub blocks_refused : (choice : Choice) (text : List ℕ) (ready : List (Case ScriptView)) (fault : RunFault) → AreReadyAs (AreChosen choice (script_part text)) ready
    → RefusesHistory (blocks_part text) fault → RefusesAgainst choice text fault
blocks_refused choice text ready (RunFault.Text fault) are refused = ((are.cases, are.chosen), refused)
blocks_refused choice text ready RunFault.NoMemory are refused = tt
blocks_refused choice text ready fault are refused = absurd refused

pub ruleset refusing_rules = (script_refused, blocks_refused, comparable)

-- ---- one block after the other

-- these test cases and the first of these judged blocks, that many, are compared so
abbrev pub ComparedTo : List (Case ScriptView) → List (Judged Whole) → ℕ → Comparing → List ℕ → Type 0
ComparedTo ready js i c out =
    (cases : CampaignView) (blocks : List Block) → AllZip IsCaseOf cases ready → AllZip (IsJudgedBlock IsWholeOfBlock) blocks js
    → StandsBeside cases (reverse (take i blocks)) c
    × ((rest : List ℕ) → IsCompared cases (reverse (take i blocks)) (drop i blocks) rest → IsCompared cases [] blocks (out ++ rest))

block_at : {K : Type 0} (keeps : Block → K → Type 0) (bs : List Block) (js : List (Judged K)) (i : ℕ) (j : Judged K) → AllZip (IsJudgedBlock keeps) bs js → i < length js → get_or js i j ≡ j
    → (b : Block) × IsJudgedBlock keeps b j × (take (i + 1) bs ≡ take i bs ++ b ∷ []) × (drop i bs ≡ b ∷ drop (i + 1) bs)
block_at keeps [] [] i j each within item = absurd (omega (arith, within))
block_at keeps (b ∷ bs) (k ∷ js) zero j each within item = let is : k ≡ j = item in (b, subst (IsJudgedBlock keeps b) is each.0, refl, refl)
block_at keeps (b ∷ bs) (k ∷ js) (suc i) j each within item =
    let rest = block_at keeps bs js i j each.1 (omega (arith, within)) item in
    let on : suc i + 1 ≡ suc (i + 1) = omega arith in
    (rest.0, rest.1, ap (λ n. take n (b ∷ bs)) on ∙ ap (λ l. b ∷ l) rest.2, rest.3 ∙ ap (λ n. rest.0 ∷ drop n (b ∷ bs)) (sym on))
block_at keeps _ _ i j each within item = absurd each

-- one block more
pub compared_more : (ready : List (Case ScriptView)) (js : List (Judged Whole)) (i : ℕ) (j : Judged Whole) (c after : Comparing) (out new : List ℕ) (wrong : Option Wrong) → i < length js
    → get_or js i j ≡ j → ComparedTo ready js i c out → Judges c j wrong → new ≡ out ++ option_map_or (note j.name) wrong [] → Meets j.name c after → ComparedTo ready js (i + 1) after new
compared_more ready js i j c after out new wrong within item so judges said meets cases blocks each judged =
    let at = block_at IsWholeOfBlock blocks js i j judged within item in
    let past = reverse (take i blocks) in
    let more : reverse (take (i + 1) blocks) ≡ at.0 ∷ past = ap reverse at.2 ∙ reverse-append (take i blocks) (at.0 ∷ []) in
    let before = so cases blocks each judged in
    let text = option_map_or (note at.0.header.name) wrong [] in
    let told : new ≡ out ++ text = said ∙ ap (λ n. out ++ option_map_or (note n) wrong []) at.1.name in (
      subst (λ l. StandsBeside cases l after) (sym more) (meets cases past at.0 at.1.name before.0),
      λ rest goes. subst (IsCompared cases [] blocks) (sym (append_assoc out text rest) ∙ ap (λ l. l ++ rest) (sym told))
          (before.1 (text ++ rest) (subst (λ l. IsCompared cases past l (text ++ rest)) (sym at.3)
          (wrong, rest, judges cases past at.0 at.1 before.0, subst (λ l. IsCompared cases l (drop (i + 1) blocks) rest) more goes, refl))),
    )
