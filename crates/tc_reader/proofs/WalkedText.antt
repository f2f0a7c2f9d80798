-- Walking over the lines of a text, and what the commonest lines say.
use Rattle.std.{proofs.{Common.{ℕ, ◌≡◌, ◌≤◌, ◌∙◌, ◌+◌, ◌^◌, Bool, true, false, Option, Some, None, Result, Ok, Err, List, [], ◌∷◌, ◌++◌, length, refl, sym, ap, subst, arith, append_assoc}, lemmas.{Bool.Decides.nat_tests, List.{append-nil, reverse-append}}}, specs.{Prelude.{◌||◌, nat_le, nat_lt, reverse, if◌then◌else◌}, Option.option_map_or}}
use Rattle.tc_entry.specs.declared.limits.TheConstants.{ARGUMENTS}
use Rattle.tc_step.specs.declared.limits.TheConstants.{STEPS}
use Rattle.tc_reader.specs.{Campaign.CampaignView, Campaign.Reads, Campaign.campaign, Campaign.cases, FirstPass.argument_count, Inside.judged, FirstPass.open_after, FirstPass.parsed, FirstPass.steps_in, Inside.IsCampaign, Inside.IsWithin, Inside.MayTake, Inside.Takes, Inside.WalkView, Inside.after, Inside.begins, Inside.counted, Inside.counted_with, Inside.counts_of, Inside.ended, Inside.fault_at_end, Inside.fault_in, Inside.may_end as text_may_end, Line.line_of, Line.◌>>=◌, Scope.bound, SecondPass.misnamed, Text.lines as lines_of, declared.counts.Counts.Counts, declared.fault.ReadFault.ReadFault, declared.fault.ScriptFault.ScriptFault, declared.kind.ScriptKind.ScriptKind, declared.line.Line.Line, declared.counts.Open.Open}
use Rattle.tc_reader.proofs.{Lawful.{case_names, cases_are}, Placed.few_names, Skipping.{Agrees, counted_agrees}, Sound.onto, Taking.few_lines, Walked.{IsWalked, all_cases, cases_end, may_end, named_end, walked_first, walked_more}}

-- what was read of a text: some lines, after which these are left
pub record IsRead (w : WalkView) (counts : Counts) (number : ℕ) (texts : List (List ℕ)) (total : Result (List Line) ScriptFault) : Type 0 where
  pub past : List Line
  pub counted_so : counts ≡ counts_of past
  pub numbered : number ≡ length past + 1
  pub few : length past + length texts ≤ 2 ^ 63
  pub so_far : parsed past texts ≡ total
  pub walked : IsWalked w past

pub read_first : (text : List ℕ) (w : WalkView) (counts : Counts) (texts : List (List ℕ)) → length text + 1 ≤ 2 ^ 63 → w ≡ begins → counts ≡ counts_of [] → texts ≡ lines_of text
    → IsRead w counts 1 texts (parsed [] (lines_of text))
read_first text w counts texts short none now all =
    let few : length texts ≡ length (lines_of text) = ap length all in
    record {
      past = [];
      counted_so = now;
      numbered = omega arith;
      few = omega (arith, few, short, few_lines text);
      so_far = ap (parsed []) all;
      walked = subst (λ (v : WalkView). IsWalked v []) (sym none) walked_first;
    }

-- a line may be taken
pub may_take : (w : WalkView) (counts : Counts) (number : ℕ) (texts : List (List ℕ)) (total : Result (List Line) ScriptFault) → IsRead w counts number texts total → MayTake counts w
may_take w counts number texts total is =
    let all = few_names is.past is.walked.placed in
    let names : length w.names.bound ≡ length (bound is.past) = ap length is.walked.bound_now in
    let steps : counts.steps ≡ steps_in is.past = ap (λ c. c.steps) is.counted_so in
    record { may_end = may_end w is.past is.walked; few = omega (arith, all, names, steps) }

pub is_within : (counts more : Counts) (ns : List (List ℕ)) (l : Line) → counted counts l ≡ Ok more → length ns ≤ ARGUMENTS + counts.steps → IsWithin ns l
is_within counts more ns (Line.Step call) is few = by (open_after (Line.Step call) counts.state) is
  where
    within : (o : Open) → counted_with (Line.Step call) o counts ≡ Ok more → IsWithin ns (Line.Step call)
    within o e = at (nat_le STEPS counts.steps) (nat_lt ARGUMENTS (argument_count call)) refl refl e
      where
        at : (a b : Bool) → nat_le STEPS counts.steps ≡ a → nat_lt ARGUMENTS (argument_count call) ≡ b
            → (if a || b then Err ScriptKind.TooMany else Ok (record { state = o; cases = counts.cases; behaviours = counts.behaviours; steps = counts.steps + 1 })) ≡ Ok more → IsWithin ns (Line.Step call)
        at true b p q e = absurd cc
        at false true p q e = absurd cc
        at false false p q e = (grind (arith, nat_tests, p, few), grind (arith, nat_tests, q))

    by : (o : Option Open) → option_map_or (λ o. counted_with (Line.Step call) o counts) o (Err ScriptKind.BadPlace) ≡ Ok more → IsWithin ns (Line.Step call)
    by None e = absurd cc
    by (Some o) e = within o e
is_within counts more ns _ is few = tt

-- what became of a line, by what it says
pub taken : (number : ℕ) (counts more : Counts) (w next : WalkView) (l : Line) (said : Result Line ScriptKind) → said ≡ Ok l → counted counts l ≡ Ok more → next ≡ after number l w
    → Takes number counts w next (Ok more) said
taken number counts more w next l said is count ends = (l, is, count, ends)

pub unread : (number : ℕ) (counts : Counts) (w next : WalkView) (kind : ScriptKind) (said : Result Line ScriptKind) → said ≡ Err kind
    → Takes number counts w next (Err (ReadFault.Script (fault_in number kind))) said
unread number counts w next kind said is = (refl, rw is refl)

pub misplaced : (number : ℕ) (counts : Counts) (w next : WalkView) (l : Line) (kind : ScriptKind) (said : Result Line ScriptKind) → said ≡ Ok l → counted counts l ≡ Err kind
    → Takes number counts w next (Err (ReadFault.Script (fault_in number kind))) said
misplaced number counts w next l kind said is count = (refl, rw is count)

pub ruleset line_rules = (taken, unread, misplaced, is_within)

pub read_more : (w next : WalkView) (counts more : Counts) (number : ℕ) (texts rest : List (List ℕ)) (total : Result (List Line) ScriptFault) (bytes : List ℕ)
    → IsRead w counts number texts total → texts ≡ bytes ∷ rest → Takes number counts w next (Ok more) (line_of bytes) → IsRead next more (number + 1) rest total
read_more w next counts more number texts rest total bytes is at takes =
    let agrees : Agrees is.past takes.0 (Ok more) =
    subst (Agrees is.past takes.0) (ap (λ c. counted c takes.0) (sym is.counted_so) ∙ takes.2) (counted_agrees is.past takes.0) in
    let one : parsed is.past texts ≡ parsed (takes.0 ∷ is.past) rest = rw (at, takes.1, agrees.0) refl in
    let left : length texts ≡ length rest + 1 = ap length at ∙ omega arith in
    record {
      past = takes.0 ∷ is.past;
      counted_so = agrees.1;
      numbered = omega (arith, is.numbered);
      few = omega (arith, left, is.few);
      so_far = sym one ∙ is.so_far;
      walked =
          subst (λ (v : WalkView). IsWalked v (takes.0 ∷ is.past)) (ap (λ n. after n takes.0 w) (sym is.numbered) ∙ sym takes.3)
          (walked_more takes.0 w is.past is.walked agrees.0);
    }

-- ---- a fault of a line

judged_so : (past : List Line) (counts : Counts) (bytes : List ℕ) (number : ℕ) (fault : ScriptFault) → counts ≡ counts_of past → number ≡ length past + 1
    → fault.line ≡ number → (r : Result Line ScriptKind) → line_of bytes ≡ r → (r >>= counted counts) ≡ Err fault.kind → judged past bytes ≡ Err fault
judged_so past counts bytes number fault now count here (Err kind) said is =
    let same : kind ≡ fault.kind = cc in
    rw (said, same, sym count) (ap (λ n. Err (fault_in n fault.kind)) (sym here))
judged_so past counts bytes number fault now count here (Ok l) said is =
    let agrees : Agrees past l (Err fault.kind) = subst (Agrees past l) (ap (λ c. counted c l) (sym now) ∙ is) (counted_agrees past l) in
    rw (said, agrees, sym count) (ap (λ n. Err (fault_in n fault.kind)) (sym here))

faulty : (text : List ℕ) (fault : ScriptFault) → parsed [] (lines_of text) ≡ Err fault → campaign text ≡ Err fault
unfolding campaign
faulty text fault is = rw is refl

pub read_fails : {V : Type 0} (view : V → CampaignView) (text : List ℕ) (e : ReadFault) (w next : WalkView) (counts : Counts) (number : ℕ) (texts rest : List (List ℕ)) (bytes : List ℕ)
    → IsRead w counts number texts (parsed [] (lines_of text)) → texts ≡ bytes ∷ rest → Takes number counts w next (Err e) (line_of bytes) → Reads view (Err e) (campaign text)
read_fails view text ReadFault.NoMemory w next counts number texts rest bytes is at takes = tt
read_fails view text (ReadFault.Script fault) w next counts number texts rest bytes is at takes =
    let stops = judged_so is.past counts bytes number fault is.counted_so is.numbered takes.0 (line_of bytes) refl takes.1 in
    let one : parsed is.past texts ≡ Err fault = rw (at, stops) refl in
    faulty text fault (sym is.so_far ∙ one)

-- ---- the end of the text

turned : (past rest : List Line) → reverse past ++ rest ≡ onto past rest
turned [] rest = refl
turned (l ∷ past) rest = ap (λ xs. xs ++ rest) (reverse-append (l ∷ []) past) ∙ append_assoc (reverse past) (l ∷ []) rest ∙ turned past (l ∷ rest)

all_lines : (w : WalkView) (counts : Counts) (number : ℕ) (texts : List (List ℕ)) (total : Result (List Line) ScriptFault)
    → (is : IsRead w counts number texts total) → texts ≡ [] → text_may_end counts ≡ true → total ≡ Ok (onto is.past [])
all_lines w counts number texts total is at may =
    let well : text_may_end (counts_of is.past) ≡ true = ap text_may_end (sym is.counted_so) ∙ may in
    let one : parsed is.past texts ≡ Ok (reverse is.past) = rw (at, well) refl in
    sym is.so_far ∙ one ∙ ap (λ ls. Ok ls) (sym (append-nil (reverse is.past)) ∙ turned is.past [])

pub read_cut : (text : List ℕ) (w : WalkView) (counts : Counts) (number : ℕ) (texts : List (List ℕ))
    → IsRead w counts number texts (parsed [] (lines_of text)) → texts ≡ [] → text_may_end counts ≡ false → campaign text ≡ Err (fault_in number ScriptKind.Cut)
read_cut text w counts number texts is at may =
    let well : text_may_end (counts_of is.past) ≡ false = ap text_may_end (sym is.counted_so) ∙ may in
    let one : parsed is.past texts ≡ Err (fault_in (length is.past + 1) ScriptKind.Cut) = rw (at, well) refl in
    faulty text (fault_in number ScriptKind.Cut) (sym is.so_far ∙ one ∙ ap (λ n. Err (fault_in n ScriptKind.Cut)) (sym is.numbered))

named_all : (text : List ℕ) (ls : List Line) (o : Option ScriptFault) → parsed [] (lines_of text) ≡ Ok ls → misnamed [] ls ≡ o
    → campaign text ≡ option_map_or (λ fault. Err fault) o (Ok (cases ls))
unfolding campaign
named_all text ls o is same = rw (is, same) refl

pub read_misnamed : (text : List ℕ) (w next : WalkView) (counts : Counts) (number : ℕ) (texts : List (List ℕ)) (fault : ScriptFault)
    → IsRead w counts number texts (parsed [] (lines_of text)) → texts ≡ [] → text_may_end counts ≡ true → next ≡ ended w → Some fault ≡ next.fault → campaign text ≡ Err fault
read_misnamed text w next counts number texts fault is at may ends found =
    named_all text (onto is.past []) (Some fault) (all_lines w counts number texts _ is at may) (named_end w is.past is.walked ∙ ap (λ v. v.fault) (sym ends) ∙ sym found)

no_fault : (w next : WalkView) → next ≡ ended w → None ≡ next.fault → fault_at_end w ≡ None
no_fault w next ends none = ap (λ v. v.fault) (sym ends) ∙ sym none

pub read_whole : (text : List ℕ) (w next : WalkView) (counts : Counts) (number : ℕ) (texts : List (List ℕ))
    → IsRead w counts number texts (parsed [] (lines_of text)) → texts ≡ [] → text_may_end counts ≡ true → next ≡ ended w → None ≡ next.fault → campaign text ≡ Ok next.made.done
read_whole text w next counts number texts is at may ends none =
    let clean = no_fault w next ends none in
    named_all text (onto is.past []) None (all_lines w counts number texts _ is at may) (named_end w is.past is.walked ∙ clean)
    ∙ ap (λ cs. Ok cs) (cases_end w is.past is.walked clean ∙ ap (λ v. v.made.done) (sym ends))

pub read_lawful : (text : List ℕ) (w next : WalkView) (counts : Counts) (number : ℕ) (texts : List (List ℕ))
    → IsRead w counts number texts (parsed [] (lines_of text)) → next ≡ ended w → None ≡ next.fault → IsCampaign next.made.done
read_lawful text w next counts number texts is ends none =
    let clean = no_fault w next ends none in
    let named = named_end w is.past is.walked ∙ clean in
    subst IsCampaign (cases_end w is.past is.walked clean ∙ ap (λ v. v.made.done) (sym ends))
    (record { names = case_names [] (onto is.past []) named refl; cases = cases_are [] (onto is.past []) (all_cases w is.past is.walked clean) named })
