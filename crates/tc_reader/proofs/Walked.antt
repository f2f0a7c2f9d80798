-- What the walk has found of the lines before, whatever lines follow.
use Rattle.std.{proofs.{Common.{ℕ, suc, ◌≡◌, ◌≤◌, ◌∙◌, ◌+◌, Bool, true, false, Option, Some, None, Result, Ok, Err, List, [], ◌∷◌, ◌++◌, length, All, refl, sym, ap, arith, append_assoc}, lemmas.List.{Elements.All-same, append-nil, map-append}}, specs.{Prelude.{is_some, if◌then◌else◌}, List.list_any, Option.{option_map, option_map_or, option_or, unwrap_or}}}
use Rattle.tc_step.specs.{declared.step.Step.Step, Prelude.{ScriptView, of_group, of_target}}
use Rattle.tc_reader.specs.{Campaign.CampaignView, Campaign.behaviours, Campaign.cases, Campaign.step_of, Campaign.steps, FirstPass.at_next, FirstPass.open_after, FirstPass.opened, FirstPass.placed, Inside.AreCases, Inside.MadeView, Inside.MakeScripts, Inside.MayEnd, Inside.WalkView, Inside.after, Inside.all_filled, Inside.begins, Inside.case_fault, Inside.called as after_call, Inside.case_ended, Inside.case_left, Inside.ended, Inside.fault_at_end, Inside.fault_in, Inside.finished, Inside.first_wrong, Inside.head_fault, Inside.made_step, Inside.names_of, Inside.or_fault, Inside.start_kind, Inside.started_of, Inside.with_last, Inside.with_start, Inside.with_step, Names.Word, Names.add, Names.all_of, Names.among, Scope.Head, Scope.behaviours_before, Scope.bound, Scope.cases_before, Inside.heads, Scope.heads_around, Scope.heads_with, Scope.with_bound, SecondPass.is_unbound, SecondPass.misnamed, SecondPass.name_fault, declared.fault.ScriptFault.ScriptFault, declared.kind.ScriptKind.ScriptKind, declared.line.Call.Call, declared.line.Line.Line, declared.counts.Open.Open, declared.made.Start.Start}
use Rattle.tc_reader.proofs.{Binding.{add_named, all_last, among_each, head_is, head_more, none_of_each, one_longer}, Making.{all_fill, called, called_in}, Placed.{AllPlaced, few_behaviours, in_behaviour, not_nothing}, Sound.{MakesScripts, are_cases, are_placed, onto, scripts_are}}

-- ---- faults

pub or_or : {A : Type 0} (a b c : Option A) → option_or a (option_or b c) ≡ option_or (option_or a b) c
or_or (Some x) b c = refl
or_or None b c = refl

pub or_none : {A : Type 0} (a : Option A) → option_or a None ≡ a
or_none (Some x) = refl
or_none None = refl

pub none_left : {A : Type 0} (a b : Option A) → option_or a b ≡ None → (a ≡ None) × (b ≡ None)
none_left (Some x) b e = absurd cc
none_left None b e = (refl, e)

some_fault : {P : Type 0} (fault : ScriptFault) → Some fault ≡ None → P
some_fault fault e = absurd cc

-- a fault that is kept if there is none before
noted : (fw fault : Option ScriptFault) (past : List Line) (kind : Option ScriptKind) (more : Option ScriptFault)
    → option_or fw (option_or fault (option_or (option_map (at_next past) kind) more)) ≡ option_or fw (option_or (or_fault fault (length past + 1) kind) more)
noted fw fault past kind more = ap (option_or fw) (or_or fault (option_map (at_next past) kind) more)

-- what is wrong with a call that is a start
abbrev start_fault : List Head → Call → Option ScriptKind
start_fault hs (Call.Start on b args) = start_kind hs b (length args)
start_fault hs _ = None

-- the fault instead of a step
abbrev fault_of : Result Step ScriptKind → Option ScriptKind
fault_of (Ok s) = None
fault_of (Err kind) = Some kind

unbound : (b : Bool) (s : Step) (more : Option ScriptKind)
    → (if b then Some ScriptKind.NoReference else more) ≡ option_or (fault_of (option_map_or (λ x. Ok x) (if b then None else Some s) (Err ScriptKind.NoReference))) more
unbound true s more = refl
unbound false s more = refl

call_fault : (cs bs ns : List Word) (hs : List Head) (call : Call)
    → name_fault cs bs ns hs (Line.Step call) ≡ option_or (fault_of (made_step ns call)) (start_fault hs call)
call_fault cs bs ns hs (Call.Create n alive given_name) = by (among n ns)
  where
    by : (b : Bool) → (if b then Some ScriptKind.Twice else None) ≡ option_or (fault_of (if b then Err ScriptKind.Twice else Ok (step_of [] ns (Call.Create n alive given_name)))) None
    by true = refl
    by false = refl
call_fault cs bs ns hs (Call.Start on b args) = unbound (list_any (is_unbound ns) (on ∷ args)) (step_of [] ns (Call.Start on b args)) _
call_fault cs bs ns hs (Call.Stop g) = unbound (list_any (is_unbound ns) (of_group g)) (step_of [] ns (Call.Stop g)) None
call_fault cs bs ns hs (Call.Kill g) = unbound (list_any (is_unbound ns) (of_group g)) (step_of [] ns (Call.Kill g)) None
call_fault cs bs ns hs (Call.Ask s t) = unbound (list_any (is_unbound ns) (of_target t)) (step_of [] ns (Call.Ask s t)) None
call_fault cs bs ns hs (Call.Wait killed t) = unbound (list_any (is_unbound ns) (of_target t)) (step_of [] ns (Call.Wait killed t)) None
call_fault cs bs ns hs _ = refl

step_made : (again unnamed : Bool) (x s : Step) → (if again then Err ScriptKind.Twice else option_map_or (λ y. Ok y) (if unnamed then None else Some x) (Err ScriptKind.NoReference)) ≡ Ok s → x ≡ s
step_made true unnamed x s e = absurd cc
step_made false true x s e = absurd cc
step_made false false x s e = cc

-- only the start that a call is
abbrev started : ℕ → Call → List Start
started number call = with_start [] number call

with_start_is : (starts : List Start) (number : ℕ) (call : Call) → with_start starts number call ≡ starts ++ started number call
with_start_is starts number (Call.Start on b args) = refl
with_start_is starts number _ = sym (append-nil starts)

first_started : (hs : List Head) (number : ℕ) (call : Call) → first_wrong hs (started number call) ≡ option_map (fault_in number) (start_fault hs call)
first_started hs number (Call.Start on b args) = or_none (option_map (fault_in number) (start_kind hs b (length args)))
first_started hs number _ = refl

wrong_more : (hs : List Head) (starts more : List Start) → first_wrong hs (starts ++ more) ≡ option_or (first_wrong hs starts) (first_wrong hs more)
wrong_more hs [] more = refl
wrong_more hs (s ∷ starts) more =
    let here = option_map (fault_in s.line) (start_kind hs s.behaviour s.given) in
    ap (option_or here) (wrong_more hs starts more) ∙ or_or here (first_wrong hs starts) (first_wrong hs more)

-- a start that is kept while there is no fault
kept : (hs : List Head) (starts : List Start) (past : List Line) (call : Call) (fault more : Option ScriptFault)
    → option_or (first_wrong hs starts) (option_or fault (option_or (option_map (at_next past) (start_fault hs call)) more))
    ≡ option_or (first_wrong hs (if is_some fault then starts else with_start starts (length past + 1) call)) (option_or fault more)
kept hs starts past call (Some f) more = refl
kept hs starts past call None more =
    let number = length past + 1 in
    or_or (first_wrong hs starts) (option_map (fault_in number) (start_fault hs call)) more
    ∙ ap (λ o. option_or o more) (ap (option_or (first_wrong hs starts)) (sym (first_started hs number call)) ∙ sym (wrong_more hs starts (started number call)) ∙ ap (first_wrong hs) (sym (with_start_is starts number call)))

-- ---- the lines before, and those that follow

-- what the behaviour that is open becomes
abbrev pub going : Option (Word × ScriptView) → List Word → List Line → List (Word × ScriptView)
going None ns rest = behaviours [] rest
going (Some b) ns rest = (b.0, record { parameters = b.1.parameters; steps = b.1.steps ++ steps [] ns rest }) ∷ behaviours [] rest

abbrev pub going_called : Option (Word × ScriptView) → List Line → List Word
going_called None rest = called rest
going_called (Some b) rest = called_in rest ++ called rest

-- what is made of the test case with this name, whose lines so far are `body`
pub record IsInCase (w : WalkView) (past : List Line) (n : Word) : Type 0 where
  pub body : List Line
  pub cases_are : (rest : List Line) → cases (onto past rest) ≡ w.made.done ++ (n, behaviours (heads_with w.names.heads rest) (onto body rest)) ∷ cases rest
  pub drafts_are : (rest : List Line) → behaviours [] (onto body rest) ≡ w.made.drafts ++ going w.made.current w.names.bound rest
  pub starts_are : (rest : List Line) → called (onto body rest) ≡ started_of w.starts ++ going_called w.made.current rest

abbrev pub IsMade : Option Word → WalkView → List Line → Type 0
IsMade None w past = (rest : List Line) → cases (onto past rest) ≡ w.made.done ++ cases rest
IsMade (Some n) w past = IsInCase w past n

-- what the walk has found of the lines before
pub record IsWalked (w : WalkView) (past : List Line) : Type 0 where
  pub placed : AllPlaced past
  pub cases_used : w.names.cases ≡ all_of [] (cases_before past)
  pub used : names_of w.names.heads ≡ all_of [] (behaviours_before past)
  pub bound_now : w.names.bound ≡ bound past
  pub few : length w.names.heads ≤ length (behaviours_before past)
  pub is_open : opened past ≡ Open.Behaviour → is_some w.made.current ≡ true
  pub heads_are : (opened past ≡ Open.Nothing → ⊥) → (rest : List Line) → heads_around past rest ≡ heads_with w.names.heads rest
  pub named : (rest : List Line) → misnamed [] (onto past rest) ≡ option_or (first_wrong (heads_with w.names.heads rest) w.starts) (option_or w.fault (misnamed past rest))
  pub made : w.fault ≡ None → IsMade w.made.case w past

pub walked_first : IsWalked begins []
unfolding opened
walked_first = record {
  placed = tt;
  cases_used = refl;
  used = refl;
  bound_now = refl;
  few = omega arith;
  is_open = λ e. absurd cc;
  heads_are = λ some rest. absurd (some refl);
  named = λ rest. refl;
  made = λ none rest. refl;
}

-- ---- what ends the behaviour that is open

ends : (drafts : List (Word × ScriptView)) (current : Option (Word × ScriptView)) (ns : List Word) (rest : List Line) → steps [] ns rest ≡ []
    → drafts ++ going current ns rest ≡ with_last drafts current ++ behaviours [] rest
ends drafts None ns rest none = refl
ends drafts (Some b) ns rest none =
    let all : b.1.steps ++ steps [] ns rest ≡ b.1.steps = ap (λ xs. b.1.steps ++ xs) none ∙ append-nil b.1.steps in
    ap (λ xs. drafts ++ (b.0, record { parameters = b.1.parameters; steps = xs }) ∷ behaviours [] rest) all ∙ sym (append_assoc drafts (b ∷ []) (behaviours [] rest))

ends_called : (current : Option (Word × ScriptView)) (rest : List Line) → called_in rest ≡ [] → going_called current rest ≡ called rest
ends_called None rest none = refl
ends_called (Some b) rest none = ap (λ xs. xs ++ called rest) none

-- ---- a line more

skipped_made : (c : Option Word) (w : WalkView) (past : List Line) → IsMade c w past → IsMade c w (Line.Skipped ∷ past)
skipped_made None w past is = λ rest. is (Line.Skipped ∷ rest)
skipped_made (Some n) w past is = record {
  body = Line.Skipped ∷ is.body;
  cases_are = λ rest. is.cases_are (Line.Skipped ∷ rest);
  drafts_are = λ rest. is.drafts_are (Line.Skipped ∷ rest) ∙ ap (λ bs. w.made.drafts ++ bs) (same w.made.current rest);
  starts_are = λ rest. is.starts_are (Line.Skipped ∷ rest) ∙ ap (λ ns. started_of w.starts ++ ns) (same_called w.made.current rest);
}
  where
    same : (current : Option (Word × ScriptView)) (rest : List Line) → going current w.names.bound (Line.Skipped ∷ rest) ≡ going current w.names.bound rest
    same None rest = refl
    same (Some b) rest = refl

    same_called : (current : Option (Word × ScriptView)) (rest : List Line) → going_called current (Line.Skipped ∷ rest) ≡ going_called current rest
    same_called None rest = refl
    same_called (Some b) rest = refl

pub walked_skipped : (w : WalkView) (past : List Line) → IsWalked w past → IsWalked w (Line.Skipped ∷ past)
unfolding opened
walked_skipped w past is = record {
  placed = (refl, is.placed);
  cases_used = is.cases_used;
  used = is.used;
  bound_now = is.bound_now;
  few = is.few;
  is_open = is.is_open;
  heads_are = λ some rest. is.heads_are some (Line.Skipped ∷ rest);
  named = λ rest. is.named (Line.Skipped ∷ rest);
  made = λ none. skipped_made w.made.case w past (is.made none);
}

end_made : (c : Option Word) (number : ℕ) (w : WalkView) (past : List Line) → IsMade c w past → IsMade c (after number Line.End w) (Line.End ∷ past)
end_made None number w past is = λ rest. is (Line.End ∷ rest)
end_made (Some n) number w past is = record {
  body = Line.End ∷ is.body;
  cases_are = λ rest. is.cases_are (Line.End ∷ rest);
  drafts_are = λ rest. is.drafts_are (Line.End ∷ rest) ∙ ends w.made.drafts w.made.current w.names.bound (Line.End ∷ rest) refl;
  starts_are = λ rest. is.starts_are (Line.End ∷ rest) ∙ ap (λ ns. started_of w.starts ++ ns) (ends_called w.made.current (Line.End ∷ rest) refl);
}

walked_end : (w : WalkView) (past : List Line) → IsWalked w past → placed past Line.End ≡ Ok Line.End → IsWalked (after (length past + 1) Line.End w) (Line.End ∷ past)
unfolding opened
walked_end w past is at = record {
  placed = (at, is.placed);
  cases_used = is.cases_used;
  used = is.used;
  bound_now = is.bound_now;
  few = is.few;
  is_open = λ e. absurd (by (opened past) e);
  heads_are = λ some rest. is.heads_are (not_nothing past Line.End at refl) (Line.End ∷ rest);
  named = λ rest. is.named (Line.End ∷ rest);
  made = λ none. end_made w.made.case (length past + 1) w past (is.made none);
}
  where
    by : (o : Open) → unwrap_or (open_after Line.End o) Open.Nothing ≡ Open.Behaviour → ⊥
    by Open.Nothing e = absurd cc
    by _ e = absurd cc

behaviour_made : (c : Option Word) (number : ℕ) (n : Word) (ps : List Word) (w : WalkView) (past : List Line) → IsMade c w past
    → IsMade c (after number (Line.Behaviour n ps) w) (Line.Behaviour n ps ∷ past)
behaviour_made None number n ps w past is = λ rest. is (Line.Behaviour n ps ∷ rest)
behaviour_made (Some m) number n ps w past is = record {
  body = Line.Behaviour n ps ∷ is.body;
  cases_are = λ rest. is.cases_are (Line.Behaviour n ps ∷ rest);
  drafts_are = λ rest. is.drafts_are (Line.Behaviour n ps ∷ rest) ∙ ends w.made.drafts w.made.current w.names.bound (Line.Behaviour n ps ∷ rest) refl;
  starts_are = λ rest. is.starts_are (Line.Behaviour n ps ∷ rest) ∙ ap (λ ns. started_of w.starts ++ ns) (ends_called w.made.current (Line.Behaviour n ps ∷ rest) refl);
}

walked_behaviour : (n : Word) (ps : List Word) (w : WalkView) (past : List Line) → IsWalked w past → placed past (Line.Behaviour n ps) ≡ Ok (Line.Behaviour n ps)
    → IsWalked (after (length past + 1) (Line.Behaviour n ps) w) (Line.Behaviour n ps ∷ past)
unfolding opened
walked_behaviour n ps w past is at =
    let l : Line = Line.Behaviour n ps in
    let more = head_more n (length ps) w.names.heads in
    let kind = head_fault w.names.heads n ps in
    let same : head_fault w.names.heads n ps ≡ name_fault [] (behaviours_before past) [] [] l =
    head_is w.names.heads [] [] [] n ps ∙ ap (λ (bs : List Word). name_fault [] bs [] [] l) is.used ∙ rw (among_each n (behaviours_before past), none_of_each (behaviours_before past)) refl in
    let long = one_longer n (behaviours_before past) in
    record {
      placed = (at, is.placed);
      cases_used = is.cases_used;
      used = add_named n (length ps) w.names.heads ∙ ap (add n) is.used ∙ sym (all_last [] (behaviours_before past) n);
      bound_now = refl;
      few = omega (arith, more, is.few, long);
      is_open = λ e. refl;
      heads_are = λ some rest. is.heads_are (not_nothing past l at refl) (l ∷ rest);
      named = λ rest.
          is.named (l ∷ rest)
          ∙ ap (λ o. option_or (first_wrong (heads_with w.names.heads (l ∷ rest)) w.starts) (option_or w.fault (option_or (option_map (at_next past) o) (misnamed (l ∷ past) rest)))) (sym same)
          ∙ noted (first_wrong (heads_with w.names.heads (l ∷ rest)) w.starts) w.fault past kind (misnamed (l ∷ past) rest);
      made = λ none. behaviour_made w.made.case (length past + 1) n ps w past (is.made (none_left w.fault _ none).0);
    }

-- ---- a call

with_started : (call : Call) (rest : List Line) (number : ℕ) → called_in (Line.Step call ∷ rest) ≡ started_of (started number call) ++ called_in rest
with_started (Call.Start on b args) rest number = refl
with_started _ rest number = refl

call_made : (c : Option Word) (number : ℕ) (call : Call) (s : Step) (w : WalkView) (past : List Line) → IsMade c w past → w.fault ≡ None → step_of [] w.names.bound call ≡ s → is_some w.made.current ≡ true
    → IsMade c (after_call number call (Ok s) w) (Line.Step call ∷ past)
call_made None number call s w past is none same some = λ rest. is (Line.Step call ∷ rest)
call_made (Some n) number call s w past is none same some = record {
  body = Line.Step call ∷ is.body;
  cases_are = λ rest. is.cases_are (Line.Step call ∷ rest);
  drafts_are = λ rest. is.drafts_are (Line.Step call ∷ rest) ∙ ap (λ bs. w.made.drafts ++ bs) (longer w.made.current rest);
  starts_are = λ rest. is.starts_are (Line.Step call ∷ rest) ∙ called_longer w.made.current some rest ∙ ap (λ ss. started_of ss ++ going_called (option_map (with_step s) w.made.current) rest) (all w.fault none);
}
  where
    ns : List Word
    ns = w.names.bound

    longer : (current : Option (Word × ScriptView)) (rest : List Line) → going current ns (Line.Step call ∷ rest) ≡ going (option_map (with_step s) current) (with_bound call ns) rest
    longer None rest = refl
    longer (Some b) rest =
        ap (λ (xs : List Step). (b.0, record { parameters = b.1.parameters; steps = xs }) ∷ behaviours [] rest)
        (ap (λ x. b.1.steps ++ x ∷ steps [] (with_bound call ns) rest) same ∙ sym (append_assoc b.1.steps (s ∷ []) (steps [] (with_bound call ns) rest)))

    all : (fault : Option ScriptFault) → fault ≡ None → w.starts ++ started number call ≡ (if is_some fault then w.starts else with_start w.starts number call)
    all None e = sym (with_start_is w.starts number call)
    all (Some f) e = absurd cc

    called_longer : (current : Option (Word × ScriptView)) → is_some current ≡ true → (rest : List Line)
        → started_of w.starts ++ going_called current (Line.Step call ∷ rest) ≡ started_of (w.starts ++ started number call) ++ going_called (option_map (with_step s) current) rest
    called_longer None e rest = absurd cc
    called_longer (Some b) e rest =
        ap (λ xs. started_of w.starts ++ (xs ++ called rest)) (with_started call rest number)
        ∙ ap (λ xs. started_of w.starts ++ xs) (append_assoc (started_of (started number call)) (called_in rest) (called rest))
        ∙ sym (append_assoc (started_of w.starts) (started_of (started number call)) (called_in rest ++ called rest))
        ∙ ap (λ xs. xs ++ (called_in rest ++ called rest)) (sym (map-append (λ x. x.behaviour) w.starts (started number call)))

walked_call : (call : Call) (w : WalkView) (past : List Line) → IsWalked w past → placed past (Line.Step call) ≡ Ok (Line.Step call) → (r : Result Step ScriptKind) → made_step w.names.bound call ≡ r
    → IsWalked (after_call (length past + 1) call r w) (Line.Step call ∷ past)
unfolding opened
walked_call call w past is at r same = by r same
  where
    l : Line
    l = Line.Step call

    hs : List Line → List Head
    hs rest = heads_with w.names.heads rest

    kind_is : (rest : List Line) → name_fault (cases_before past) (behaviours_before past) (bound past) (heads_around past (l ∷ rest)) l ≡ option_or (fault_of (made_step w.names.bound call)) (start_fault (hs rest) call)
    kind_is rest =
        call_fault (cases_before past) (behaviours_before past) (bound past) (heads_around past (l ∷ rest)) call
        ∙ ap (λ ns. option_or (fault_of (made_step ns call)) (start_fault (heads_around past (l ∷ rest)) call)) (sym is.bound_now)
        ∙ ap (λ gs. option_or (fault_of (made_step w.names.bound call)) (start_fault gs call)) (is.heads_are (not_nothing past l at refl) (l ∷ rest))

    first : (rest : List Line) (o : Option ScriptKind) → name_fault (cases_before past) (behaviours_before past) (bound past) (heads_around past (l ∷ rest)) l ≡ o
        → misnamed [] (onto past (l ∷ rest)) ≡ option_or (first_wrong (hs rest) w.starts) (option_or w.fault (option_or (option_map (at_next past) o) (misnamed (l ∷ past) rest)))
    first rest o e = is.named (l ∷ rest) ∙ ap (λ k. option_or (first_wrong (hs rest) w.starts) (option_or w.fault (option_or (option_map (at_next past) k) (misnamed (l ∷ past) rest)))) e

    open_here : opened past ≡ Open.Behaviour
    open_here = in_behaviour past call at

    by : (r : Result Step ScriptKind) → made_step w.names.bound call ≡ r → IsWalked (after_call (length past + 1) call r w) (l ∷ past)
    by (Err kind) e = record {
      placed = (at, is.placed);
      cases_used = is.cases_used;
      used = is.used;
      bound_now = ap (with_bound call) is.bound_now;
      few = is.few;
      is_open = λ o. is.is_open open_here;
      heads_are = λ some rest. is.heads_are (not_nothing past l at refl) (l ∷ rest);
      named = λ rest.
          first rest (Some kind) (kind_is rest ∙ ap (λ x. option_or (fault_of x) (start_fault (hs rest) call)) e)
          ∙ noted (first_wrong (hs rest) w.starts) w.fault past (Some kind) (misnamed (l ∷ past) rest);
      made = λ none. some_fault _ (none_left w.fault (option_map (fault_in (length past + 1)) (Some kind)) none).1;
    }
    by (Ok s) e = record {
      placed = (at, is.placed);
      cases_used = is.cases_used;
      used = is.used;
      bound_now = ap (with_bound call) is.bound_now;
      few = is.few;
      is_open = λ o. still w.made.current (is.is_open open_here);
      heads_are = λ some rest. is.heads_are (not_nothing past l at refl) (l ∷ rest);
      named = λ rest.
          first rest (start_fault (hs rest) call) (kind_is rest ∙ ap (λ x. option_or (fault_of x) (start_fault (hs rest) call)) e)
          ∙ kept (hs rest) w.starts past call w.fault (misnamed (l ∷ past) rest);
      made = λ none. call_made w.made.case (length past + 1) call s w past (is.made none) none (step_made _ _ _ s e) (is.is_open open_here);
    }
      where
        still : (o : Option (Word × ScriptView)) → is_some o ≡ true → is_some (option_map (with_step s) o) ≡ true
        still (Some b) e = refl
        still None e = absurd cc

-- ---- the end of a test case

-- the test cases, if the one that is open has the name c
abbrev done_with : Option Word → WalkView → CampaignView
done_with c w = with_last w.made.done (option_map (λ n. (n, finished w.names.heads (started_of w.starts) w.made)) c)

case_ends : (c : Option Word) (w : WalkView) (past : List Line) → IsMade c w past
    → (rest : List Line) → steps [] w.names.bound rest ≡ [] → behaviours [] rest ≡ [] → called_in rest ≡ [] → called rest ≡ [] → heads_with w.names.heads rest ≡ w.names.heads
    → cases (onto past rest) ≡ done_with c w ++ cases rest
case_ends None w past is rest steps_end behaviours_end called_end all_end heads_end = is rest
case_ends (Some n) w past is rest steps_end behaviours_end called_end all_end heads_end =
    is.cases_are rest ∙ ap (λ (bs : List (Word × ScriptView)). w.made.done ++ (n, bs) ∷ cases rest) same
    ∙ sym (append_assoc w.made.done ((n, finished w.names.heads (started_of w.starts) w.made) ∷ []) (cases rest))
  where
    hs : List Head
    hs = w.names.heads

    made : List (Word × ScriptView)
    made = with_last w.made.drafts w.made.current

    drafts_same : behaviours [] (onto is.body rest) ≡ made
    drafts_same =
        is.drafts_are rest ∙ ends w.made.drafts w.made.current w.names.bound rest steps_end ∙ ap (λ bs. made ++ bs) behaviours_end ∙ append-nil made

    starts_same : called (onto is.body rest) ≡ started_of w.starts
    starts_same = is.starts_are rest ∙ ap (λ ns. started_of w.starts ++ ns) (ends_called w.made.current rest called_end ∙ all_end) ∙ append-nil (started_of w.starts)

    same : behaviours (heads_with hs rest) (onto is.body rest) ≡ all_filled hs made (started_of w.starts)
    same =
        ap (λ gs. behaviours gs (onto is.body rest)) heads_end ∙ sym (all_fill hs (onto is.body rest))
        ∙ ap (λ bs. all_filled hs bs (called (onto is.body rest))) drafts_same ∙ ap (all_filled hs made) starts_same

-- the faults of names up to the end of a test case
pub named_end : (w : WalkView) (past : List Line) → IsWalked w past → misnamed [] (onto past []) ≡ fault_at_end w
named_end w past is = is.named [] ∙ ap (option_or (first_wrong w.names.heads w.starts)) (or_none w.fault)

cases_at_end : (w : WalkView) (past : List Line) → IsWalked w past → fault_at_end w ≡ None → cases (onto past []) ≡ done_with w.made.case w
cases_at_end w past is none = case_ends w.made.case w past (is.made (none_left _ w.fault none).1) [] refl refl refl refl refl ∙ append-nil _

pub all_cases : (w : WalkView) (past : List Line) → IsWalked w past → fault_at_end w ≡ None → AreCases (onto past [])
all_cases w past is none = are_cases [] (onto past []) (are_placed past [] is.placed tt) (named_end w past is ∙ none)

all_right : {X : Type 0} (P : X → Type 0) (xs ys : List X) → All P (xs ++ ys) → All P ys
all_right P [] ys are = are
all_right P (x ∷ xs) ys are = all_right P xs ys (λ i d lt. are (suc i) d (omega (arith, lt)))

last_makes : (c : Option Word) (w : WalkView) → All MakesScripts (done_with c w) → MakeScripts c (finished w.names.heads (started_of w.starts) w.made)
last_makes None w are = tt
last_makes (Some n) w are =
    all_right MakesScripts w.made.done ((n, finished w.names.heads (started_of w.starts) w.made) ∷ []) are 0 (n, finished w.names.heads (started_of w.starts) w.made) (omega arith)

pub may_end : (w : WalkView) (past : List Line) → IsWalked w past → MayEnd w
may_end w past is =
    let few = few_behaviours past is.placed in
    record {
      few = omega (arith, few, is.few);
      scripts = λ none.
          last_makes w.made.case w (All-same MakesScripts (done_with w.made.case w) (cases (onto past [])) (sym (cases_at_end w past is none)) (scripts_are (onto past []) (all_cases w past is none)));
    }

ended_made : (fault : Option ScriptFault) (left made : MadeView) → fault ≡ None → (if is_some fault then left else made) ≡ made
ended_made None left made e = refl
ended_made (Some f) left made e = absurd cc

end_made_is : (w : WalkView) → fault_at_end w ≡ None → (ended w).made ≡ case_ended w.names.heads (started_of w.starts) w.made
end_made_is w none = ended_made (fault_at_end w) (case_left w.made) (case_ended w.names.heads (started_of w.starts) w.made) none

pub cases_end : (w : WalkView) (past : List Line) → IsWalked w past → fault_at_end w ≡ None → cases (onto past []) ≡ (ended w).made.done
cases_end w past is none = cases_at_end w past is none ∙ ap (λ (m : MadeView). m.done) (sym (end_made_is w none))

case_begun : (n : Word) (number : ℕ) (w : WalkView) (past : List Line) → IsWalked w past → fault_at_end w ≡ None → IsInCase (after number (Line.TestCase n) w) (Line.TestCase n ∷ past) n
case_begun n number w past is none = record {
  body = [];
  cases_are = λ rest.
      case_ends w.made.case w past (is.made (none_left _ w.fault none).1) (Line.TestCase n ∷ rest) refl refl refl refl refl
      ∙ ap (λ (m : MadeView). m.done ++ (n, behaviours (heads rest) rest) ∷ cases rest) (sym (end_made_is w none));
  drafts_are = λ rest. ap (λ (m : MadeView). m.drafts ++ going m.current w.names.bound rest) (sym (end_made_is w none));
  starts_are = λ rest. ap (λ (m : MadeView). going_called m.current rest) (sym (end_made_is w none));
}

walked_case : (n : Word) (w : WalkView) (past : List Line) → IsWalked w past → placed past (Line.TestCase n) ≡ Ok (Line.TestCase n)
    → IsWalked (after (length past + 1) (Line.TestCase n) w) (Line.TestCase n ∷ past)
unfolding opened
walked_case n w past is at =
    let l : Line = Line.TestCase n in
    let wrong = first_wrong w.names.heads w.starts in
    let kind = case_fault w.names.cases n in
    let same : case_fault w.names.cases n ≡ name_fault (cases_before past) [] [] [] l =
    ap (λ (cs : List Word). name_fault cs [] [] [] l) is.cases_used ∙ rw (among_each n (cases_before past)) refl in
    record {
      placed = (at, is.placed);
      cases_used = ap (add n) is.cases_used ∙ sym (all_last [] (cases_before past) n);
      used = refl;
      bound_now = is.bound_now;
      few = omega arith;
      is_open = λ e. absurd (by (opened past) e);
      heads_are = λ some rest. refl;
      named = λ rest.
          is.named (l ∷ rest) ∙ ap (λ o. option_or wrong (option_or w.fault (option_or (option_map (at_next past) o) (misnamed (l ∷ past) rest)))) (sym same)
          ∙ or_or wrong w.fault (option_or (option_map (at_next past) kind) (misnamed (l ∷ past) rest))
          ∙ or_or (fault_at_end w) (option_map (at_next past) kind) (misnamed (l ∷ past) rest);
      made = λ none. case_begun n (length past + 1) w past is (none_left (fault_at_end w) _ none).0;
    }
  where
    by : (o : Open) → unwrap_or (open_after (Line.TestCase n) o) Open.Nothing ≡ Open.Behaviour → ⊥
    by Open.Nothing e = absurd cc
    by Open.NewCase e = absurd cc
    by Open.Case e = absurd cc
    by Open.Behaviour e = absurd cc

-- ---- any line

pub walked_more : (l : Line) (w : WalkView) (past : List Line) → IsWalked w past → placed past l ≡ Ok l → IsWalked (after (length past + 1) l w) (l ∷ past)
walked_more Line.Skipped w past is at = walked_skipped w past is
walked_more Line.End w past is at = walked_end w past is at
walked_more (Line.TestCase n) w past is at = walked_case n w past is at
walked_more (Line.Behaviour n ps) w past is at = walked_behaviour n ps w past is at
walked_more (Line.Step call) w past is at = walked_call call w past is at (made_step w.names.bound call) refl
