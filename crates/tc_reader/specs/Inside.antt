-- What the walk over the lines of a script has found so far, and what one more line makes of it; and what else the
-- functions inside say.
use Rattle.std.specs.{Prelude.{◌+◌, ◌-◌, ◌≡◌, ◌||◌, nat_le, nat_lt, Bool, if◌then◌else◌, Result, Ok, Err, List, [], ◌∷◌, ◌++◌, length, ℕ, ◌==◌, ◌&&◌, not, is_some, Option, Some, None, map, ◌≤◌, ◌<◌, false, All, codes, take, slice_index}, List.list_any, Option.{option_map, option_map_or, option_or}, Result.result_map_both}
use Rattle.tc_entry.specs.declared.limits.TheConstants.{ARGUMENTS, BEHAVIOURS}
use Rattle.tc_step.specs.{declared.{limits.TheConstants.STEPS, place.{Place.Place, TargetPlace.TargetPlace}, step.{Status.Status, Step.Step}}, Prelude.{of_group, of_target, target_map, IsScript, ScriptView}}
use Rattle.tc_reader.specs.{Campaign.{CampaignView, IsCase, place, step_of, steps}, FirstPass.{argument_count, at_next, open_after, opened, placed, steps_in}, Line.{line_of, ◌>>=◌}, Names.{Word, add, all_of, among, has_twice, index_of}, Scope.{Head, behaviours_before, cases_before, heads_with, parameters_of, with_bound}, SecondPass.is_unbound, declared.{counts.{Counts.Counts, Open.Open, TheConstants.TEST_CASES}, fault.{ReadFault.ReadFault, ScriptFault.ScriptFault}, kind.ScriptKind.ScriptKind, line.{Call.Call, Keyword.Keyword, Line.Line}, made.Start.Start}}

-- the behaviours of a test case: their names, and the numbers of their parameters
abbrev pub signatures : List (Word × ScriptView) → List Head
signatures scripts = map (λ s. (s.0, s.1.parameters)) scripts

-- the next line, or its first fault, BadByte to TooMany, with the number of the line
abbrev pub judged : List Line → List ℕ → Result Line ScriptFault
judged past bytes = result_map_both (λ l. l) (at_next past) (line_of bytes >>= placed past)

-- what is remembered of these lines
abbrev pub counts_of : List Line → Counts
counts_of past = record { state = opened past; cases = length (cases_before past); behaviours = length (behaviours_before past); steps = steps_in past }

-- what is remembered after a line, if this is open then: the line may pass a limit
abbrev pub counted_with : Line → Open → Counts → Result Counts ScriptKind
counted_with (Line.TestCase n) o s =
    if nat_le TEST_CASES s.cases then Err ScriptKind.TooMany
    else Ok (record { state = o; cases = s.cases + 1; behaviours = 0; steps = s.steps })
counted_with (Line.Behaviour n ps) o s =
    if nat_le BEHAVIOURS s.behaviours || nat_lt ARGUMENTS (length ps) then Err ScriptKind.TooMany
    else Ok (record { state = o; cases = s.cases; behaviours = s.behaviours + 1; steps = 0 })
counted_with (Line.Step call) o s =
    if nat_le STEPS s.steps || nat_lt ARGUMENTS (argument_count call) then Err ScriptKind.TooMany
    else Ok (record { state = o; cases = s.cases; behaviours = s.behaviours; steps = s.steps + 1 })
counted_with _ o s = Ok (record s { state = o })

-- one line more
abbrev pub counted : Counts → Line → Result Counts ScriptKind
counted s l = option_map_or (λ o. counted_with l o s) (open_after l s.state) (Err ScriptKind.BadPlace)

-- these counts, if there is no fault
abbrev pub with_counts : {A E : Type 0} → Counts → Result A E → Result Counts E
with_counts counts (Ok x) = Ok counts
with_counts counts (Err e) = Err e

-- the text may end here
abbrev pub may_end : Counts → Bool
may_end s = is_some (open_after (Line.TestCase []) s.state) && nat_lt 0 s.cases

-- the behaviours of the test case whose lines these begin with
abbrev pub heads : List Line → List Head
heads rest = heads_with [] rest

-- their names
abbrev pub names_of : List Head → List Word
names_of hs = map (λ h. h.0) hs

-- with a behaviour after the others, if none of them has its name
abbrev pub add_head : Word → ℕ → List Head → List Head
add_head n k hs = if is_some (parameters_of n hs) then hs else hs ++ (n, k) ∷ []

-- what is wrong with the names of a behaviour after these
abbrev pub head_fault : List Head → Word → List Word → Option ScriptKind
head_fault hs n ps =
    if is_some (parameters_of n hs) || has_twice ps then Some ScriptKind.Twice
    else if length hs == 0 && not (length ps == 0) then Some ScriptKind.MainParameters
    else None

-- ---- names

-- the names so far: the test cases, what is bound, and the behaviours of the test case
pub record NamesView : Type 0 where
  pub cases : List Word
  pub bound : List Word
  pub heads : List Head

-- what is wrong with the name of a test case after these
abbrev pub case_fault : List Word → Word → Option ScriptKind
case_fault cs n = if among n cs then Some ScriptKind.Twice else None

-- the names after a line
abbrev pub names_after : NamesView → Line → NamesView
names_after s (Line.TestCase n) = record { cases = add n s.cases; bound = s.bound; heads = [] }
names_after s (Line.Behaviour n ps) = record { cases = s.cases; bound = all_of [] ps; heads = add_head n (length ps) s.heads }
names_after s (Line.Step call) = record { cases = s.cases; bound = with_bound call s.bound; heads = s.heads }
names_after s _ = s

-- ---- steps

-- the place of a name among these
abbrev pub place_in : List Word → Word → Option ℕ
place_in ns n = if among n ns then Some (index_of n ns) else None

-- this, if the places are bound
abbrev pub if_bound : {A : Type 0} → List Word → List (Place Word) → A → Option A
if_bound ns places x = if list_any (is_unbound ns) places then None else Some x

-- the places that a call names
abbrev pub named : Call → List (Place Word)
named (Call.Start on b args) = on ∷ args
named (Call.Stop g) = of_group g
named (Call.Kill g) = of_group g
named (Call.Ask status t) = of_target t
named (Call.Wait killed t) = of_target t
named _ = []

-- the step of a call, if its places are bound; the run of a start is still to be set
abbrev pub step_if_bound : List Word → Call → Option Step
step_if_bound ns call = if_bound ns (named call) (step_of [] ns call)

-- the call creates a component by a name that is bound
abbrev pub binds_again : List Word → Call → Bool
binds_again ns (Call.Create n alive given_name) = among n ns
binds_again ns _ = false

-- the step of a call, or the fault of its names
abbrev pub made_step : List Word → Call → Result Step ScriptKind
made_step ns call = if binds_again ns call then Err ScriptKind.Twice else option_map_or (λ s. Ok s) (step_if_bound ns call) (Err ScriptKind.NoReference)

-- ---- starts

-- what is wrong with a start of this behaviour with that many arguments
abbrev pub start_kind : List Head → Word → ℕ → Option ScriptKind
start_kind hs b given = option_map_or (λ expected. if given == expected then None else Some ScriptKind.Arguments) (parameters_of b hs) (Some ScriptKind.UnknownBehaviour)

-- a fault in this line
abbrev pub fault_in : ℕ → ScriptKind → ScriptFault
fault_in number kind = record { line = number; kind = kind }

-- the first of these starts that is of none of these behaviours
abbrev pub first_wrong : List Head → List Start → Option ScriptFault
first_wrong hs [] = None
first_wrong hs (s ∷ starts) = option_or (option_map (fault_in s.line) (start_kind hs s.behaviour s.given)) (first_wrong hs starts)

-- with the start that a call in this line is
abbrev pub with_start : List Start → ℕ → Call → List Start
with_start starts number (Call.Start on b args) = starts ++ record { line = number; behaviour = b; given = length args } ∷ []
with_start starts number _ = starts

-- the behaviours that they start
abbrev pub started_of : List Start → List Word
started_of starts = map (λ s. s.behaviour) starts

-- the steps with the runs of their starts, which are of these behaviours in this order
abbrev pub filled : List Head → List Step → List Word → List Step
filled hs [] ns = []
filled hs (Step.Start on run args ∷ steps) (n ∷ ns) = Step.Start on (record { 0 = index_of n (names_of hs) }) args ∷ filled hs steps ns
filled hs (s ∷ steps) ns = s ∷ filled hs steps ns

-- the names that are left then
abbrev pub left_of : List Step → List Word → List Word
left_of [] ns = ns
left_of (Step.Start on run args ∷ steps) (n ∷ ns) = left_of steps ns
left_of (s ∷ steps) ns = left_of steps ns

-- the behaviours with the runs of their starts
abbrev pub all_filled : List Head → List (Word × ScriptView) → List Word → List (Word × ScriptView)
all_filled hs [] ns = []
all_filled hs (b ∷ bs) ns = (b.0, record { parameters = b.1.parameters; steps = filled hs b.1.steps ns }) ∷ all_filled hs bs (left_of b.1.steps ns)

-- ---- what is made

-- what is made of the lines so far: the test cases before, the name of the one that is open, its behaviours before, and the one that is open
pub record MadeView : Type 0 where
  pub done : CampaignView
  pub case : Option Word
  pub drafts : List (Word × ScriptView)
  pub current : Option (Word × ScriptView)

-- with this one after the others, if there is one
abbrev pub with_last : {A : Type 0} → List A → Option A → List A
with_last xs None = xs
with_last xs (Some x) = xs ++ x ∷ []

-- with a step more
abbrev pub with_step : Step → Word × ScriptView → Word × ScriptView
with_step s b = (b.0, record { parameters = b.1.parameters; steps = b.1.steps ++ s ∷ [] })

-- the behaviour that is open has ended
abbrev pub behaviour_ended : MadeView → MadeView
behaviour_ended m = record { done = m.done; case = m.case; drafts = with_last m.drafts m.current; current = None }

-- the behaviours of the test case that is open, with the runs of their starts
abbrev pub finished : List Head → List Word → MadeView → List (Word × ScriptView)
finished hs ns m = all_filled hs (with_last m.drafts m.current) ns

-- the test cases with the one that is open
abbrev pub all_done : List Head → List Word → MadeView → CampaignView
all_done hs ns m = with_last m.done (option_map (λ n. (n, finished hs ns m)) m.case)

-- the test case that is open has ended
abbrev pub case_ended : List Head → List Word → MadeView → MadeView
case_ended hs ns m = record { done = all_done hs ns m; case = None; drafts = []; current = None }

-- the test case that is open is left out
abbrev pub case_left : MadeView → MadeView
case_left m = record { done = m.done; case = None; drafts = []; current = None }

-- ---- the walk

-- What the walk has found: the names, the first fault of names except those of the starts, and what is made. The starts are still
-- to be looked up while there is none.
pub record WalkView : Type 0 where
  pub names : NamesView
  pub fault : Option ScriptFault
  pub starts : List Start
  pub made : MadeView

-- before the first line
abbrev pub begins : WalkView
begins = record {
  names = record { cases = []; bound = []; heads = [] };
  fault = None;
  starts = [];
  made = record { done = []; case = None; drafts = []; current = None };
}

-- the starts of the test case that is open are looked up
abbrev pub fault_at_end : WalkView → Option ScriptFault
fault_at_end w = option_or (first_wrong w.names.heads w.starts) w.fault

-- the test case that is open has ended
abbrev pub ended : WalkView → WalkView
ended w = record {
  names = w.names;
  fault = fault_at_end w;
  starts = [];
  made = if is_some (fault_at_end w) then case_left w.made else case_ended w.names.heads (started_of w.starts) w.made;
}

-- with a fault of this line, if there is one, and none before
abbrev pub or_fault : Option ScriptFault → ℕ → Option ScriptKind → Option ScriptFault
or_fault fault number kind = option_or fault (option_map (fault_in number) kind)

-- after a call that binds and starts nothing and made this step
abbrev pub with_made_step : Step → WalkView → WalkView
with_made_step s w = record {
  names = w.names;
  fault = w.fault;
  starts = w.starts;
  made = record { done = w.made.done; case = w.made.case; drafts = w.made.drafts; current = option_map (with_step s) w.made.current };
}

-- after the call in this line, which made a step or has a fault
abbrev pub called : ℕ → Call → Result Step ScriptKind → WalkView → WalkView
called number call (Err kind) w = record {
  names = names_after w.names (Line.Step call);
  fault = or_fault w.fault number (Some kind);
  starts = w.starts;
  made = w.made;
}
called number call (Ok s) w = record {
  names = names_after w.names (Line.Step call);
  fault = w.fault;
  starts = if is_some w.fault then w.starts else with_start w.starts number call;
  made = record { done = w.made.done; case = w.made.case; drafts = w.made.drafts; current = option_map (with_step s) w.made.current };
}

-- after the line that begins a test case, where none is open
abbrev pub begun : ℕ → Word → WalkView → WalkView
begun number n w = record {
  names = names_after w.names (Line.TestCase n);
  fault = or_fault w.fault number (case_fault w.names.cases n);
  starts = w.starts;
  made = record { done = w.made.done; case = Some n; drafts = w.made.drafts; current = w.made.current };
}

-- after a line
abbrev pub after : ℕ → Line → WalkView → WalkView
after number Line.Skipped w = w
after number Line.End w = record { names = w.names; fault = w.fault; starts = w.starts; made = behaviour_ended w.made }
after number (Line.TestCase n) w = begun number n (ended w)
after number (Line.Behaviour n ps) w = record {
  names = names_after w.names (Line.Behaviour n ps);
  fault = or_fault w.fault number (head_fault w.names.heads n ps);
  starts = w.starts;
  made = record {
    done = w.made.done;
    case = w.made.case;
    drafts = with_last w.made.drafts w.made.current;
    current = Some (n, record { parameters = length ps; steps = [] });
  };
}
after number (Line.Step call) w = called number call (made_step w.names.bound call) w

-- ---- what it takes

-- what is made of a behaviour is a script
abbrev pub MakesScript : Word × ScriptView → Type 0
MakesScript b = IsScript b.1.parameters b.1.steps

-- if a test case is open, its behaviours make scripts
abbrev pub MakeScripts : Option Word → List (Word × ScriptView) → Type 0
MakeScripts None bs = Unit {0}
MakeScripts (Some n) bs = All MakesScript bs

-- the test case that is open may end: its behaviours are few, and make scripts if there is no fault
pub record MayEnd (w : WalkView) : Type 0 where
  pub few : length w.names.heads ≤ BEHAVIOURS
  pub scripts : fault_at_end w ≡ None → MakeScripts w.made.case (finished w.names.heads (started_of w.starts) w.made)

-- a call is within the limits, if these names are bound
abbrev pub IsWithin : List Word → Line → Type 0
IsWithin ns (Line.Step call) = (length ns < ARGUMENTS + STEPS) × (argument_count call ≤ ARGUMENTS)
IsWithin ns _ = Unit {0}

-- a line may be taken
pub record MayTake (counts : Counts) (w : WalkView) : Type 0 where
  pub may_end : MayEnd w
  pub few : length w.names.bound ≤ ARGUMENTS + counts.steps

-- what became of a line with this number, against what the line says
abbrev pub Takes : ℕ → Counts → WalkView → WalkView → Result Counts ReadFault → Result Line ScriptKind → Type 0
Takes number counts w next (Ok more) said = (l : Line) × (said ≡ Ok l) × (counted counts l ≡ Ok more) × (next ≡ after number l w)
Takes number counts w next (Err ReadFault.NoMemory) said = Unit {0}
Takes number counts w next (Err (ReadFault.Script fault)) said = (fault.line ≡ number) × ((said >>= counted counts) ≡ Err fault.kind)

-- what is known of each campaign
pub record IsCampaign (cs : CampaignView) : Type 0 where
  pub names : has_twice (map (λ t. t.0) cs) ≡ false
  pub cases : All (λ t. IsCase t.1) cs

-- each behaviour makes a script
abbrev pub AreScripts : List Head → List Line → Type 0
AreScripts hs [] = Unit {0}
AreScripts hs (Line.Behaviour n ps ∷ rest) = IsScript (length ps) (steps hs (all_of [] ps) rest) × AreScripts hs rest
AreScripts hs (_ ∷ rest) = AreScripts hs rest

-- each test case has few behaviours, and each of them makes a script
abbrev pub AreCases : List Line → Type 0
AreCases [] = Unit {0}
AreCases (Line.TestCase n ∷ rest) = (length (heads rest) ≤ BEHAVIOURS) × AreScripts (heads rest) rest × AreCases rest
AreCases (_ ∷ rest) = AreCases rest

-- a text without the LF at its end, if it has one
abbrev pub without_end : List ℕ → List ℕ
without_end text = if slice_index text (length text - 1) == 10 then take (length text - 1) text else text

-- a line feed
abbrev pub is_newline : ℕ → Bool
is_newline b = b == 10

-- a space
abbrev pub is_space : ℕ → Bool
is_space b = b == 32

-- a text that is not empty
abbrev pub is_some_text : List ℕ → Bool
is_some_text w = not (length w == 0)

-- the spelling of a keyword
abbrev pub keyword_text : Keyword → List ℕ
keyword_text Keyword.TestCase = codes "testcase"
keyword_text Keyword.Behaviour = codes "behaviour"
keyword_text Keyword.End = codes "end"
keyword_text Keyword.Create = codes "create"
keyword_text Keyword.Start = codes "start"
keyword_text Keyword.Stop = codes "stop"
keyword_text Keyword.Kill = codes "kill"
keyword_text Keyword.StopCase = codes "stopcase"
keyword_text (Keyword.Ask Status.Running) = codes "running"
keyword_text (Keyword.Ask Status.Alive) = codes "alive"
keyword_text (Keyword.Ask Status.Done) = codes "done"
keyword_text (Keyword.Ask Status.Killed) = codes "killed"
keyword_text Keyword.Wait = codes "wait"
keyword_text Keyword.SetVerdict = codes "setverdict"
keyword_text Keyword.GetVerdict = codes "getverdict"

-- the line is a call that binds and starts nothing, and this is its step where these names are bound
pub record IsStepOf (ns : List Word) (bytes : List ℕ) (s : Step) : Type 0 where
  pub call : Call
  pub is : line_of bytes ≡ Ok (Line.Step call)
  pub is_made : made_step ns call ≡ Ok s
  pub gives_none : argument_count call ≡ 0
  pub binds_none : (names : List Word) → with_bound call names ≡ names
  pub starts_none : (starts : List Start) (number : ℕ) → with_start starts number call ≡ starts

-- the word names these components where these names are bound
pub record IsTargetOf (ns : List Word) (word : List ℕ) (t : TargetPlace (Place ℕ)) : Type 0 where
  pub target : TargetPlace (Place Word)
  pub is : (s : Status) → line_of (keyword_text (Keyword.Ask s) ++ 32 ∷ word) ≡ Ok (Line.Step (Call.Ask s target))
  pub is_wait : line_of (codes "wait done " ++ word) ≡ Ok (Line.Step (Call.Wait false target))
  pub is_bound : if_bound ns (of_target target) (target_map (place ns) target) ≡ Some t
