-- What the functions inside of the program say, which no public clause names.
use Rattle.std.specs.{Prelude.{ℕ, ◌≡◌, ◌≢◌, ◌&&◌, All, Bool, MatchBool, false, true, filter, if◌then◌else◌, Option, Result, Ok, Err, MatchResult, List, [], ◌∷◌, ◌++◌, length, map, reverse}, Io.KnownBytes.{Appends, Keeps}, List.flat_map, Option.option_map_or}
use Rattle.tc_explain.specs.Prelude.{explanation}
use Rattle.tc_rules.specs.Prelude.{IsName, Entry, StandsFor, answer, IsOneHistory, name_of}
use Rattle.tc_stream.specs.Prelude.{AppendsPrefix}
use Rattle.tc_text.specs.Prelude.{Move, Line, TellsAmong, reply_text}
use Rattle.tc_step.specs.Prelude.{ScriptView}
use Rattle.tc_course.specs.declared.found.Explored.{Explored}
use Rattle.tc_explored.specs.Prelude.{details as of_details}
use Rattle.tc_blocks.specs.{Prelude.{AreEntries, AreLines, IsHeader, IsReadIn}, declared.{block.Block.Block, header.Kind.Kind, limit.Limit.Limit}}
use Rattle.tc_report.specs.{Inside.{case_lines, finished_header}, declared.results.{Finished.Finished, Results.Results}}
use Rattle.tc_exec.specs.declared.test_case.Case.{Case}
use Rattle.tc_answer.specs.{Prelude.{CaseView, number_of, run_fault_line}, Inside.{AreReadyAs, IsCaseOf}, declared.{fault.RunFault.RunFault, reply.Answer.Answer}}
use Rattle.tc_judge.specs.Prelude.{AreToRun, IsMadeOfInput, are_named, counting, is_chosen, legal_line}
use Rattle.tc_command.specs.declared.{task.{Choice.Choice, ExploreOptions.ExploreOptions, RunOptions.RunOptions, Task.Task}}
use Rattle.tc_run.specs.Prelude.{LeavesUnwritten}
use Rattle.tc_program.specs.{Explained.{explains, is_of_text, part_of}, Explore.{IsExplored, TellsLocals}, Limits.{has_blocks, limit_of}, Made.IsMade, Model.AnswersBlocks, declared.{explore.ExploredCase.ExploredCase, replaying.Replaying.Replaying}}

-- the text is kept whole
abbrev pub is_whole : Limit → Bool
is_whole (Limit.Whole most) = true
is_whole (Limit.Blocks most) = false

-- the caller, and the call
abbrev pub move_of : Entry → Move
move_of e = (e.caller, e.op)

-- the line of a reply
abbrev pub reply_line : Entry → List ℕ
reply_line e = reply_text e.reply ++ (10 ∷ [])

-- the list of test cases: a line with the name of each
abbrev pub list_text : {C : Type 0} → (C → List ℕ) → List C → List ℕ
list_text name_of cases = flat_map (λ c. name_of c ++ (10 ∷ [])) cases

-- a test case is legal: its name, how many entries it has, its verdict
abbrev pub legal_case : Finished → List ℕ
legal_case f = legal_line f.name (length f.report.history) f.report.verdict

-- what is explained of the text at least, if something is
abbrev pub notes_of : Option ℕ → List ℕ → List Line
notes_of number text = option_map_or (explanation text) number []

-- this is printed for the text of a task that has this fault
abbrev pub IsToldOf : Task → List ℕ → RunFault → List ℕ → Type 0
IsToldOf task text fault told =
    MatchBool (explains task && is_of_text fault) (TellsAmong (notes_of (number_of fault) (part_of (has_blocks task) fault text)) (run_fault_line fault) told)
    (told ≡ run_fault_line fault)

-- the names of the test case and of its behaviours are names, and the numbers in its history are those of their types, so
-- they are entries of format 2
abbrev pub FitsItsTypes : Finished → Type 0
FitsItsTypes f = IsName f.name × All IsName f.names × AreEntries 2 f.report.history

-- a test case that was run to its end, whose block may be of this kind
pub record WasRun (kind : Kind) (f : Finished) : Type 0 where
  pub header : IsHeader (finished_header kind f)
  pub inside : AreLines kind f.report.behaviours [] (case_lines kind f)
  -- its report is one history of one thread
  pub report : IsOneHistory f.report

-- some test cases were run, each to its end, and their blocks may be of this kind
pub record WereRun (kind : Kind) (r : Results) : Type 0 where
  pub some : r.finished ≢ []
  pub each : All (WasRun kind) r.finished

-- these moves of a case of n behaviours are played: the state represents their entries, and the lines of the replies
-- are written
pub record ArePlayed (n : ℕ) (moves : List Move) (r : Replaying) : Type 0 where
  pub history : List Entry
  pub moves_are : map move_of history ≡ moves
  pub behaviours : r.state.behaviours ≡ n
  pub stands : StandsFor r.state (reverse history)
  pub lines : r.out.items ≡ flat_map reply_line history

-- a test case with these jobs was explored so, whatever test case of a script it is
abbrev pub IsExploredOf : ExploreOptions → Case ScriptView → ExploredCase → Type 0
IsExploredOf o k e = (c : CaseView) → IsCaseOf c k → IsExplored o c e

-- the lines of local verdicts of these scripts, if they are asked for
abbrev pub TellsLocalsIf : Bool → ℕ → List ScriptView → List ℕ → List ℕ → Type 0
TellsLocalsIf asked states scripts before after = MatchBool asked (TellsLocals states scripts before after) (after ≡ before)

-- what is printed after the line of a test case with these names of behaviours: its local verdicts, and its details, if they are asked for
abbrev pub TellsAfter : ExploreOptions → List (List ℕ) → List ScriptView → Explored → List ℕ → Type 0
TellsAfter o names scripts e text =
    (middle : List ℕ) × TellsLocalsIf o.locals o.states scripts [] middle × (text ≡ middle ++ (if o.details then of_details names scripts e else []))

-- the line of a test case in a list
abbrev pub case_line : {B : Type 0} → Case B → List ℕ
case_line k = k.name ++ (10 ∷ [])

-- this is made of these blocks for their models
abbrev pub IsMadeOf : Choice → List Block → Result Answer RunFault → Type 0
IsMadeOf choice all (Ok a) = AnswersBlocks (filter (is_chosen choice) (counting choice.last all)) a × (are_named choice.last choice.only.items all ≡ true)
IsMadeOf choice all (Err RunFault.Only) = are_named choice.last choice.only.items all ≡ false
IsMadeOf choice all (Err RunFault.NoMemory) = Unit {0}
IsMadeOf choice all (Err fault) = ⊥

-- what is made of the text was written, whole or a prefix; or the text is refused, and nothing was
abbrev pub WritesTo : Task → List ℕ → Option (List ℕ) → Option (List ℕ) → Result ℕ RunFault → Type 0
WritesTo task text before after (Ok status) = (a : Answer) × IsMade task text (Ok a) × Appends before after a.out × (status ≡ a.status)
WritesTo task text before after (Err RunFault.Write) = (a : Answer) × IsMade task text (Ok a) × AppendsPrefix before after a.out
WritesTo task text before after (Err fault) = IsMade task text (Err fault) × Keeps before after

-- the task is a run, and the text of the input spells these test cases, which it asks for
abbrev pub IsAsked : Task → Option (List ℕ) → RunOptions → List (Case ScriptView) → Type 0
IsAsked task input o ready = (task ≡ Task.Run o) × IsReadIn (limit_of task) input (λ text. AreReadyAs (AreToRun o.choice text) ready)

-- a task that is done with test cases of a program's own
abbrev pub IsOfCases : Task → Type 0
IsOfCases (Task.Run o) = Unit {0}
IsOfCases (Task.List choice explains) = Unit {0}
IsOfCases task = ⊥

-- by this answer some text was written whole; without memory nothing was, if the writer failed a prefix
abbrev pub ShowsText : Option (List ℕ) → Option (List ℕ) → Result (Unit {0}) RunFault → Type 0
ShowsText before after answer = (text : List ℕ) × MatchResult answer (λ _. Appends before after text) (LeavesUnwritten before after text)

-- this was made of the input for a task, none of whose faults is explained
abbrev pub IsMadeInParts : Task → Option (List ℕ) → Result Answer RunFault → Type 0
IsMadeInParts task input made = IsMadeOfInput (limit_of task) input (IsMade task) made × (explains task ≡ false) × (task ≢ Task.Serve)
