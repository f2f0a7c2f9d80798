-- What `explore` writes: the overall verdicts that were found of each test case of a script, or the histories that witness them.
use Rattle.std.specs.{Prelude.{MatchBool, ℕ, ◌≡◌, ◌≤◌, if◌then◌else◌, List, [], ◌++◌, fold, length, map, max, take}, List.{AllZip, flat_map}}
use Rattle.tc_command.specs.declared.task.ExploreOptions.{ExploreOptions}
use Rattle.tc_reader.specs.Prelude.{CampaignView}
use Rattle.tc_blocks.specs.declared.header.Kind.{Kind}
use Rattle.tc_explore.specs.Prelude.{IsAtLimit, most_states, AreFromBest, AreAllMet, AreReached, HasCourses, AllLocalsFound, AreLocals}
use Rattle.tc_explored.specs.Prelude.{details as of_details, locals_text, explored_line, explored_status, witnesses_text}
use Rattle.tc_course.specs.{Prelude.{AllFound, AreLegal, AreWitnesses}, declared.found.{Ending.Ending, Explored.Explored, Limit.Limit, Locals.Locals}}
use Rattle.tc_step.specs.Prelude.{ScriptView}
use Rattle.tc_judge.specs.Prelude.{AreToRun}
use Rattle.tc_answer.specs.Prelude.{CaseView, scripts_of}
use Rattle.tc_program.specs.declared.explore.ExploredCase.{ExploredCase}

-- Each local verdict that was found of the components of these scripts has a complete course. If the search says that it is
-- complete, that of each complete course was found, and otherwise it looked at as many states as it may. For each state that it
-- looked at there is a course of its own. The lines say so.
pub record TellsLocals (states : ℕ) (scripts : List ScriptView) (before after : List ℕ) : Type 0 where
  pub locals : Locals
  pub sound : AreLocals scripts locals.found
  pub complete : locals.ending ≡ Ending.Complete → AllLocalsFound scripts locals.found
  pub met : HasCourses scripts locals.states
  pub most : locals.states ≤ most_states scripts states
  pub undecided : (l : Limit) → locals.ending ≡ Ending.Undecided l → 1 ≤ length scripts → IsAtLimit scripts states locals.states l
  pub told : after ≡ before ++ locals_text locals

-- A test case was explored, and each verdict that was found has one witness: a complete course of its scripts, which is legal.
-- If the search says that it is complete, the verdict of each complete course of its scripts was found. If it says that it is
-- undecided, it looked at as many states as it may, and found one verdict at least. Some course of each run carries out as many
-- steps as it reaches. For each state that it looked at there is a course of its own, in which no run carries out more.
pub record IsExplored (o : ExploreOptions) (c : CaseView) (e : ExploredCase) : Type 0 where
  pub name : e.name ≡ c.0
  pub names : e.names ≡ map (λ b. b.0) c.1
  pub behaviours : e.behaviours ≡ length c.1
  pub sound : AreWitnesses (scripts_of c.1) e.explored.found
  pub legal : AreLegal (scripts_of c.1) e.explored.found
  pub ordered : AreFromBest e.explored.found
  pub complete : e.explored.ending ≡ Ending.Complete → AllFound (scripts_of c.1) e.explored.found
  pub reached : AreReached (scripts_of c.1) e.explored.reached
  pub met : AreAllMet (scripts_of c.1) e.explored.reached e.explored.states
  pub most : e.explored.states ≤ most_states (scripts_of c.1) o.states
  pub undecided : (l : Limit) → e.explored.ending ≡ Ending.Undecided l → 1 ≤ length (scripts_of c.1) → IsAtLimit (scripts_of c.1) o.states e.explored.states l
  pub told : (l : Limit) → e.explored.ending ≡ Ending.Undecided l → 1 ≤ length (scripts_of c.1) → 1 ≤ length e.explored.found
  -- what is printed after its line: its local verdicts, and its details, if they are asked for
  pub details_are : (middle : List ℕ) × MatchBool o.locals (TellsLocals o.states (scripts_of c.1) [] middle) (middle ≡ [])
      × (e.details ≡ middle ++ (if o.details then of_details e.names (scripts_of c.1) e.explored else []))

-- the witnesses of a test case as blocks of this kind, with these names of behaviours
abbrev pub witness_blocks : Kind → List (List ℕ) → ExploredCase → List ℕ
witness_blocks kind names e = witnesses_text (record { kind = kind; name = e.name; behaviours = e.behaviours }) names e.explored

-- what is written of a test case: its line and its details, or its witnesses as histories, or as evidence with the names of its
-- behaviours
abbrev pub explored_text : ExploreOptions → ExploredCase → List ℕ
explored_text o e =
    if o.histories then witness_blocks Kind.History2 [] e
    else if o.evidence then witness_blocks Kind.Evidence (take e.behaviours e.names) e
    else explored_line e.name e.explored ++ e.details

-- The test cases that are asked for were explored so, and this is what is written of them. The status is the greatest of theirs: 3 if a
-- search did not come to its end, otherwise 2 if some has no verdict but error, otherwise 1 if some has several.
pub record Explores (o : ExploreOptions) (text out : List ℕ) (status : ℕ) : Type 0 where
  pub cases : CampaignView
  pub explored : List ExploredCase
  pub asked : AreToRun o.choice text cases
  pub each : AllZip (IsExplored o) cases explored
  pub out_is : out ≡ flat_map (explored_text o) explored
  pub status_is : status ≡ fold (λ most e. max most (explored_status e.explored)) 0 explored
