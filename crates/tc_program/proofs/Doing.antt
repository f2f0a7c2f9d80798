-- What comes of a text, and of an input.
use Rattle.std.{proofs.Common.{ℕ, All, Bool, false, true, ◌&&◌, not, ◌≡◌, ◌∙◌, List, length, Option, Some, None, IfOk, IfSome, Result, Ok, Err, arith, inl, inr, refl, subst, sym}, specs.{Prelude.{◌≢◌, ◌⊎◌, IsErrAnd, MatchBool, MatchResult}, Global.Vec, Io.KnownBytes.Keeps}}
use Rattle.tc_text.{specs.Prelude.{Line, TellsAmong}, proofs.Lemmas.Among.among_some}
use Rattle.tc_answer.specs.{declared.{fault.RunFault.RunFault, outcome.Outcome.Outcome, reply.Answer.Answer}, Prelude.{GivesAnswer, number_of, run_fault_line, IsUnread, IsPrintedRefusal, RefusesChoice, Streams}, Inside.AreReadyAs}
use Rattle.tc_exec.specs.declared.test_case.Case.{Case}
use Rattle.tc_step.specs.Prelude.{ScriptView}
use Rattle.tc_command.specs.declared.task.{Choice.Choice, RunOptions.RunOptions, Task.Task}
use Rattle.tc_judge.specs.{Prelude.{AreToRun, IsChecked, IsMadeOfInput, IsSilent, RefusesAgainst, RefusesBlocks, IsLegalBlock, IsUnreadIn, are_named, counting, history_limit, is_of_judged}, Inside.{block_name, is_picked}}
use Rattle.tc_program.specs.{Explained.{explains, is_of_text, part_of}, Inside.{IsAsked, IsMadeInParts, IsToldOf, WritesTo, is_whole, notes_of}, Limits.{has_blocks, limit_of}, Made.{Does, IsMade}, Program.{IsCarriedOut, IsDone, IsDoneBy}}
use Rattle.tc_blocks.specs.{Prelude.{AreEvidence, IsInLimit, IsReadIn}, declared.{block.Block.Block, limit.Limit.Limit}}

-- what comes of an input that is read is what comes of its text
pub read_does : (task : Task) (input before after : Option (List ℕ)) (text : List ℕ) (r : Result ℕ RunFault) → IsInLimit (limit_of task) text → IfSome input (λ given. text ≡ given)
    → WritesTo task text before after r → Does task input before after r
read_does task input before after text (Ok status) fits all does = (does.0, inl (text, fits, all, does.1), does.2, does.3)
read_does task input before after text (Err RunFault.Write) fits all does = (does.0, inl (text, fits, all, does.1), does.2)
read_does task input before after text (Err fault) fits all does = (inl (text, fits, all, does.0), does.1)

-- the same of a text that is lent
pub lent_does : (task : Task) (input before after : Option (List ℕ)) (text lent : List ℕ) (r : Result ℕ RunFault) → lent ≡ text → IsInLimit (limit_of task) text
    → IfSome input (λ given. text ≡ given) → WritesTo task lent before after r → Does task input before after r
lent_does task input before after text lent r same fits all does = read_does task input before after text r fits all (subst (λ t. WritesTo task t before after r) same does)

-- a task that explains a fault keeps its text
kept_if : (asked long : Bool) → (asked && not long) ≡ true → is_whole (history_limit long) ≡ true
kept_if true false is = refl
kept_if _ _ is = absurd cc

pub kept_whole : (task : Task) → explains task ≡ true → is_whole (limit_of task) ≡ true
kept_whole (Task.Check choice asked) is = kept_if asked choice.long is
kept_whole (Task.Report form choice asked) is = kept_if asked (choice.long && is_of_judged form) is
kept_whole (Task.Model choice asked) is = kept_if asked choice.long is
kept_whole _ is = refl

pub and_true : (a b : Bool) → b ≡ true → (a && b) ≡ a
and_true true b is = is
and_true false b is = refl

-- why there is none
pub unread_whole : (most : ℕ) (input : Option (List ℕ)) (fault : RunFault) → IsUnread most input fault → IsUnreadIn (Limit.Whole most) input fault
unread_whole most None RunFault.TooLong is = tt
unread_whole most (Some given) RunFault.TooLong is = λ within. omega (arith, is, within)
unread_whole most input fault is = is

-- what the program does with a task by its whole input: it was read, and the text is done; or it was not, nothing was
-- written, and why is printed
abbrev pub IsDoneWhole : Task → Option (List ℕ) → Streams → Outcome → Type 0
IsDoneWhole task input s outcome =
    IsReadIn (limit_of task) input (λ text. IsDone task text s outcome)
    ⊎ ((fault : RunFault) × IsUnreadIn (limit_of task) input fault × Keeps s.before s.after × IsPrintedRefusal s.untold s.told (run_fault_line fault) outcome)

-- a task that is no service is carried out by its whole input
pub carried_out : (task : Task) (input : Option (List ℕ)) (s : Streams) (outcome : Outcome) → task ≢ Task.Serve → IsDoneWhole task input s outcome
    → IsCarriedOut task input s outcome
carried_out Task.Serve input s outcome other done = absurd (other refl)
carried_out task input s outcome other done = done

-- this was made of the input part by part: it was given
pub parts_given : (task : Task) (input : Option (List ℕ)) (made : Result Answer RunFault) (a : Answer) (s : Streams) (outcome : Outcome) → IsMadeInParts task input made
    → made ≡ Ok a → GivesAnswer a s outcome → IsCarriedOut task input s outcome
parts_given task input made a s outcome parts is gives = carried_out task input s outcome parts.2 (by parts.0)
  where
    by : IsMadeOfInput (limit_of task) input (IsMade task) made → IsDoneWhole task input s outcome
    by (inl read) = inl (read.0, read.1, read.2, IsDoneBy.made a (subst (IsMade task read.0) is read.3) gives)
    by (inr unread) = absurd (subst (λ r. IsErrAnd r (IsUnreadIn (limit_of task) input)) is unread)

-- or there is none, and no fault is explained
pub parts_refused : (task : Task) (input : Option (List ℕ)) (made : Result Answer RunFault) (fault : RunFault) (s : Streams) (outcome : Outcome) → IsMadeInParts task input made
    → made ≡ Err fault → Keeps s.before s.after → IsPrintedRefusal s.untold s.told (run_fault_line fault) outcome → IsCarriedOut task input s outcome
parts_refused task input made fault s outcome parts is keeps refusal = carried_out task input s outcome parts.2 (by parts.0)
  where
    told : (text : List ℕ) → IsToldOf task text fault (run_fault_line fault)
    told text = rw parts.1 refl

    by : IsMadeOfInput (limit_of task) input (IsMade task) made → IsDoneWhole task input s outcome
    by (inl read) =
        inl (read.0, read.1, read.2, IsDoneBy.refused fault (subst (IsMade task read.0) is read.3) keeps (run_fault_line fault, told read.0, refusal))
    by (inr unread) = inr (fault, subst (λ r. IsErrAnd r (IsUnreadIn (limit_of task) input)) is unread, keeps, refusal)

-- what is made of a text that is checked, by the choice
abbrev MadeBy : List ℕ → Result Answer RunFault → Bool → List (List ℕ) → Bool → Type 0
MadeBy text made l o f =
    MatchResult made
    (λ a. IsSilent (IsChecked l (λ b. is_picked o f (block_name b) b.verdict) text) a × ((all : List Block) → AreEvidence text all → All IsLegalBlock (counting l all) → are_named l o all ≡ true))
    (RefusesBlocks (All IsLegalBlock) l o text)

-- what is made of an input for one choice is made for another that chooses the same
pub made_for : (some choice : Choice) (explains : Bool) (input : Option (List ℕ)) (made : Result Answer RunFault) → some.only.items ≡ choice.only.items → some.failed ≡ choice.failed
    → some.last ≡ choice.last → some.long ≡ choice.long → IsMadeOfInput (history_limit some.long) input (IsMade (Task.Check some explains)) made
    → IsMadeOfInput (history_limit choice.long) input (IsMade (Task.Check choice explains)) made
made_for some choice explains input made only failed last long (inl read) =
    inl (
      read.0,
      subst (λ l. IsInLimit (history_limit l) read.0) long read.1,
      read.2,
      subst (λ l. MadeBy read.0 made l choice.only.items choice.failed) last
          (subst (λ f. MadeBy read.0 made some.last choice.only.items f) failed (subst (λ o. MadeBy read.0 made some.last o some.failed) only read.3)),
    )
made_for some choice explains input made only failed last long (inr unread) = inr (subst (λ l. IsErrAnd made (IsUnreadIn (history_limit l) input)) long unread)

-- what is made of an input that is checked was written
pub checked_does : (choice : Choice) (explains : Bool) (input before after : Option (List ℕ)) (a : Answer) (r : Result ℕ RunFault)
    → IsMadeOfInput (history_limit choice.long) input (IsMade (Task.Check choice explains)) (Ok a)
    → ((text : List ℕ) → IsMade (Task.Check choice explains) text (Ok a) → WritesTo (Task.Check choice explains) text before after r) → Does (Task.Check choice explains) input before after r
checked_does choice explains input before after a r (inl read) writes = read_does (Task.Check choice explains) input before after read.0 r read.1 read.2 (writes read.0 read.3)
checked_does choice explains input before after a r (inr unread) writes = absurd unread

-- nothing is made of an input that is checked: it was not read, or is refused
pub unchecked : (choice : Choice) (explains : Bool) (input before after : Option (List ℕ)) (fault : RunFault) → IsMadeOfInput (history_limit choice.long) input (IsMade (Task.Check choice explains)) (Err fault)
    → Keeps before after → Does (Task.Check choice explains) input before after (Err fault)
unchecked choice explains input before after RunFault.Write (inl read) keeps = absurd read.3
unchecked choice explains input before after RunFault.Write (inr unread) keeps = absurd unread
unchecked choice explains input before after fault made keeps = (made, keeps)

-- a task that asks to run test cases is carried out by what comes of them
pub asked_done : (task : Task) (input : Option (List ℕ)) (o : RunOptions) (ready : List (Case ScriptView)) (s : Streams) (outcome : Outcome) → IsAsked task input o ready
    → ((text : List ℕ) → AreReadyAs (AreToRun o.choice text) ready → IsDone task text s outcome) → IsCarriedOut task input s outcome
asked_done task input o ready s outcome asked does =
    let read = asked.1 in
    carried_out task input s outcome (λ serve. let no : Task.Run o ≡ Task.Serve = sym asked.0 ∙ serve in absurd cc) (inl (read.0, read.1, read.2, does read.0 read.3))

-- nothing more is printed where memory runs out
unexplained : (b : Bool) (P Q : Type 0) → Q → MatchBool (b && false) P Q
unexplained true P Q q = q
unexplained false P Q q = q

refuses_run : (failed : Bool) (choice : Choice) (text : List ℕ)
    → (let R : List ℕ → RunFault → Type 0 = elim failed [ true ↦ RefusesAgainst choice | false ↦ RefusesChoice choice ] in R text RunFault.NoMemory)
refuses_run true choice text = tt
refuses_run false choice text = tt

pub short_of_memory : (task : Task) (text : List ℕ) (o : RunOptions) (s : Streams) (outcome : Outcome) → task ≡ Task.Run o → Keeps s.before s.after
    → IsPrintedRefusal s.untold s.told (run_fault_line RunFault.NoMemory) outcome → IsDone task text s outcome
short_of_memory task text o s outcome is keeps refusal =
    IsDoneBy.refused RunFault.NoMemory (subst (λ t. IsMade t text (Err RunFault.NoMemory)) (sym is) (refuses_run o.choice.failed o.choice text)) keeps (run_fault_line RunFault.NoMemory, unexplained (explains task) _ _ refl, refusal)

-- ---- what is printed about a text that is refused

some_if : (b : Bool) (notes : List Line) (line : List ℕ) → (told : List ℕ) × MatchBool b (TellsAmong notes line told) (told ≡ line)
some_if true notes line = among_some notes line
some_if false notes line = (line, refl)

-- something can be printed
pub some_told : (task : Task) (text : List ℕ) (fault : RunFault) → (told : List ℕ) × IsToldOf task text fault told
some_told task text fault = some_if (explains task && is_of_text fault) (notes_of (number_of fault) (part_of (has_blocks task) fault text)) (run_fault_line fault)

-- what was made for printing, or something that can be printed
pub told_or : {E : Type 0} (r : Result (Vec ℕ) E) (Is : List ℕ → Type 0) → ((told : List ℕ) × Is told) → IfOk r (λ v. Is v.items) →
    (told : List ℕ) × Is told × IfOk r (λ v. v.items ≡ told)
told_or (Ok v) Is some made = (v.items, made, refl)
told_or (Err e) Is some made = (some.0, some.1, tt)
