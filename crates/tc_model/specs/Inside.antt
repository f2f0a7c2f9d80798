-- What the functions inside say.
use Rattle.std.specs.{Prelude.{ℕ, ◌≡◌, ◌==◌, ◌<◌, if◌then◌else◌, Bool, true, Option, Some, None, Result, Ok, Err, is_some, List, [], ◌∷◌, All, filter, fold, length, map, nat_lt, slice_index_or, unwrap_or}, List.{AllZip, list_any}, Option.option_map_or, Global.Vec}
use Rattle.tc_entry.specs.declared.limits.TheConstants.{ARGUMENTS}
use Rattle.tc_rules.specs.Prelude.{Case, Comp, Entry, Run, Verdict, add_new, answer, names, past_of, start}
use Rattle.tc_course.specs.Prelude.{stand}
use Rattle.tc_reader.specs.Prelude.{CampaignView}
use Rattle.tc_model.specs.{Models.{IsModel, of_block, written}, Naming.{given_to, lacking, starters, starts}, Reasons.{CanCall, EntryHas, IsFirstOf, LineHas, line_reasons}, declared.{given.{Lack.Lack, Start.Start, Starter.Starter, Ways.Ways}, models.Attempt.Attempt, reason.Reason.Reason}}

-- the test cases are those that are left, after the block's model if the block is not refused
abbrev pub TakesModel : Attempt → CampaignView → CampaignView → Type 0
TakesModel a old new = (rest : List Attempt) → AllZip IsModel (written rest) new → AllZip IsModel (written (a ∷ rest)) old

-- the attempt; if its block was not refused it is, because what was written is not read
abbrev pub unread : Attempt → Attempt
unread a = record a { refusal = Some (unwrap_or a.refusal (of_block a.block Reason.NotRead)) }

-- ---- what runs are given

-- the run that started run b, if one did, and the number of components before that
abbrev pub IsStart : ℕ → List Entry → ℕ → Start → Type 0
IsStart n past b s = ByStarter s.by
  where
    ByStarter : Option Run → Type 0
    ByStarter None = starters past b ≡ record { run = record { 0 = b }; there = s.there } ∷ []
    ByStarter (Some by) =
        (by.0 < n) × (is_some (stand past by.0).comp ≡ true) × (starters past b ≡ record { run = record { 0 = b }; there = s.there } ∷ starters past by.0)

-- the same of each of n runs
pub record AreStarts (n : ℕ) (past : List Entry) (all : List Start) : Type 0 where
  pub as_many : length all ≡ n
  pub each : (b : ℕ) (d : Start) → b < n → IsStart n past b (slice_index_or all b d)

-- the numbers of the components that run b is given
abbrev pub given_in : List (Vec Comp) → ℕ → List ℕ
given_in all b = slice_index_or (map (λ v. map (λ c. c.0) v.items) all) b []

-- run b is given more than a start has arguments
abbrev pub is_given_many : List (Vec Comp) → ℕ → Bool
is_given_many all b = nat_lt ARGUMENTS (length (given_in all b))

-- who started each of n runs, and what it is given
pub record AreWays (n : ℕ) (past : List Entry) (w : Ways) : Type 0 where
  pub starts : AreStarts n past w.starts.items
  pub as_many : length w.given.items ≡ n
  pub given : (b : ℕ) → b < n → given_in w.given.items b ≡ given_to past b

-- the components that the entry names, each with the runs that lack it
pub record AreLacks (past : List Entry) (e : Entry) (all : List Lack) : Type 0 where
  pub comps : map (λ l. l.comp) all ≡ names e.op
  pub runs : All (λ l. l.runs.items ≡ lacking past e.caller.0 l.comp.0) all

-- the test holds of a run that lacks a component
abbrev pub some_lack : (ℕ → Starter → Bool) → List Lack → Bool
some_lack test all = list_any (λ l. list_any (test l.comp.0) l.runs.items) all

-- each of the runs is one of that many
abbrev pub AreWithin : ℕ → List Lack → Type 0
AreWithin n all = All (λ l. All (λ s. s.run.0 < n) l.runs.items) all

-- run b is one of these
abbrev pub is_run_in : List Starter → ℕ → Bool
is_run_in runs b = list_any (λ s. s.run.0 == b) runs

-- each of these runs is given the component, and no other run anything
pub record AreGiven (c : Comp) (runs : List Starter) (before after : List (Vec Comp)) : Type 0 where
  pub each : (b : ℕ) → b < length before → given_in after b ≡ (if is_run_in runs b then add_new (Some c) (given_in before b) else given_in before b)

-- each run is given the components that it lacks
pub record AreAllGiven (all : List Lack) (before after : List (Vec Comp)) : Type 0 where
  pub each : (b : ℕ) → b < length before →
      given_in after b ≡ fold (λ given l. add_new (Some l.comp) given) (given_in before b) (filter (λ l. is_run_in l.runs.items b) all)

-- run r is given only these components, and the others what they were given
abbrev pub IsGivenOnly : ℕ → List Comp → List (Vec Comp) → List (Vec Comp) → Type 0
IsGivenOnly r comps before after =
    (b : ℕ) → b < length before → given_in after b ≡ (if r == b then map (λ c. c.0) comps else given_in before b)

-- the run that the entry starts is given its arguments, and no other run anything
pub record AreStartedWith (past : List Entry) (e : Entry) (before after : List (Vec Comp)) : Type 0 where
  pub as_many : length after ≡ length before
  pub each : (b : ℕ) → b < length before → given_in after b ≡ (if starts past e b then map (λ c. c.0) (option_map_or (λ s. s.2) (start e.op) []) else given_in before b)

-- the entry is taken in; or its names are the reason why no script brings it
abbrev pub IsTaken : ℕ → List Entry → Entry → Ways → Option Reason → Type 0
IsTaken n past e w None =
    AreWays n (e ∷ past) w × (EntryHas n past e Reason.NotGiven → ⊥) × (EntryHas n past e Reason.ManyArguments → ⊥)
IsTaken n past e w (Some r) = IsFirstOf (Reason.NotGiven ∷ Reason.ManyArguments ∷ []) (EntryHas n past e) r

-- ---- lines

-- the entry is the table's, and one that a behaviour can call; or the first reason why not
abbrev pub IsCallFault : ℕ → List Entry → Entry → Option Reason → Type 0
IsCallFault n past e None = (e.reply ≡ answer n past e.caller.0 e.op) × CanCall n past e × (EntryHas n past e Reason.ManySteps → ⊥)
IsCallFault n past e (Some r) = IsFirstOf (Reason.NotLegal ∷ Reason.NotCalled ∷ Reason.ManySteps ∷ []) (EntryHas n past e) r

-- the case with the entry, which has no reason; or its first one
abbrev pub IsEntryTaken : ℕ → List Entry → Entry → Ways → Result Case Reason → Type 0
IsEntryTaken n past e w (Ok t) =
    (t.behaviours ≡ n) × (past_of t ≡ e ∷ past) × AreWays n (e ∷ past) w × All (λ r. EntryHas n past e r → ⊥) line_reasons
IsEntryTaken n past e w (Err r) = IsFirstOf line_reasons (EntryHas n past e) r

-- the end has no reason; or its first one
abbrev pub IsEndFault : ℕ → List Entry → Verdict → Option Reason → Type 0
IsEndFault n past v None = All (λ r. LineHas n past v None r → ⊥) line_reasons
IsEndFault n past v (Some r) = IsFirstOf line_reasons (LineHas n past v None) r
