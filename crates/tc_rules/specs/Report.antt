-- What a closed case reports: one history of one thread; and why a case was not closed, or has no report.
use Rattle.std.specs.{Prelude.{ℕ, ◌≡◌, ◌++◌, true, None, List, [], length, reverse, map, filter, sum_by, codes}, List.range_with_len}
use Rattle.tc_entry.specs.{Prelude.{memory_text}, declared.entry.Entry.Entry}
use Rattle.tc_rules.specs.{Faults.components, History.comp_of, History.is_over, Legal.IsAllOver, Legal.IsLegal, Local.local, Local.overall, Merge.is_other, Merge.logs_below, Merge.merge, Merge.part, declared.closed.CloseFault.CloseFault, declared.closed.Closed.Closed, declared.refusal.CaseError.CaseError}

-- The report is one history of one thread. Each reply is the component table's at that point. The logs are the runs'
-- parts of the history, which together hold each entry once, in its caller's order. Once an entry has ended the case no
-- component is alive. The verdict is the worst of the local verdicts. This is said only of the history and its own
-- parts: that the logs are those of the passes that were left is IsWhole, and at the executor IsMadeOf.
pub record IsOneHistory (c : Closed) : Type 0 where
  -- each reply is the component table's, by the calls before it
  pub legal : IsLegal c.behaviours (reverse c.history)
  -- there is a log of each run that was started, in the order of the runs, with its component, and it is the run's part of the history
  pub logs : c.logs ≡ logs_below c.history c.behaviours
  -- the history is as long as these logs together
  pub as_long : length c.history ≡ sum_by (λ log. length log.entries) c.logs
  -- each verdict entry is in its place: the history is the merge of itself without them with the logs
  pub merged : c.history ≡ merge (filter is_other c.history) c.logs
  -- a run that was never started made no call
  pub no_others : (b : ℕ) → comp_of (reverse c.history) b ≡ None → part c.history b ≡ []
  -- some entry ended the case
  pub over : is_over (reverse c.history) ≡ true
  -- from the first such entry on every component is killed, and every call is replied Ended
  pub none_alive : (later earlier : List Entry) → reverse c.history ≡ later ++ earlier → is_over earlier ≡ true → IsAllOver c.behaviours earlier
  -- the local verdict of each component, in the order of their numbers
  pub locals : c.locals ≡ map (local (reverse c.history)) (range_with_len 0 (components (reverse c.history)))
  -- the overall verdict, which is the worst of them
  pub verdict : c.verdict ≡ overall (reverse c.history)

-- why a case has no report, in words
abbrev pub refusal_text : CaseError → List ℕ
refusal_text CaseError.NoBehaviours = codes "no behaviours"
refusal_text CaseError.TooManyBehaviours = codes "too many behaviours"
refusal_text CaseError.NoMemory = memory_text
refusal_text CaseError.NoThread = codes "no thread"
refusal_text CaseError.Torn = codes "torn"

-- the refusal by which a case that was not closed is answered
abbrev pub of_close : CloseFault → CaseError
of_close CloseFault.Torn = CaseError.Torn
of_close CloseFault.NoMemory = CaseError.NoMemory
