-- When a history without verdict entries and logs come from one case.
use Rattle.std.specs.Prelude.{ℕ, ◌≡◌, ◌&&◌, Bool, true, Some, None, is_some, List, [], ◌∷◌, ◌++◌, filter, reverse, All}
use Rattle.tc_rules.specs.{Prelude.{Run, Entry, comp_of, is_other, is_late, log_of, started, part}, declared.run_log.RunLog.RunLog}

-- the caller of each entry was started before it: run 0 from the opening
abbrev pub all_started : List Entry → Bool
all_started [] = true
all_started (e ∷ past) = is_some (comp_of past e.caller.0) && all_started past

-- the history and the logs come from one case
pub record AreOfOneCase (history : List Entry) (logs : List RunLog) : Type 0 where
  -- no entry starts a run that was started before it
  pub once : (run : Run) (later earlier : List Entry) (e : Entry) → reverse history ≡ later ++ e ∷ earlier → started e ≡ Some run → comp_of earlier run.0 ≡ None
  -- each entry of the history is by a run that was started before it
  pub started : all_started (reverse history) ≡ true
  -- the log of a run that was never started is empty
  pub unstarted : (b : ℕ) → comp_of (reverse history) b ≡ None → log_of logs b ≡ []
  -- each entry of a log is by its run
  pub own : (b : ℕ) → All (λ e. e.caller.0 ≡ b) (log_of logs b)
  -- the other entries of a log are its run's entries of the history, in order
  pub others : (b : ℕ) → filter is_other (log_of logs b) ≡ part history b
  -- nothing follows a verdict entry replied Ended in its log
  pub stop : (b : ℕ) (before after : List Entry) (e : Entry) → log_of logs b ≡ before ++ e ∷ after → is_late e ≡ true → after ≡ []
