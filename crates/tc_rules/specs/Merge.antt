-- The part of a history by one run, and the merge of a history without verdict entries with the logs of its runs.
-- `past` lists entries of the history, the newest first, and `log b` is the log of run b.
use Rattle.std.specs.{Prelude.{ℕ, zero, suc, ◌==◌, ◌++◌, ◌∷◌, Bool, List, [], filter, reverse, ◌+◌, ◌&&◌, not, max, if◌then◌else◌, true, false, length}, Option.{option_map_or}}
use Rattle.tc_entry.specs.{declared.entry.Entry.Entry, declared.op.Op.Op, Prelude.{is_ended}}
use Rattle.tc_rules.specs.{History.comp_of, History.started, declared.run_log.RunLog.RunLog}

-- the entry is one of run b
abbrev pub is_by : ℕ → Entry → Bool
is_by b e = e.caller.0 == b

-- the part of a history by run b: its entries, in their order
unfoldable pub part : List Entry → ℕ → List Entry
part history b = filter (is_by b) history

-- the logs of the runs below n that were started, in the order of their numbers: of each its component, and its part
abbrev pub logs_below : List Entry → ℕ → List RunLog
logs_below history zero = []
logs_below history (suc b) =
    logs_below history b
    ++ option_map_or (λ c. record { run = record { 0 = b }; comp = c; entries = part history b } ∷ []) (comp_of (reverse history) b) []

-- an operation on verdicts: setverdict, getverdict
abbrev pub is_verdict_call : Op → Bool
is_verdict_call (Op.SetVerdict v) = true
is_verdict_call Op.GetVerdict = true
is_verdict_call _ = false

-- every entry but a verdict entry
abbrev pub is_other : Entry → Bool
is_other e = not (is_verdict_call e.op)

-- a verdict entry replied Ended
abbrev pub is_late : Entry → Bool
is_late e = is_verdict_call e.op && is_ended e.reply

-- the log of run b; a run that no log names has the empty log
abbrev pub log_of : List RunLog → ℕ → List Entry
log_of [] b = []
log_of (l ∷ ls) b = if l.run.0 == b then l.entries else log_of ls b

-- one more than the greatest number of a run that has a log
abbrev pub runs_end : List RunLog → ℕ
runs_end [] = 0
runs_end (l ∷ ls) = max (l.run.0 + 1) (runs_end ls)

-- The verdict entries of a log after its k-th other entry and before the next, without those replied Ended. After none
-- come those that the log begins with.
abbrev pub verdict_calls_after : ℕ → List Entry → List Entry
verdict_calls_after k [] = []
verdict_calls_after zero (e ∷ es) = if is_other e then [] else if is_late e then verdict_calls_after 0 es else e ∷ verdict_calls_after 0 es
verdict_calls_after (suc k) (e ∷ es) = verdict_calls_after (if is_other e then k else suc k) es

-- At the opening come the verdict entries that run 0's log begins with. After each entry come first those after it in
-- its caller's log, which has as many other entries up to there, and then those that the log of the run that it starts
-- begins with.
abbrev pub in_place : (ℕ → List Entry) → List Entry → List Entry
in_place log [] = verdict_calls_after 0 (log 0)
in_place log (e ∷ past) =
    in_place log past ++ (e ∷ verdict_calls_after (length (filter (is_by e.caller.0) (e ∷ past))) (log e.caller.0)
    ++ option_map_or (λ run. verdict_calls_after 0 (log run.0)) (started e) [])

-- the verdict entries replied Ended of the runs below n, in the order of their numbers
unfoldable pub late : (ℕ → List Entry) → ℕ → List Entry
late log zero = []
late log (suc b) = late log b ++ filter is_late (log b)

-- the merge: what is in its place, and at the end what was replied Ended
unfoldable pub merge : List Entry → List RunLog → List Entry
merge history logs = in_place (log_of logs) (reverse history) ++ late (log_of logs) (runs_end logs)
