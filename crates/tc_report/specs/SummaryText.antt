-- The summary of test cases, a page for a person: the counts, and of each test case that failed its name, how it ended, why, and
-- its components by their local verdicts.
use Rattle.std.specs.{Prelude.{ℕ, ◌+◌, ◌-◌, ◌==◌, nat_lt, not, if◌then◌else◌, Option, Some, List, [], ◌∷◌, ◌++◌, codes, drop, filter, length, map, take}, Fmt.decimal, List.{enumerate_from, flat_map}, Str.bytes_eq}
use Rattle.tc_rules.specs.Prelude.{refusal_text, is_parked, Verdict, Entry, level_of, name_of}
use Rattle.tc_report.specs.{Cause.decided_text, InWords.{component_in, named_entry}, Report.{tally_by, tally_line}, Status.{ended, verdict_status}, declared.{cause.Cause.Cause, naming.Names.Names, results.CaseEnd.CaseEnd, summary.Summary.Summary}}

-- how many of the test cases ended with this word
abbrev pub ended_so : List ℕ → List Summary → ℕ
ended_so word ss = length (filter (λ s. bytes_eq (ended s.ending).0 word) ss)

-- the counts: by verdicts, and a line for each other word with which some ended
unfoldable pub counts_text : List Summary → List ℕ
counts_text ss =
    tally_line (tally_by (length ss) (λ v. ended_so (name_of v) ss))
    ++ flat_map (λ word. if ended_so word ss == 0 then [] else word ++ (codes " " ++ (decimal (ended_so word ss) ++ (10 ∷ []))))
    (codes "unfinished" ∷ codes "aborted" ∷ codes "missing" ∷ codes "notrun" ∷ [])

-- the others of a list: each in the same line, if there is room for it, otherwise in the next
abbrev pub listed : ℕ → List (List ℕ) → List ℕ
listed room [] = codes "\n"
listed room (t ∷ ts) = if nat_lt room (length t + 2) then codes ",\n    " ++ (t ++ listed (73 - length t) ts) else codes ", " ++ (t ++ listed (room - (length t + 2)) ts)

-- a list after the name of a verdict, if there is something in it
abbrev pub verdict_group : Verdict → List (List ℕ) → List ℕ
verdict_group v [] = []
verdict_group v (t ∷ ts) = codes "  " ++ (name_of v ++ (codes ": " ++ (t ++ listed (67 - length t) ts)))

-- the components by their local verdicts, the worst first, each with its name if it has one
abbrev pub verdict_groups : Names → List Verdict → List ℕ
verdict_groups names locals =
    flat_map (λ v. verdict_group v (map (λ p. component_in names p.0) (filter (λ p. level_of p.1 == level_of v) (enumerate_from 0 locals))))
    (Verdict.Error ∷ Verdict.Fail ∷ Verdict.Inconc ∷ Verdict.Pass ∷ Verdict.None ∷ [])

-- the last five of the calls of a run, if there are some
abbrev pub calls_text : Names → List Entry → List ℕ
calls_text names es = if length es == 0 then [] else codes "  after:\n" ++ flat_map (named_entry (codes "    ") names) (drop (length es - 5) es)

-- why a test case ended so: what decided its verdict, who waits for whom, and the calls before it that were not parked; or why
-- it has no report
unfoldable pub reason_lines : Summary → CaseEnd → Option Cause → List ℕ
reason_lines s (CaseEnd.Over v) (Some c) =
    codes "  " ++ (decided_text s.names c ++ (codes "\n" ++ (s.waits ++ calls_text s.names (filter (λ e. not (is_parked e.reply)) (take c.before c.log)))))
reason_lines s (CaseEnd.Aborted refused) cause = codes "  " ++ (refusal_text refused ++ codes "\n")
reason_lines s ending cause = []

-- a test case: its name, how it ended and why, and its components
unfoldable pub shown_case : Summary → List ℕ
shown_case s = codes "\n" ++ (s.name ++ (codes ": " ++ ((ended s.ending).0 ++ (codes "\n" ++ (reason_lines s s.ending s.cause ++ verdict_groups s.names s.locals)))))

-- the counts, and each test case that failed: that has a status other than 0
abbrev pub summary_text : List Summary → List ℕ
summary_text ss = counts_text ss ++ flat_map shown_case (filter (λ s. nat_lt 0 (verdict_status (ended s.ending).1)) ss)
