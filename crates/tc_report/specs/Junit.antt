-- The JUnit report: XML, as servers of continuous integration read it. Only what a run said needs an escape: names have
-- only letters, digits and `_`.
use Rattle.std.specs.{Prelude.{ℕ, ◌==◌, if◌then◌else◌, Option, Some, None, List, [], ◌∷◌, ◌++◌, false, length, filter, codes, slice_get, unwrap_or}, Fmt.decimal, List.{enumerate_from, flat_map}, Option.{option_and_then, option_map_or}}
use Rattle.jiff_core.specs.declared.civil.datetime.DateTime.{DateTime}
use Rattle.jiff_fmt.specs.Text.{datetime_text}
use Rattle.tc_rules.specs.Prelude.{Verdict, level_of, name_of}
use Rattle.tc_report.specs.{Cause.decided_text, InWords.named_entry, Progress.time_text, Status.{ended, verdict_status}, SummaryText.verdict_groups, declared.{cause.Cause.Cause, results.CaseEnd.CaseEnd, stopwatch.Times.Times, summary.Summary.Summary}}

-- a byte in XML: without `]` no text has the end of a section in it, so `>` stays
abbrev pub escaped_byte : ℕ → List ℕ
escaped_byte b =
    if b == 34 then codes "&quot;" else if b == 38 then codes "&amp;" else if b == 60 then codes "&lt;" else if b == 93 then codes "&#93;" else b ∷ []

-- how many of the test cases count with this status: 1 is a failure, and 2 an error
abbrev pub with_status : ℕ → List Summary → ℕ
with_status status ss = length (filter (λ s. verdict_status (ended s.ending).1 == status) ss)

-- the counts, as attributes: skipped are those of which no verdict was set
unfoldable pub counts_attributes : List Summary → List ℕ
counts_attributes ss = codes " tests=\"" ++ (decimal (length ss) ++ (codes "\" failures=\"" ++ (decimal (with_status 1 ss) ++ (codes "\" errors=\""
    ++ (decimal (with_status 2 ss) ++ (codes "\" skipped=\""
    ++ (decimal (length (filter (λ s. level_of (ended s.ending).1 == 0) ss)) ++ codes "\"")))))))

-- when a run began, as an attribute, if a clock said it: a second, as ISO 8601 has it, without a fraction
abbrev pub stamp_attribute : Option DateTime → List ℕ
stamp_attribute begun = option_map_or (λ d. codes " timestamp=\"" ++ (datetime_text false 84 (Some 0) d ++ codes "\"")) begun []

-- nothing is known of times
abbrev pub no_times : Times
no_times = record { begun = None; whole = None; cases = [] }

-- what decided the verdict of a test case, and in lines of their own the same, who waits for whom, and all calls of that run
unfoldable pub cause_element : Summary → Cause → List ℕ
cause_element s c =
    let decision = flat_map escaped_byte (decided_text s.names c) in
    decision ++ (codes "\">\n" ++ (decision ++ (codes "\n" ++ (s.waits ++ flat_map (named_entry (codes "  ") s.names) c.log))))

-- what is said of this end of a test case: of a verdict worse than pass what decided it, or its name if nothing did; of none `skipped`; of pass nothing
unfoldable pub end_element : Summary → CaseEnd → List ℕ
end_element s (CaseEnd.Over Verdict.None) = codes "<skipped/>\n"
end_element s (CaseEnd.Over Verdict.Pass) = []
end_element s (CaseEnd.Over v) =
    let tag = if verdict_status v == 2 then codes "error" else codes "failure" in
    codes "<" ++ (tag ++ (codes " type=\"" ++ (name_of v ++ (codes "\" message=\""
    ++ (option_map_or (cause_element s) s.cause (codes "verdict " ++ (name_of v ++ codes "\">\n")) ++ (codes "</" ++ (tag ++ codes ">\n")))))))
end_element s CaseEnd.NotRun = codes "<skipped message=\"not run\"/>\n"
end_element s ending = codes "<error type=\"" ++ ((ended ending).0 ++ (codes "\" message=\"" ++ ((ended ending).2 ++ codes "\"/>\n")))

-- a test case: its name and that of its suite, its time, how it ended and why, and its components by their local verdicts
unfoldable pub case_element : List ℕ → Option (ℕ × ℕ) → Summary → List ℕ
case_element suite time s = codes "<testcase name=\"" ++ (s.name ++ (codes "\" classname=\"" ++ (suite ++ (codes "\""
    ++ (time_text (codes " time=\"") time (codes "\"") ++ (codes ">\n" ++ (end_element s s.ending
    ++ (codes "<system-out>\n" ++ (verdict_groups s.names s.locals ++ codes "</system-out>\n</testcase>\n")))))))))

-- all of them, each with its time, if there is one
abbrev pub case_elements : List ℕ → List (Option (ℕ × ℕ)) → List Summary → List ℕ
case_elements suite times ss = flat_map (λ p. case_element suite (option_and_then (λ t. t) (slice_get times p.0)) p.1) (enumerate_from 0 ss)

-- the suite of the name that was given, if one was: the counts of all test cases, twice, and their times, the program's version,
-- and all test cases
unfoldable pub junit_of : List ℕ → Option (List ℕ) → Times → List Summary → List ℕ
junit_of version suite times ss =
    let name = unwrap_or suite (codes "ttrun") in
    codes "<?xml version=\"1.0\" encoding=\"UTF-8\"?>\n<testsuites" ++ (counts_attributes ss ++ (codes ">\n<testsuite name=\"" ++ (name ++ (codes "\""
    ++ (counts_attributes ss ++ (stamp_attribute times.begun ++ (time_text (codes " time=\"") times.whole (codes "\"")
    ++ (codes ">\n<properties>\n<property name=\"version\" value=\"" ++ (version ++ (codes "\"/>\n</properties>\n"
    ++ (case_elements name times.cases ss ++ codes "</testsuite>\n</testsuites>\n")))))))))))
