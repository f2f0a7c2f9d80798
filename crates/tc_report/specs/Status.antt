-- The exit status for test cases, by how they ended.
use Rattle.std.specs.Prelude.{ℕ, if◌then◌else◌, is_some, List, [], codes, map}
use Rattle.tc_rules.specs.Prelude.{Verdict, name_of, refusal_text, worst}
use Rattle.tc_report.specs.{Report.aborted_case, Summary.case_summary, declared.{results.{CampaignEnd.CampaignEnd, CaseEnd.CaseEnd, Results.Results}, summary.Summary.Summary}}

-- the status for a verdict
abbrev pub verdict_status : Verdict → ℕ
verdict_status Verdict.Inconc = 1
verdict_status Verdict.Fail = 1
verdict_status Verdict.Error = 2
verdict_status v = 0

-- the status for an ending, if this is the worst verdict
abbrev pub ending_status : CampaignEnd → Verdict → ℕ
ending_status ending v = if is_some (aborted_case ending) then 3 else verdict_status v

-- of this end of a test case its word, the verdict that it counts as, and what JUnit says of one without a verdict
abbrev pub ended : CaseEnd → List ℕ × Verdict × List ℕ
ended (CaseEnd.Over v) = (name_of v, v, [])
ended CaseEnd.Unfinished = (codes "unfinished", Verdict.Error, codes "the test case is not over")
ended (CaseEnd.Aborted why) = (codes "aborted", Verdict.Error, refusal_text why)
ended CaseEnd.Missing = (codes "missing", Verdict.Error, codes "there is no history of the test case")
ended CaseEnd.NotRun = (codes "notrun", Verdict.None, [])

-- the worst of the verdicts that the test cases count as, none if there is no test case
abbrev pub worst_of : List Summary → Verdict
worst_of ss = worst (map (λ s. (ended s.ending).1) ss)

-- 3 if the campaign was aborted, otherwise the status for the finished test cases
abbrev pub results_status : Results → ℕ
results_status r = ending_status r.ending (worst_of (map case_summary r.finished))
