-- The worst of the verdicts that test cases count as, one test case more.
use Rattle.std.proofs.{Common.{ℕ, ◌≡◌, ◌∙◌, ◌+◌, ◌<◌, List, [], ◌∷◌, ◌++◌, length, map, take, get_or, ap, sym}, lemmas.List.{map-append, take_more}}
use Rattle.tc_rules.specs.Prelude.{Verdict, worse, worst}
use Rattle.tc_verdict.proofs.Lemmas.Order.{worst-more}
use Rattle.tc_report.specs.{Status.{ended, worst_of}, Summary.case_summary, declared.{results.Finished.Finished, summary.Summary.Summary}}

abbrev counted : Summary → Verdict
counted s = (ended s.ending).1

counted_more : (ss : List Summary) (s : Summary) → worst_of (ss ++ s ∷ []) ≡ worse (worst_of ss) (counted s)
counted_more ss s = ap worst (map-append counted ss (s ∷ [])) ∙ worst-more (map counted ss) (counted s)

-- of finished test cases
pub worst_more : (fs : List Finished) (f : Finished) → worse (worst_of (map case_summary fs)) f.report.verdict ≡ worst_of (map case_summary (fs ++ f ∷ []))
worst_more fs f = sym (ap worst_of (map-append case_summary fs (f ∷ [])) ∙ counted_more (map case_summary fs) (case_summary f))

pub worst_of_more : (fs : List Finished) (i : ℕ) (d : Finished) → i < length fs →
    worst_of (map case_summary (take (i + 1) fs)) ≡ worse (worst_of (map case_summary (take i fs))) (get_or fs i d).report.verdict
worst_of_more fs i d h = ap (λ l. worst_of (map case_summary l)) (take_more fs i d h) ∙ sym (worst_more (take i fs) (get_or fs i d))

pub worst_counted_more : (ss : List Summary) (i : ℕ) (d : Summary) → i < length ss →
    worst_of (take (i + 1) ss) ≡ worse (worst_of (take i ss)) (counted (get_or ss i d))
worst_counted_more ss i d h = ap worst_of (take_more ss i d h) ∙ counted_more (take i ss) (get_or ss i d)
