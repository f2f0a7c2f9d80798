-- The CSV report of test cases.
use Rattle.std.specs.{Prelude.{ℕ, List, [], ◌∷◌, ◌++◌, length, map, codes}, Fmt.decimal, List.{flat_map, join_with_byte}}
use Rattle.tc_rules.specs.Prelude.{Verdict}
use Rattle.tc_report.specs.{Report.count_of, Status.ended, declared.summary.Summary.Summary}

-- the header
abbrev pub columns_text : List ℕ
columns_text = codes "testcase,components,none,pass,inconc,fail,error,verdict\n"

-- the line of a test case: its name, how many components it has, how many of these have each local verdict, and its end, with a
-- comma between them, and LF
abbrev pub row_line : Summary → List ℕ
row_line s =
    let counts = length s.locals ∷ map (λ v. count_of v s.locals) (Verdict.None ∷ Verdict.Pass ∷ Verdict.Inconc ∷ Verdict.Fail ∷ Verdict.Error ∷ []) in
    join_with_byte 44 (s.name ∷ (map decimal counts ++ (ended s.ending).0 ∷ [])) ++ (10 ∷ [])

-- the header, and a line for each test case
abbrev pub csv_of : List Summary → List ℕ
csv_of ss = columns_text ++ flat_map row_line ss
