-- The order of verdicts, and how they overwrite one another (ES 201 873-1, test verdicts).
use Rattle.std.specs.Prelude.{ℕ, nat_lt, if◌then◌else◌, List, [], ◌∷◌, codes}
use Rattle.tc_verdict.specs.declared.verdict.Verdict.{Verdict}

-- the place in the order from best to worst
abbrev pub level_of : Verdict → ℕ
level_of Verdict.None = 0
level_of Verdict.Pass = 1
level_of Verdict.Inconc = 2
level_of Verdict.Fail = 3
level_of Verdict.Error = 4

-- the worse of two verdicts
abbrev pub worse : Verdict → Verdict → Verdict
worse a b = if nat_lt (level_of a) (level_of b) then b else a

-- the worst of a list, none if it is empty
abbrev pub worst : List Verdict → Verdict
worst [] = Verdict.None
worst (v ∷ vs) = worse (worst vs) v

-- the name of a verdict in every text
abbrev pub name_of : Verdict → List ℕ
name_of Verdict.None = codes "none"
name_of Verdict.Pass = codes "pass"
name_of Verdict.Inconc = codes "inconc"
name_of Verdict.Fail = codes "fail"
name_of Verdict.Error = codes "error"
