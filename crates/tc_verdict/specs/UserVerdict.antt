-- What a behaviour may set (ES 201 873-1, verdict operations).
use Rattle.tc_verdict.specs.declared.{user_verdict.UserVerdict.UserVerdict, verdict.Verdict.Verdict}

-- a setting as a verdict
abbrev pub given : UserVerdict → Verdict
given UserVerdict.None = Verdict.None
given UserVerdict.Pass = Verdict.Pass
given UserVerdict.Inconc = Verdict.Inconc
given UserVerdict.Fail = Verdict.Fail
