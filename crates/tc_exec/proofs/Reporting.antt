-- The report of a case is that of as many behaviours.
use Rattle.std.proofs.Common.{ℕ, ◌≡◌}
use Rattle.tc_rules.specs.{Prelude.IsOneHistory, declared.closed.Closed.Closed}
use Rattle.tc_exec.specs.Case.{IsCaseReport}

pub case_report : (n : ℕ) (c : Closed) → IsOneHistory c → c.behaviours ≡ n → IsCaseReport n c
case_report n c one count = record { one_history = one; behaviours = count }
