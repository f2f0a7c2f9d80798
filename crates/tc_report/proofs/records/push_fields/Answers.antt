use Rattle.std.{proofs.Common.{All, subst}, specs.Fmt.IsBoundedDecimal}
use Rattle.tc_report.specs.Inside.{counts_of}
use Rattle.tc_report.proofs.records.push_fields.Goals as goal

pub returns-clause-digits : goal.returns-clause-digits
returns-clause-digits c = subst (λ l. All IsBoundedDecimal (counts_of l)) c.as_slice.ensures c.in_ok-push_counts.ensures.digits
