use Rattle.std.proofs.Common.{All, subst}
use Rattle.tc_blocks.specs.declared.header.Kind.{Kind}
use Rattle.tc_program.{specs.Inside.FitsItsTypes, proofs.WrittenHistories.reported_were_run}
use Rattle.tc_program.proofs.laws.were_run.Goals as goal

pub returns-clause-histories : goal.returns-clause-histories
returns-clause-histories c cases reported =
    reported_were_run Kind.History2 cases c.args.results.now (λ e. cc) (subst (All FitsItsTypes) c.as_slice.ensures c.cases_fit.ensures) reported

pub returns-clause-evidence : goal.returns-clause-evidence
returns-clause-evidence c cases reported =
    reported_were_run Kind.Evidence cases c.args.results.now (λ e. cc) (subst (All FitsItsTypes) c.as_slice.ensures c.cases_fit.ensures) reported
