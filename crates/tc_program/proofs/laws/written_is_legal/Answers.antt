use Rattle.tc_blocks.specs.declared.header.Kind.{Kind}
use Rattle.tc_program.proofs.Reporting.{found_so}
use Rattle.tc_program.proofs.laws.written_is_legal.Goals as goal

pub returns-clause-histories : goal.returns-clause-histories
returns-clause-histories c cases reported = found_so Kind.History2 c.args.results.now (c.were_run.ensures.histories cases reported)

pub returns-clause-evidence : goal.returns-clause-evidence
returns-clause-evidence c cases reported = found_so Kind.Evidence c.args.results.now (c.were_run.ensures.evidence cases reported)
