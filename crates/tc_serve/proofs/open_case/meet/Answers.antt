use Rattle.std.proofs.Common.{[], ◌∷◌, ap, sym}
use Rattle.tc_rules.specs.Prelude.{started_run}
use Rattle.tc_blocks.specs.declared.line.Line.{Line}
use Rattle.tc_serve.proofs.Trying.{met_other, met_some}
use Rattle.tc_serve.proofs.open_case.meet.Goals as goal

pub returns-in_default : goal.returns-in_default
returns-in_default c reply ls met = met_other _ c.args.caller c.args.op.now reply ls c.in_default.not-Start (c.add_refused.ensures ls [] met)

pub returns-in-Start : goal.returns-in-Start
returns-in-Start c reply ls met =
    met_some _ c.args.caller c.in-Start.run' c.args.op.now reply ls (sym (ap started_run c.in-Start.is)) (c.add_refused-in-Start.ensures (Line.Refused c.args.caller [] ∷ ls) [] (c.add_refused.ensures ls [] met))
