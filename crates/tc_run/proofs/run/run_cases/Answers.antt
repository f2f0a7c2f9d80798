use Rattle.std.proofs.Common.{refl}
use Rattle.tc_answer.specs.Prelude.{held_streams}
use Rattle.tc_run.proofs.Running.{unrun_left}
use Rattle.tc_run.proofs.run.run_cases.Goals as goal

pub returns-in-Err-clause-refused : goal.returns-in-Err-clause-refused
returns-in-Err-clause-refused g c =
    unrun_left g.B.Callable.outcome c.args.cases.items c.args.options.now
    (held_streams g.W.Write.contents c.args.writer.now c.args.writer.now g.E.Write.contents c.args.errors.now c.args.errors.now) refl refl
