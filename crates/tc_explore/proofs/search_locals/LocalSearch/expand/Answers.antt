use Rattle.tc_rules.specs.Prelude.{past_of}
use Rattle.tc_course.proofs.Lemmas.{below_more}
use Rattle.tc_explore.{specs.Inside.Locals.IsLocalsRun, proofs.LocalsClosed.{local_then, run_further}}
use Rattle.tc_explore.proofs.search_locals.LocalSearch.expand.Goals as goal

pub loop-run-preserved : goal.loop-run-preserved
loop-run-preserved c =
    let was = c.loop-run.invariant in
    let is = c.in_ok-try_run.ensures in
    let q = past_of c.args.course.now in
    record {
      further = local_then c.args.self.now c.loop-run.self c.try_run.new.self was.further is.further;
      closed = below_more (IsLocalsRun c.try_run.new.self q) c.loop-run.run (λ b near. run_further c.loop-run.self c.try_run.new.self q b is.further (was.closed b near)) is.closed;
    }
