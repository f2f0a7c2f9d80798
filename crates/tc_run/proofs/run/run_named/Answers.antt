use Rattle.std.{proofs.Common.{◌∙◌, subst, sym}, specs.Io.KnownBytes.Appends}
use Rattle.tc_report.specs.Prelude.{LeavesPrefix}
use Rattle.tc_run.{specs.Output.{AreTimes, results_in_form}, proofs.Running.{whole_done, whole_left}}
use Rattle.tc_run.proofs.run.run_named.Goals as goal

pub returns-clause-done : goal.returns-clause-done
returns-clause-done g c =
    let ran = c.run_or_not-results in
    let times = c.times_if-times.result in
    let options = c.args.options.now in
    let given = c.in_ok-write_results.ensures.done in
    whole_done _ _ _ _ _ times ran.result.0 (subst (λ n. AreTimes options.times n times) ran.ensures.timed c.times_if-times.ensures.times) ran.result.1 _ ran.ensures.run ran.ensures.told c.status_of-status.ensures
    (subst (λ ns. Appends (g.W.Write.contents c.args.writer.now) (g.W.Write.contents c.write_results.new.writer) (results_in_form options.form times ns ran.result.0)) c.requires.are given)
    c.tell_end-told.ensures

pub returns-in_err-write_results-clause-refused : goal.returns-in_err-write_results-clause-refused
returns-in_err-write_results-clause-refused g c =
    let ran = c.run_or_not-results in
    let times = c.times_if-times.result in
    let options = c.args.options.now in
    let is = sym c.live_form.ensures ∙ c.in_default.is in
    whole_left _ _ _ _ times ran.result.0 (subst (λ n. AreTimes options.times n times) ran.ensures.timed c.times_if-times.ensures.times) ran.result.1 _ c.from_residual.result c.from_residual.ensures.1 is ran.ensures.run ran.ensures.told
    (subst (λ ns. LeavesPrefix (g.W.Write.contents c.args.writer.now) (g.W.Write.contents c.write_results.new.writer) (results_in_form options.form times ns ran.result.0) c.in_err-write_results.field-0.0)
    c.requires.are c.in_err-write_results.ensures.refused)
