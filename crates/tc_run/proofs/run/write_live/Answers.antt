use Rattle.std.proofs.Common.{◌∙◌, refl}
use Rattle.tc_answer.specs.Prelude.{held_streams}
use Rattle.tc_run.proofs.Running.{at_opening, live_done, live_left, named_still, writes_nothing}
use Rattle.tc_run.proofs.run.write_live.Goals as goal

pub returns-in-Err-clause-refused : goal.returns-in-Err-clause-refused
returns-in-Err-clause-refused g c = at_opening _ _ _ _ _ c.requires.form c.in-Err.fault refl c.in-Err.ensures.part

pub returns-in-Ok-clause-done : goal.returns-in-Ok-clause-done
returns-in-Ok-clause-done g c =
    let at = c.in_default.ensures in
    let was = c.run_told-ending.ensures in
    live_done _ _ _ _ _ c.requires.form g.W.Write.contents c.begin.new.self c.run_told-ending.new.observer
    at.form at.all (at.tally ∙ c.requires.tally) (at.worst ∙ c.requires.worst) was.finished _ was.given _ _ _ _ was.told_of
    c.in-Ok.ensures.ended c.in-Ok.ensures.all c.in-Ok.ensures.status c.tell_end-told.ensures

pub returns-in-Err-close-clause-refused : goal.returns-in-Err-close-clause-refused
returns-in-Err-close-clause-refused g c =
    let at = c.in_default.ensures in
    let was = c.run_told-ending.ensures in
    live_left _ _ _ _ _ c.requires.form g.W.Write.contents c.begin.new.self c.run_told-ending.new.observer
    at.form at.all (at.tally ∙ c.requires.tally) (at.worst ∙ c.requires.worst) was.finished _ was.given _ _ was.told_of
    (writes_nothing g.W.Write.contents _ _ _ c.in-Err-close.ensures.cut) c.in-Err-close.ensures.part

pub returns-in-Ok-clause-same : goal.returns-in-Ok-clause-same
returns-in-Ok-clause-same g c =
    let streams = held_streams g.W.Write.contents c.args.live.now.writer.now c.args.live.now.writer.now g.E.Write.contents c.args.errors.now c.args.errors.now in
    let at = c.in_default.ensures in
    let was = c.run_told-ending.ensures in
    c.in-Ok.ensures.same ∙ named_still g.B.Callable.outcome c.args.cases.items c.args.options.now streams _ c.requires.form g.W.Write.contents c.begin.new.self c.run_told-ending.new.observer
    at.form at.all (at.tally ∙ c.requires.tally) (at.worst ∙ c.requires.worst) was.finished _ was.given ∙ at.same

pub returns-in-Err-close-clause-same : goal.returns-in-Err-close-clause-same
returns-in-Err-close-clause-same g c =
    let streams = held_streams g.W.Write.contents c.args.live.now.writer.now c.args.live.now.writer.now g.E.Write.contents c.args.errors.now c.args.errors.now in
    let at = c.in_default.ensures in
    let was = c.run_told-ending.ensures in
    c.in-Err-close.ensures.same ∙ named_still g.B.Callable.outcome c.args.cases.items c.args.options.now streams _ c.requires.form g.W.Write.contents c.begin.new.self c.run_told-ending.new.observer
    at.form at.all (at.tally ∙ c.requires.tally) (at.worst ∙ c.requires.worst) was.finished _ was.given ∙ at.same
