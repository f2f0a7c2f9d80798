use Rattle.tc_text.{specs.Reading.op_of, proofs.Lemmas.LinesOf.{line_taken, that_line}}
use Rattle.tc_text.proofs.move_list.take_next.Goals as goal

pub returns-in_default-take_line_end : goal.returns-in_default-take_line_end
returns-in_default-take_line_end g c m others fits lines =
    let that = that_line c.args.text.now c.in-Some.rest.now (c.in-Some.caller, op_of c.in-Some.short) c.in-Some.ensures.only m others fits lines in
    c.in_default-take_line_end.ensures that.behind that.ends

pub returns : goal.returns
returns g c =
    let moved = c.in-Some.ensures in
    line_taken g.T.TakesMoves.stands c.args.text.now c.in-Some.rest.now c.in-Some-take_line_end.rest.now (c.in-Some.caller, op_of c.in-Some.short) c.args.made.now c.take_short.new.self moved.spelled moved.fits moved.only
    c.in-Some-take_line_end.ensures c.in_ok-take_short.ensures
