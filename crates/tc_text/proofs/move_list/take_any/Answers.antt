use Rattle.std.proofs.Common.{ap}
use Rattle.tc_text.proofs.Lemmas.LinesOf.{IsThatSpelled, line_taken, never_move, that_line}
use Rattle.tc_text.proofs.move_list.take_any.Goals as goal

pub returns-in_default : goal.returns-in_default
returns-in_default g c = never_move c.args.text.now c.in_default.ensures.only

pub returns-in_default-take_line_end : goal.returns-in_default-take_line_end
returns-in_default-take_line_end g c m others fits lines =
    let only : IsThatSpelled c.args.text.now c.in-Some.one c.in-Some.rest.now = λ run op after low right ends e. let two = c.in-Some.ensures.only run op after low right ends e in (ap (λ m. m.0.0) two.0, ap (λ m. m.1) two.0, two.1) in
    let that = that_line c.args.text.now c.in-Some.rest.now c.in-Some.one only m others fits lines in
    c.in_default-take_line_end.ensures that.behind that.ends

pub returns : goal.returns
returns g c =
    let moved = c.in-Some.ensures in
    line_taken g.T.TakesMoves.stands c.args.text.now c.in-Some.rest.now c.in-Some-take_line_end.rest.now c.in-Some.one c.args.made.now c.take.new.self moved.spelled moved.fits
    (λ run op after low right ends e. let two = moved.only run op after low right ends e in (ap (λ m. m.0.0) two.0, ap (λ m. m.1) two.0, two.1))
    c.in-Some-take_line_end.ensures c.in_ok-take.ensures
