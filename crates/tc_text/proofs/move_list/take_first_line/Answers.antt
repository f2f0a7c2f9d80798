use Rattle.std.proofs.Common.{◌∙◌, ap}
use Rattle.tc_text.{specs.MoveList.lines_of, proofs.Lemmas.LinesOf.{same_behind, behaviours_spelled, no_behaviours, no_word, that_first}}
use Rattle.tc_text.proofs.move_list.take_first_line.Goals as goal

pub returns-in_err-rest-clause-only : goal.returns-in_err-rest-clause-only
returns-in_err-rest-clause-only c n others few e = absurd (no_word c.args.text.now c.in_err-rest.ensures n others e)

pub returns-in_err-number-clause-only : goal.returns-in_err-number-clause-only
returns-in_err-number-clause-only c n others few e = absurd (no_behaviours c.args.text.now c.in_ok-rest.rest.now c.in_ok-rest.ensures c.in_err-number.ensures.only n others few e)

pub returns-in_err-rest-2-clause-only : goal.returns-in_err-rest-2-clause-only
returns-in_err-rest-2-clause-only c n others few e =
    let that = that_first c.args.text.now c.in_ok-rest.rest.now c.in_ok-number.rest.now c.in_ok-number.number c.in_ok-rest.ensures c.in_ok-number.ensures.only n others few e in
    absurd (c.in_err-rest-2.ensures that.behind that.ends)

pub returns-in_err-as_behaviours-clause-only : goal.returns-in_err-as_behaviours-clause-only
returns-in_err-as_behaviours-clause-only c n others few e =
    let that = that_first c.args.text.now c.in_ok-rest.rest.now c.in_ok-number.rest.now c.in_ok-number.number c.in_ok-rest.ensures c.in_ok-number.ensures.only n others few e in
    absurd (c.in_err-as_behaviours.ensures.none (rw that.same few))

pub returns-clause-spelled : goal.returns-clause-spelled
returns-clause-spelled c =
    let same = c.in_ok-as_behaviours.ensures.some.0 in
    behaviours_spelled c.args.text.now c.in_ok-rest.rest.now c.in_ok-number.rest.now c.in_ok-rest-2.rest.now c.in_ok-as_behaviours.field-0 c.in_ok-rest.ensures (rw same c.in_ok-number.ensures.spelled) c.in_ok-as_behaviours.ensures.some.1 c.in_ok-rest-2.ensures

pub returns-clause-only : goal.returns-clause-only
returns-clause-only c n others few e =
    let that = that_first c.args.text.now c.in_ok-rest.rest.now c.in_ok-number.rest.now c.in_ok-number.number c.in_ok-rest.ensures c.in_ok-number.ensures.only n others few e in
    let same = c.in_ok-as_behaviours.ensures.some.0 in
    (same ∙ that.same, ap lines_of (same_behind c.in_ok-number.rest.now c.in_ok-rest-2.rest.now that.behind c.in_ok-rest-2.ensures that.ends) ∙ that.lines)
