use Rattle.std.proofs.Common.{◌∙◌, ◌++◌, sym}
use Rattle.tc_rules.specs.Prelude.{name_of}
use Rattle.tc_blocks.proofs.InnerLines.{begins_with_end, behind_end, end_spelled, ends_at, same_lines}
use Rattle.tc_blocks.proofs.history_line.take_end_line.Goals as goal

pub returns-in_err-rest-clause-only : goal.returns-in_err-rest-clause-only
returns-in_err-rest-clause-only c v others lines =
    let begins = begins_with_end c.args.text.now v others lines in
    absurd (c.in_err-rest.ensures (name_of v ++ begins.rest) begins.parts)

pub returns-in_err-verdict-clause-only : goal.returns-in_err-verdict-clause-only
returns-in_err-verdict-clause-only c v others lines =
    let begins = begins_with_end c.args.text.now v others lines in
    absurd (c.in_err-verdict.ensures.only v begins.rest (behind_end c.in_ok-rest.rest.now (name_of v ++ begins.rest) (sym c.in_ok-rest.ensures ∙ begins.parts)))

pub returns-in_err-rest-2-clause-only : goal.returns-in_err-rest-2-clause-only
returns-in_err-rest-2-clause-only c v others lines =
    let begins = begins_with_end c.args.text.now v others lines in
    let two = c.in_ok-verdict.ensures.only v begins.rest (behind_end c.in_ok-rest.rest.now (name_of v ++ begins.rest) (sym c.in_ok-rest.ensures ∙ begins.parts)) in
    absurd (c.in_err-rest-2.ensures begins.behind (ends_at c.in_ok-verdict.rest.now begins.rest begins.behind two.1 begins.ends))

pub returns-clause-spelled : goal.returns-clause-spelled
returns-clause-spelled c =
    end_spelled c.args.text.now c.in_ok-rest.rest.now c.in_ok-verdict.rest.now c.in_ok-rest-2.rest.now c.in_ok-verdict.verdict c.in_ok-rest.ensures c.in_ok-verdict.ensures.spelled c.in_ok-rest-2.ensures

pub returns-clause-only : goal.returns-clause-only
returns-clause-only c v others lines =
    let begins = begins_with_end c.args.text.now v others lines in
    let two = c.in_ok-verdict.ensures.only v begins.rest (behind_end c.in_ok-rest.rest.now (name_of v ++ begins.rest) (sym c.in_ok-rest.ensures ∙ begins.parts)) in
    (two.0, same_lines c.in_ok-verdict.rest.now begins.rest c.in_ok-rest-2.rest.now begins.behind others two.1 c.in_ok-rest-2.ensures begins.ends begins.lines)
