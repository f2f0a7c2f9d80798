use Rattle.std.proofs.Common.{◌≡◌, ◌∙◌, ◌++◌, sym}
use Rattle.tc_text.{specs.Prelude.reply_text, proofs.Lemmas.LinesOf.ends_line}
use Rattle.tc_blocks.proofs.InnerLines.{begins_with_outcome, behind_arrow, ends_at, outcome_spelled, same_lines}
use Rattle.tc_blocks.proofs.history_line.take_outcome.Goals as goal

pub returns-in_err-rest-clause-only : goal.returns-in_err-rest-clause-only
returns-in_err-rest-clause-only g c r others fits lines =
    let begins = begins_with_outcome c.args.text.now r others lines in
    absurd (c.in_err-rest.ensures (reply_text r ++ begins.rest) begins.parts)

pub returns-in_err-reply-clause-only : goal.returns-in_err-reply-clause-only
returns-in_err-reply-clause-only g c r others fits lines =
    let begins = begins_with_outcome c.args.text.now r others lines in
    let arrow : c.in_ok-rest.rest.now ≡ reply_text r ++ begins.rest = behind_arrow c.in_ok-rest.rest.now (reply_text r ++ begins.rest) (sym c.in_ok-rest.ensures ∙ begins.parts) in
    absurd (c.in_err-reply.ensures.only r begins.rest fits (ends_line begins.rest begins.behind begins.ends) arrow)

pub returns-in_err-rest-2-clause-only : goal.returns-in_err-rest-2-clause-only
returns-in_err-rest-2-clause-only g c r others fits lines =
    let begins = begins_with_outcome c.args.text.now r others lines in
    let arrow : c.in_ok-rest.rest.now ≡ reply_text r ++ begins.rest = behind_arrow c.in_ok-rest.rest.now (reply_text r ++ begins.rest) (sym c.in_ok-rest.ensures ∙ begins.parts) in
    let replied = c.in_ok-reply.ensures.only r begins.rest fits (ends_line begins.rest begins.behind begins.ends) arrow in
    absurd (c.in_err-rest-2.ensures begins.behind (ends_at c.in_ok-reply.rest.now begins.rest begins.behind replied.1 begins.ends))

pub returns-clause-spelled : goal.returns-clause-spelled
returns-clause-spelled g c =
    let replied = c.in_ok-reply.ensures in
    outcome_spelled c.args.text.now c.in_ok-rest.rest.now c.in_ok-reply.rest.now c.in_ok-rest-2.rest.now c.in_ok-reply.reply c.in_ok-rest.ensures replied.spelled c.in_ok-rest-2.ensures replied.fits

pub returns-clause-only : goal.returns-clause-only
returns-clause-only g c r others fits lines =
    let begins = begins_with_outcome c.args.text.now r others lines in
    let arrow : c.in_ok-rest.rest.now ≡ reply_text r ++ begins.rest = behind_arrow c.in_ok-rest.rest.now (reply_text r ++ begins.rest) (sym c.in_ok-rest.ensures ∙ begins.parts) in
    let replied = c.in_ok-reply.ensures.only r begins.rest fits (ends_line begins.rest begins.behind begins.ends) arrow in
    (replied.0, same_lines c.in_ok-reply.rest.now begins.rest c.in_ok-rest-2.rest.now begins.behind others replied.1 c.in_ok-rest-2.ensures begins.ends begins.lines)
