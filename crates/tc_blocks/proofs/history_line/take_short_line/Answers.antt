use Rattle.std.proofs.Common.{◌∙◌, ap}
use Rattle.tc_text.specs.Prelude.{lines_of, op_of}
use Rattle.tc_blocks.{specs.Inside.short_entry, proofs.InnerLines.{begins_with_move, entry_and_outcome, no_name, same_parts, short_unnamed}}
use Rattle.tc_blocks.proofs.history_line.take_short_line.Goals as goal

pub returns-in_default-clause-only : goal.returns-in_default-clause-only
returns-in_default-clause-only g c format e others fits lines =
    let begins = begins_with_move c.args.text.now format e others fits lines in
    c.in_default.ensures.only e.caller.0 e.op begins.rest fits.caller fits.op begins.ends begins.parts

pub returns-in_err-reply-clause-only : goal.returns-in_err-reply-clause-only
returns-in_err-reply-clause-only g c format e others fits lines =
    let begins = begins_with_move c.args.text.now format e others fits lines in
    let moved = c.in-Some.ensures.only e.caller.0 e.op begins.rest fits.caller fits.op begins.ends begins.parts in
    absurd (c.in_err-reply.ensures.only e.reply others fits.reply (ap lines_of moved.2 ∙ begins.lines))

pub returns-clause-spelled : goal.returns-clause-spelled
returns-clause-spelled g c =
    let moved = c.in-Some.ensures in
    let replied = c.in_ok-reply.ensures in
    entry_and_outcome c.args.text.now c.in-Some.rest.now c.in_ok-reply.rest.now 2 (short_entry c.in-Some.caller c.in-Some.op c.in_ok-reply.reply) moved.spelled replied.spelled
    (record { caller = moved.fits.0; op = moved.fits.1; reply = replied.fits; names = λ one. no_name (op_of c.in-Some.op) (short_unnamed c.in-Some.op) })

pub returns-clause-fits : goal.returns-clause-fits
returns-clause-fits g c format =
    let moved = c.in-Some.ensures in
    record { caller = moved.fits.0; op = moved.fits.1; reply = c.in_ok-reply.ensures.fits; names = λ one. no_name (op_of c.in-Some.op) (short_unnamed c.in-Some.op) }

pub returns-clause-only : goal.returns-clause-only
returns-clause-only g c format e others fits lines =
    let begins = begins_with_move c.args.text.now format e others fits lines in
    let moved = c.in-Some.ensures.only e.caller.0 e.op begins.rest fits.caller fits.op begins.ends begins.parts in
    let replied = c.in_ok-reply.ensures.only e.reply others fits.reply (ap lines_of moved.2 ∙ begins.lines) in
    (same_parts c.in-Some.caller (op_of c.in-Some.op) c.in_ok-reply.reply e moved.0 moved.1 replied.0, replied.1)
