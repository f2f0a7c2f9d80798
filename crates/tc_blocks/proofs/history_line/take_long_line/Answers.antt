use Rattle.std.proofs.Common.{◌≡◌, ◌∙◌, false, true, ap, refl}
use Rattle.tc_rules.specs.Prelude.{Run, Op}
use Rattle.tc_text.specs.Prelude.{lines_of}
use Rattle.tc_blocks.proofs.InnerLines.{begins_with_move, entry_and_outcome, no_name, same_entry, unnamed}
use Rattle.tc_blocks.proofs.history_line.take_long_line.Goals as goal

pub returns-in_err-caller-clause-only : goal.returns-in_err-caller-clause-only
returns-in_err-caller-clause-only c e others long fits lines =
    let begins = begins_with_move c.args.text.now c.args.format e others fits lines in
    absurd (c.in_err-caller.ensures.only e.caller.0 e.op begins.rest long fits.caller fits.op begins.ends begins.parts)

pub returns-then-not-may_have-clause-only : goal.returns-then-not-may_have-clause-only
returns-then-not-may_have-clause-only c e others long fits lines =
    let begins = begins_with_move c.args.text.now c.args.format e others fits lines in
    let moved = c.in_ok-caller.ensures.only e.caller.0 e.op begins.rest long fits.caller fits.op begins.ends begins.parts in
    let operation = ap (λ (p : Run × Op). p.1) moved.0 in
    let refused : false ≡ true = c.if-not-may_have.ensures.1 (λ one. rw operation (unnamed e.op (fits.names one))) in
    absurd cc

pub returns-in_err-reply-clause-only : goal.returns-in_err-reply-clause-only
returns-in_err-reply-clause-only c e others long fits lines =
    let begins = begins_with_move c.args.text.now c.args.format e others fits lines in
    let moved = c.in_ok-caller.ensures.only e.caller.0 e.op begins.rest long fits.caller fits.op begins.ends begins.parts in
    absurd (c.in_err-reply.ensures.only e.reply others fits.reply (ap lines_of moved.1 ∙ begins.lines))

pub returns-clause-spelled : goal.returns-clause-spelled
returns-clause-spelled c =
    let moved = c.in_ok-caller.ensures in
    let replied = c.in_ok-reply.ensures in
    entry_and_outcome c.args.text.now c.in_ok-caller.rest.now c.in_ok-reply.rest.now c.args.format
    (record { caller = c.in_ok-caller.caller; op = c.in_ok-caller.op; reply = c.in_ok-reply.reply }) moved.spelled replied.spelled
    (record { caller = moved.fits.0; op = moved.fits.1; reply = replied.fits; names = λ one. no_name c.in_ok-caller.op (c.if-not-may_have.ensures.0 refl one) })

pub returns-clause-only : goal.returns-clause-only
returns-clause-only c e others long fits lines =
    let begins = begins_with_move c.args.text.now c.args.format e others fits lines in
    let moved = c.in_ok-caller.ensures.only e.caller.0 e.op begins.rest long fits.caller fits.op begins.ends begins.parts in
    let replied = c.in_ok-reply.ensures.only e.reply others fits.reply (ap lines_of moved.1 ∙ begins.lines) in
    (same_entry c.in_ok-caller.caller c.in_ok-caller.op c.in_ok-reply.reply e moved.0 replied.0, replied.1)
