use Rattle.std.proofs.Common.{◌≡◌, ◌∙◌, map, ap, sym, rules}
use Rattle.tc_text.specs.declared.fault.TextFault.{TextFault}
use Rattle.tc_blocks.{specs.{Histories.IsHistoryHeader, Laws.history_of, Text.IsFault}, proofs.PartByPart.fault_only}
use Rattle.tc_blocks.proofs.read.read_history.Goals as goal

pub returns-in_err-blocks-clause-fault : goal.returns-in_err-blocks-clause-fault
returns-in_err-blocks-clause-fault c =
    let bad : IsFault IsHistoryHeader c.args.text.now c.in_err-blocks.field-0.0 = c.in_err-blocks.ensures.fault in
    search (rules, bad)

pub returns-in_err-blocks-clause-only : goal.returns-in_err-blocks-clause-only
returns-in_err-blocks-clause-only c all are =
    let only : c.in_err-blocks.field-0.0 ≡ TextFault.NoMemory = fault_only IsHistoryHeader c.args.text.now c.in_err-blocks.field-0.0 are.0 c.in_err-blocks.ensures.fault are.1 in
    search (rules, only)

pub returns-clause-ok : goal.returns-clause-ok
returns-clause-ok c =
    let read = c.in_ok-blocks.ensures.ok in
    (read.blocks, read.text_is, c.in_ok-histories_of.ensures ∙ ap (map history_of) (c.as_slice.ensures ∙ read.made_is read.blocks read.text_is))

pub returns-clause-only : goal.returns-clause-only
returns-clause-only c all are =
    let read = c.in_ok-blocks.ensures.ok in
    c.in_ok-histories_of.ensures ∙ (ap (map history_of) (c.as_slice.ensures ∙ read.made_is are.0 are.1) ∙ sym are.2)
