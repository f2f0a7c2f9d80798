use Rattle.std.proofs.lemmas.Result.{on_ok_weaker}
use Rattle.tc_report.proofs.Writing.{all_appended}
use Rattle.tc_report.proofs.blocks.append_named_block.Goals as goal

pub returns : goal.returns
returns c =
    on_ok_weaker c.append_end.result
    (all_appended c.args.header.now c.args.names.now c.args.history.now c.args.verdict _ _ _ _ _ c.in_ok-append_first_line.ensures.ok c.in_ok-append_namings.ensures c.in_ok-append_entries.ensures.ok)
    c.append_end.ensures.ok
