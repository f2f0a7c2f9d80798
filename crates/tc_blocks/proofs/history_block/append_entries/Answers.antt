use Rattle.std.{proofs.Common.{rules, refl, ◌++◌, take}, specs.{Io.StartsWith, List.flat_map}}
use Rattle.tc_blocks.{specs.Inside.entry_line, proofs.Unfinished.starts_before}
use Rattle.tc_blocks.proofs.history_block.append_entries.Goals as goal

pub returns-in_err-append_entry-clause-err : goal.returns-in_err-append_entry-clause-err
returns-in_err-append_entry-clause-err c =
    let old = c.args.out.now.items in
    let lines = flat_map entry_line (take c.loop-entry.entry-index c.args.entries.now) in
    let begins : StartsWith c.append_entry.new.out.items old =
    starts_before old lines (old ++ lines) c.append_entry.new.out.items refl (rw c.loop-entry.invariant at c.in_err-append_entry.ensures.err) in
    search (rules, begins)
