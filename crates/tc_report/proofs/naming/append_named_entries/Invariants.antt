use Rattle.std.{proofs.Common.{◌≡◌, ◌++◌, take}, specs.List.flat_map}
use Rattle.tc_report.specs.InWords.{named_entry}
use Rattle.tc_report.proofs.naming.append_named_entries.Given as goal

abbrev pub invariant-loop-entry : goal.invariant-loop-entry
invariant-loop-entry l = l.out.items ≡ l.fn.out.items ++ flat_map (named_entry l.front l.names) (take l.entry-index l.entries)
