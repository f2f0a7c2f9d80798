-- What the laws of legal histories speak of, and what operations do. The laws are the contracts of functions.
use Rattle.std.specs.Prelude.{None}
use Rattle.tc_entry.specs.declared.{entry.Entry.Entry, op.Op.Op}
pub use Rattle.tc_rules.specs.Inside.Laws.{halting_op, is_quiet, keeps_phases, lets_go_on, may_halt}

-- the operation, without the name that a Create may give
abbrev pub unnamed_op : Op → Op
unnamed_op (Op.Create alive name) = Op.Create alive None
unnamed_op op = op

-- the entry, without the name that it may give
abbrev pub unnamed : Entry → Entry
unnamed e = record e { op = unnamed_op e.op }
