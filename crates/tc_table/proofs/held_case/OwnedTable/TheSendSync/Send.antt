-- A place says the same to every thread, since its table does.
use mir.Raw.{raw}
use base.Fraction.{full_share}
use base.Shift.{Keyless}
use denote.Builtin.{RawPtr}
use denote.Memory.{lone}
use denote.RawPtr.{Ptr, block_ptr, null_ptr}
use denote.Param.Send.{IsSend, part_keyless, owning_send, struct_send, sendable}
use denote.Struct.Owning.{shape}
use Rattle.std.{proofs.Crossing.frees, specs.Prelude.{Option, Some, None}}
use Rattle.tc_rules.specs.Standing.{Case}
use Rattle.tc_rules.specs.contracts.table.Table as table
use Rattle.tc_rules.proofs.table.Table.TheSendSync as sent
use Rattle.tc_table.specs.{Calls.owned_at, contracts.held_case.OwnedTable.{the_row, the_type}}

keyless : (p : Ptr) (case : Option Case) → Keyless (owned_at p case)
keyless p None = tt
keyless (block_ptr b o) (Some x) = λ a. (part_keyless table.the_row sent.the_send full_share x b o, frees.frees a (raw (lone (table.the_row).mir)) (block_ptr b o))
keyless null_ptr (Some x) = λ a. (tt, frees.frees a (raw (lone (table.the_row).mir)) null_ptr)

pointer : IsSend RawPtr
pointer = search sendable

pub send : IsSend the_row
send = owning_send the_type (pointer, tt) (λ k. keyless k.at k.case) (λ k x w. (struct_send (shape the_type) (pointer, tt)).leaving k (x.at, tt) w)
