-- What one reply says of its call, whether a call is a wake, and the names of the dynamic errors.
use Rattle.std.specs.Prelude.{ℕ, Bool, true, false, List, codes}
use Rattle.tc_entry.specs.declared.{op.Op.Op, reply.Fault.Fault, reply.Reply.Reply}

-- the call was carried out
abbrev pub is_ok : Reply → Bool
is_ok Reply.Ok = true
is_ok _ = false

-- the caller was not the running run of its component
abbrev pub is_ended : Reply → Bool
is_ended Reply.Ended = true
is_ended _ = false

-- the target of a wait does not hold yet: the caller sleeps
abbrev pub is_parked : Reply → Bool
is_parked Reply.Parked = true
is_parked _ = false

-- the call of a caller that slept: is the target of its wait there now
abbrev pub is_wake : Op → Bool
is_wake (Op.Wake killed target) = true
is_wake _ = false

-- the call was a dynamic error
abbrev pub is_fault : Reply → Bool
is_fault (Reply.Fault f) = true
is_fault _ = false

-- the name of a dynamic error
abbrev pub fault_name : Fault → List ℕ
fault_name Fault.NoComponent = codes "no-component"
fault_name Fault.NotMain = codes "not-main"
fault_name Fault.StartMain = codes "start-main"
fault_name Fault.AlreadyRunning = codes "already-running"
fault_name Fault.NotStartable = codes "not-startable"
fault_name Fault.NoBehaviour = codes "no-behaviour"
fault_name Fault.TooMany = codes "too-many"
fault_name Fault.Stuck = codes "stuck"
