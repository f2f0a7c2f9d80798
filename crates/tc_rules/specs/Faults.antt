-- The dynamic errors, in the order in which they are found. The eight errors are this project's own.
use Rattle.std.specs.{Prelude.{ℕ, ◌==◌, ◌&&◌, ◌||◌, not, nat_le, if◌then◌else◌, Bool, Option, Some, None, is_some, List, [], ◌∷◌, length}, List.list_all, Option.{option_map, option_map_or}}
use Rattle.tc_entry.specs.declared.{comp.Comp.Comp, entry.Entry.Entry, limits.TheConstants.COMPONENTS, op.Group.Group, op.Op.Op, op.Target.Target, reply.Fault.Fault}
use Rattle.tc_rules.specs.{History.comp_of, History.comps, History.exists, Phases.phase, Status.is_killed, Status.is_running, Waiting.awaited}

-- the target of a call that has one
abbrev pub target_of : Op → Option Target
target_of (Op.Stop (Group.One c)) = Some (Target.One c)
target_of (Op.Stop Group.All) = Some Target.All
target_of (Op.Kill (Group.One c)) = Some (Target.One c)
target_of (Op.Kill Group.All) = Some Target.All
target_of (Op.Running t) = Some t
target_of (Op.Alive t) = Some t
target_of (Op.Done t) = Some t
target_of (Op.Killed t) = Some t
target_of op = option_map (λ a. a.target) (awaited op)

-- the component that a target names: Any and All name none
abbrev pub target_names : Target → List Comp
target_names (Target.One c) = c ∷ []
target_names _ = []

-- the components named in a call
abbrev pub names : Op → List Comp
names (Op.Start c run args) = c ∷ args
names op = option_map_or target_names (target_of op) []

-- each of these components exists
unfoldable pub all_exist : List Entry → List Comp → Bool
all_exist past cs = list_all (λ c. exists past c.0) cs

-- the error of a Start of component c with run b, among n behaviours
unfoldable pub start_fault : ℕ → List Entry → ℕ → ℕ → Option Fault
start_fault n past c b =
    if c == 0 then Some Fault.StartMain
    else if is_running (phase past c) then Some Fault.AlreadyRunning
    else if is_killed (phase past c) then Some Fault.NotStartable
    else if (b == 0) || nat_le n b || is_some (comp_of past b) then Some Fault.NoBehaviour
    else None

-- how many components exist, the main one among them
unfoldable pub components : List Entry → ℕ
components past = length (comps past)

-- the error of a call that names components that exist: of a Create, and of a Start
abbrev pub special_fault : ℕ → List Entry → Op → Option Fault
special_fault n past (Op.Create alive name) = if nat_le COMPONENTS (components past) then Some Fault.TooMany else None
special_fault n past (Op.Start c run args) = start_fault n past c.0 run.0
special_fault n past _ = None

-- the dynamic error of the call by run b, if it is one
unfoldable pub fault : ℕ → List Entry → ℕ → Op → Option Fault
fault n past b op =
    if not (all_exist past (names op)) then Some Fault.NoComponent
    else if (is_some (target_of op) && (length (names op) == 0)) && not (b == 0) then Some Fault.NotMain
    else special_fault n past op
