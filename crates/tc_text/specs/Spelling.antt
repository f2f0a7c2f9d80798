-- The one spelling of each move and each reply; it is this project's own.
use Rattle.std.specs.{Prelude.{ℕ, ◌<◌, ◌≤◌, ◌^◌, Some, IfSome, if◌then◌else◌, List, [], ◌++◌, length, codes}, Fmt.decimal, List.{flat_map, AllByRecursion}, Option.option_map_or}
use Rattle.tc_entry.specs.{declared.comp.Comp.Comp, declared.limits.TheConstants.ARGUMENTS, declared.op.Group.Group, declared.op.Op.Op, declared.op.Target.Target, declared.reply.Reply.Reply, Prelude.{IsName, fault_name, given, name_of}}

-- a component by its number, or all of them
abbrev pub group_text : Group → List ℕ
group_text (Group.One c) = decimal c.0
group_text Group.All = codes "all"

-- a component by its number, any or all of them
abbrev pub target_text : Target → List ℕ
target_text (Target.One c) = decimal c.0
target_text Target.Any = codes "any"
target_text Target.All = codes "all"

-- an operation with more to it than others: a start, and a create with a name
abbrev pub IsLong : Op → Type 0
IsLong (Op.Start c run args) = Unit {0}
IsLong (Op.Create alive (Some name)) = Unit {0}
IsLong _ = ⊥

-- an operation, without its caller
abbrev pub op_text : Op → List ℕ
op_text (Op.Create alive name) = codes "create" ++ ((if alive then codes " alive" else []) ++ option_map_or (λ n. codes " named " ++ n) name [])
op_text (Op.Start c run args) = codes "start " ++ (decimal c.0 ++ (codes " " ++ (decimal run.0 ++ flat_map (λ a. codes " " ++ decimal a.0) args)))
op_text (Op.Stop g) = codes "stop " ++ group_text g
op_text (Op.Kill g) = codes "kill " ++ group_text g
op_text Op.StopCase = codes "stopcase"
op_text (Op.Running t) = codes "running " ++ target_text t
op_text (Op.Alive t) = codes "alive " ++ target_text t
op_text (Op.Done t) = codes "done " ++ target_text t
op_text (Op.Killed t) = codes "killed " ++ target_text t
op_text (Op.Wait killed t) = (if killed then codes "wait killed " else codes "wait done ") ++ target_text t
op_text (Op.Wake killed t) = (if killed then codes "wake killed " else codes "wake done ") ++ target_text t
op_text (Op.SetVerdict v) = codes "setverdict " ++ name_of (given v)
op_text Op.GetVerdict = codes "getverdict"
op_text Op.Finish = codes "finish"

-- a move: the number of the caller's run, a space, and the operation
abbrev pub move_text : ℕ → Op → List ℕ
move_text run op = decimal run ++ (codes " " ++ op_text op)

-- a reply
abbrev pub reply_text : Reply → List ℕ
reply_text (Reply.Made c) = codes "made " ++ decimal c.0
reply_text Reply.Ok = codes "ok"
reply_text (Reply.Answer holds) = if holds then codes "true" else codes "false"
reply_text (Reply.Local v) = name_of v
reply_text Reply.Matched = codes "matched"
reply_text Reply.Parked = codes "parked"
reply_text Reply.Ended = codes "ended"
reply_text (Reply.Fault f) = codes "error " ++ fault_name f

-- the number of a component has 32 bits
abbrev pub IsComp : Comp → Type 0
IsComp c = c.0 < 2 ^ 32

-- a group whose component's number has 32 bits
abbrev pub IsGroup : Group → Type 0
IsGroup (Group.One c) = IsComp c
IsGroup Group.All = Unit {0}

-- a target whose component's number has 32 bits
abbrev pub IsTarget : Target → Type 0
IsTarget (Target.One c) = IsComp c
IsTarget _ = Unit {0}

-- an operation whose numbers are those of their types, with at most four arguments, and whose name is one
abbrev pub IsOp : Op → Type 0
IsOp (Op.Create alive name) = IfSome name IsName
IsOp (Op.Start c run args) = IsComp c × (run.0 < 2 ^ 16) × (length args ≤ ARGUMENTS) × AllByRecursion IsComp args
IsOp (Op.Stop g) = IsGroup g
IsOp (Op.Kill g) = IsGroup g
IsOp (Op.Running t) = IsTarget t
IsOp (Op.Alive t) = IsTarget t
IsOp (Op.Done t) = IsTarget t
IsOp (Op.Killed t) = IsTarget t
IsOp (Op.Wait k t) = IsTarget t
IsOp (Op.Wake k t) = IsTarget t
IsOp _ = Unit {0}

-- a reply whose component's number has 32 bits
abbrev pub IsReply : Reply → Type 0
IsReply (Reply.Made c) = IsComp c
IsReply _ = Unit {0}
