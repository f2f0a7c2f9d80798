-- What the steps of a script call, by the component of the behaviour and those that are bound in it.
use Rattle.std.specs.Prelude.{ℕ, List, map, slice_index_or}
use Rattle.tc_entry.specs.declared.{comp.Comp.Comp, op.Group.Group, op.Op.Op, op.Target.Target}
use Rattle.tc_step.specs.declared.{place.GroupPlace.GroupPlace, place.Place.Place, place.TargetPlace.TargetPlace, step.Status.Status, step.Step.Step}

-- the component that a place names, by the behaviour's own component and those that are bound; a script names none but these
abbrev pub component : Comp → List Comp → Place ℕ → Comp
component me bound Place.Main = record { 0 = 0 }
component me bound Place.Own = me
component me bound (Place.Bound k) = slice_index_or bound k (record { 0 = 0 })

-- the group that a step names, with the component of its place
abbrev pub group : Comp → List Comp → GroupPlace (Place ℕ) → Group
group me bound (GroupPlace.One p) = Group.One (component me bound p)
group me bound GroupPlace.All = Group.All

-- the target that a step names, with the component of its place
abbrev pub target : Comp → List Comp → TargetPlace (Place ℕ) → Target
target me bound (TargetPlace.One p) = Target.One (component me bound p)
target me bound TargetPlace.Any = Target.Any
target me bound TargetPlace.All = Target.All

-- the operation that asks for a status
abbrev pub question : Status → Target → Op
question Status.Running t = Op.Running t
question Status.Alive t = Op.Alive t
question Status.Done t = Op.Done t
question Status.Killed t = Op.Killed t

-- the operation that a step calls
abbrev pub operation : Comp → List Comp → Step → Op
operation me bound (Step.Create alive name) = Op.Create alive name
operation me bound (Step.Start on run args) = Op.Start (component me bound on) run (map (component me bound) args)
operation me bound (Step.Stop g) = Op.Stop (group me bound g)
operation me bound (Step.Kill g) = Op.Kill (group me bound g)
operation me bound (Step.Ask status t) = question status (target me bound t)
operation me bound (Step.Wait killed t) = Op.Wait killed (target me bound t)
operation me bound (Step.SetVerdict v) = Op.SetVerdict v
operation me bound Step.StopCase = Op.StopCase
operation me bound Step.GetVerdict = Op.GetVerdict
