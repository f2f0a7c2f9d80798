-- How a step is printed: as a script spells it, except that components have their place, and behaviours their run.
use Rattle.std.specs.{Prelude.{ℕ, ◌+◌, if◌then◌else◌, List, [], ◌++◌, codes}, Fmt.decimal, List.flat_map}
use Rattle.tc_text.specs.Prelude.{op_text}
use Rattle.tc_step.specs.{Prelude.operation, declared.{place.{GroupPlace.GroupPlace, Place.Place, TargetPlace.TargetPlace}, step.{Status.Status, Step.Step}}}

-- a component
abbrev pub place_text : Place ℕ → List ℕ
place_text Place.Main = codes " mtc"
place_text Place.Own = codes " self"
place_text (Place.Bound k) = codes " #" ++ decimal (k + 1)

-- what is asked
abbrev pub status_text : Status → List ℕ
status_text Status.Running = codes "running"
status_text Status.Alive = codes "alive"
status_text Status.Done = codes "done"
status_text Status.Killed = codes "killed"

-- a step; one that names no component is spelled as the operation that it calls
abbrev pub step_text : Step → List ℕ
step_text (Step.Start on run args) = codes "start" ++ (place_text on ++ (codes " run " ++ (decimal run.0 ++ flat_map place_text args)))
step_text (Step.Stop (GroupPlace.One p)) = codes "stop" ++ place_text p
step_text (Step.Kill (GroupPlace.One p)) = codes "kill" ++ place_text p
step_text (Step.Ask status (TargetPlace.One p)) = status_text status ++ place_text p
step_text (Step.Wait killed (TargetPlace.One p)) = (if killed then codes "wait killed" else codes "wait done") ++ place_text p
step_text s = op_text (operation (record { 0 = 0 }) [] s)
