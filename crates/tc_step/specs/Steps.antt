-- The components that a group and a target name, and what a script is: steps whose places are bound before them.
use Rattle.std.specs.Prelude.{ℕ, ◌+◌, ◌<◌, ◌≤◌, List, [], ◌∷◌, length, All}
use Rattle.tc_entry.specs.declared.limits.TheConstants.{ARGUMENTS}
use Rattle.tc_step.specs.declared.{place.GroupPlace.GroupPlace, place.Place.Place, place.TargetPlace.TargetPlace, step.Step.Step}

-- the place with the value at a bound one
abbrev pub place_map : {B C : Type 0} → (B → C) → Place B → Place C
place_map f Place.Main = Place.Main
place_map f Place.Own = Place.Own
place_map f (Place.Bound b) = Place.Bound (f b)

-- the group with the value at its one place
abbrev pub group_map : {X Y : Type 0} → (X → Y) → GroupPlace X → GroupPlace Y
group_map f (GroupPlace.One x) = GroupPlace.One (f x)
group_map f GroupPlace.All = GroupPlace.All

-- the target with the value at its one place
abbrev pub target_map : {X Y : Type 0} → (X → Y) → TargetPlace X → TargetPlace Y
target_map f (TargetPlace.One x) = TargetPlace.One (f x)
target_map f TargetPlace.Any = TargetPlace.Any
target_map f TargetPlace.All = TargetPlace.All

-- a script: the number of its parameters, and its steps in their order
pub record ScriptView : Type 0 where
  pub parameters : ℕ
  pub steps : List Step

-- the places that a group names
abbrev pub of_group : {P : Type 0} → GroupPlace P → List P
of_group (GroupPlace.One p) = p ∷ []
of_group GroupPlace.All = []

-- the places that a target names
abbrev pub of_target : {P : Type 0} → TargetPlace P → List P
of_target (TargetPlace.One p) = p ∷ []
of_target _ = []

-- the places that a step names
abbrev pub places : Step → List (Place ℕ)
places (Step.Start on run args) = on ∷ args
places (Step.Stop g) = of_group g
places (Step.Kill g) = of_group g
places (Step.Ask status t) = of_target t
places (Step.Wait killed t) = of_target t
places _ = []

-- the place is one of a behaviour that has that many components bound
abbrev pub IsBound : ℕ → Place ℕ → Type 0
IsBound count (Place.Bound k) = k < count
IsBound count _ = Unit {0}

-- how many components are bound after a step
abbrev pub count_after : ℕ → Step → ℕ
count_after count (Step.Create alive name) = count + 1
count_after count _ = count

-- each place of each step is bound before the step, that many components being bound before the first step
abbrev pub AreBound : ℕ → List Step → Type 0
AreBound count [] = Unit {0}
AreBound count (s ∷ steps) = All (IsBound count) (places s) × AreBound (count_after count s) steps

-- a script has few parameters and few steps, and its places are bound
pub record IsScript (parameters : ℕ) (steps : List Step) : Type 0 where
  pub few_parameters : parameters ≤ ARGUMENTS
  pub few_steps : length steps ≤ 1000
  pub bound : AreBound parameters steps
