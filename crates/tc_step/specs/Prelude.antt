-- What other crates cite of these definitions.
pub use Rattle.tc_step.specs.{Operation.{component, operation, question, target}, Steps.{AreBound, IsBound, IsScript, ScriptView, group_map, of_group, of_target, place_map, target_map}}
