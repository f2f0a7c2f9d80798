-- What other crates cite of these definitions.
unfoldable pub use Rattle.tc_course.specs.Course.{turn}
pub use Rattle.tc_course.specs.{Course.{CannotGo, IsNext, IsOn, CourseState, IsComplete, IsCourse, IsTurn, after_other_by, after_own, carried_on, goes_on, next, stand, steps_of, turn_on}, Inside.is_idle, Witnesses.{AllFound, AreLegal, AreWitnesses, IsShown, IsWitness, is_found, is_local}}
