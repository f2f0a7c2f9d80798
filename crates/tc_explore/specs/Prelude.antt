-- What other crates cite of these definitions.
pub use Rattle.tc_explore.specs.{Found.{AreAllMet, AreFromBest, AreReached, HasCourses, AllLocalsFound, AreLocals}, Limits.{IsAtLimit, most_states}}
