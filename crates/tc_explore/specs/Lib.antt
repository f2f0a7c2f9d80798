-- The definitions that the contracts of this crate cite.
pub mod Found
pub mod Limits
pub mod Inside
pub mod Prelude
pub use Rattle.tc_rules.specs.Prelude as OfRules
pub use Rattle.tc_step.specs.Prelude as OfStep
pub use Rattle.tc_course.specs.Prelude as OfCourse
