-- The definitions that the contracts of this crate cite.
pub mod Calls
pub mod Inside
pub mod Laws
pub mod Prelude
pub use Rattle.tc_rules.specs.Prelude as OfRules
pub use Rattle.tc_book.specs.Prelude as OfBook
pub use Rattle.tc_step.specs.Prelude as OfStep
pub use Rattle.tc_exec.specs.Prelude as OfExec
pub use Rattle.tc_course.specs.Prelude as OfCourse
