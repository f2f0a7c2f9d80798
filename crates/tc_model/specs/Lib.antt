-- The definitions that the contracts of this crate cite.
pub mod Inside
pub mod Models
pub mod Naming
pub mod Reasons
pub mod Prelude
pub use Rattle.tc_blocks.specs.Prelude as OfBlocks
pub use Rattle.tc_course.specs.Prelude as OfCourse
pub use Rattle.tc_reader.specs.Prelude as OfReader
pub use Rattle.tc_rules.specs.Prelude as OfRules
pub use Rattle.tc_step.specs.Prelude as OfStep
