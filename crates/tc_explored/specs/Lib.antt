-- The definitions that the contracts of this crate cite.
pub mod Details
pub mod Line
pub mod Prelude
pub mod Race
pub mod Steps
pub use Rattle.tc_text.specs.Prelude as OfText
pub use Rattle.tc_rules.specs.Prelude as OfRules
pub use Rattle.tc_blocks.specs.Prelude as OfBlocks
pub use Rattle.tc_report.specs.Prelude as OfReport
pub use Rattle.tc_step.specs.Prelude as OfStep
pub use Rattle.tc_course.specs.Prelude as OfCourse
