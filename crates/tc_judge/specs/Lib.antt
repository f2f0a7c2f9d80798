-- The definitions that the contracts of this crate cite.
pub mod Check
pub mod Report
pub mod Compared
pub mod Inside
pub mod Prelude
pub use Rattle.tc_stream.specs.Prelude as OfStream
pub use Rattle.tc_text.specs.Prelude as OfText
pub use Rattle.tc_rules.specs.Prelude as OfRules
pub use Rattle.tc_blocks.specs.Prelude as OfBlocks
pub use Rattle.tc_report.specs.Prelude as OfReport
pub use Rattle.tc_command.specs.Prelude as OfCommand
pub use Rattle.tc_step.specs.Prelude as OfStep
pub use Rattle.tc_reader.specs.Prelude as OfReader
pub use Rattle.tc_course.specs.Prelude as OfCourse
pub use Rattle.tc_answer.specs.Prelude as OfAnswer
