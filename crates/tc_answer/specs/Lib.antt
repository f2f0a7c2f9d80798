-- The definitions that the contracts of this crate cite.
pub mod Choosing
pub mod Fault
pub mod Input
pub mod Page
pub mod Stderr
pub mod Inside
pub mod Prelude
pub use Rattle.tc_stream.specs.Prelude as OfStream
pub use Rattle.tc_text.specs.Prelude as OfText
pub use Rattle.tc_rules.specs.Prelude as OfRules
pub use Rattle.tc_command.specs.Prelude as OfCommand
pub use Rattle.tc_step.specs.Prelude as OfStep
pub use Rattle.tc_reader.specs.Prelude as OfReader
