-- The definitions that the contracts of this crate cite.
pub mod Cause
pub mod Meaning
pub mod InWords
pub mod Said
pub mod Waits
pub mod Summary
pub mod Status
pub mod Progress
pub mod Report
pub mod Replayed
pub mod Csv
pub mod Junit
pub mod Blocks
pub mod SummaryText
pub mod Output
pub mod Observers
pub mod Live
pub mod Inside
pub mod Prelude
pub use Rattle.tc_stream.specs.Prelude as OfStream
pub use Rattle.tc_text.specs.Prelude as OfText
pub use Rattle.tc_rules.specs.Prelude as OfRules
pub use Rattle.tc_blocks.specs.Prelude as OfBlocks
