-- The definitions that the contracts of this crate cite.
pub mod Sentence
pub mod Line
pub mod Limit
pub mod Met
pub mod Block
pub mod Text
pub mod Laws
pub mod Histories
pub mod Inside
pub mod HistoryBlock
pub mod HistoryText
pub mod Prelude
pub use Rattle.tc_stream.specs.Prelude as OfStream
pub use Rattle.tc_text.specs.Prelude as OfText
pub use Rattle.tc_rules.specs.Prelude as OfRules
