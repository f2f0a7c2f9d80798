-- The definitions that the contracts of this crate cite.
pub mod Explanation
pub mod Prelude
pub use Rattle.tc_text.specs.Prelude as OfText
pub use Rattle.tc_reader.specs.Prelude as OfReader
