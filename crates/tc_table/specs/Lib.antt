-- The definitions that the contracts of this crate cite.
pub mod Calls
pub use Rattle.tc_blocks.specs.Prelude as OfBlocks
pub use Rattle.tc_text.specs.Prelude as OfText
pub use Rattle.tc_rules.specs.Prelude as OfRules
