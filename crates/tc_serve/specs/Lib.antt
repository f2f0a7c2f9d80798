-- The definitions that the contracts of this crate cite.
pub mod Protocol
pub mod Serve
pub mod Inside
pub mod Laws
pub mod Prelude
pub use Rattle.tc_stream.specs.Prelude as OfStream
pub use Rattle.tc_text.specs.Prelude as OfText
pub use Rattle.tc_rules.specs.Prelude as OfRules
pub use Rattle.tc_blocks.specs.Prelude as OfBlocks
