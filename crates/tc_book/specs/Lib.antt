-- The definitions that the contracts of this crate cite.
pub mod OpenCase
pub mod Passes
pub mod Hands
pub mod OneCase
pub mod Closing
pub mod Inside
pub mod Words
pub mod Prelude
pub use Rattle.tc_rules.specs.Prelude as OfRules
pub use Rattle.tc_board.specs.Prelude as OfBoard
