-- The definitions that the contracts of this crate cite.
pub mod Ending
pub mod Gates
pub mod Workers
pub mod Case
pub mod Inside
pub mod Prelude
pub use Rattle.tc_rules.specs.Prelude as OfRules
pub use Rattle.tc_book.specs.Prelude as OfBook
