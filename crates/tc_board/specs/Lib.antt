-- The definitions that the contracts of this crate cite.
pub mod Answers
pub mod Rule
pub mod Hand
pub mod Keeper
pub mod Board
pub mod Inside
pub mod Prelude
pub use Rattle.tc_entry.specs.Prelude as OfEntry
