-- The definitions that the contracts of this crate cite.
pub mod Spelling
pub mod MoveList
pub mod Reading
pub mod Said
pub mod Inside
pub mod Prelude
pub use Rattle.tc_verdict.specs.Prelude as OfVerdict
pub use Rattle.tc_entry.specs.Prelude as OfEntry
