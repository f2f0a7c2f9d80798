-- The definitions that the contracts of this crate cite.
pub mod History
pub mod Phases
pub mod Status
pub mod Local
pub mod Waiting
pub mod Faults
pub mod Answers
pub mod Legal
pub mod Laws
pub mod Deciding
pub mod Standing
pub mod Inside
pub mod Merge
pub mod Report
pub mod Prelude
pub use Rattle.tc_entry.specs.Prelude as OfEntry
