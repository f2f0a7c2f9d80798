-- The definitions that the contracts of this crate cite.
pub mod Names
pub mod FirstPass
pub mod Scope
pub mod SecondPass
pub mod Campaign
pub mod Inside
pub mod Text
pub mod Words
pub mod ScriptKind
pub mod Line
pub mod Prelude
pub use Rattle.tc_verdict.specs.Prelude as OfVerdict
pub use Rattle.tc_entry.specs.Prelude as OfEntry
pub use Rattle.tc_step.specs.Prelude as OfStep
