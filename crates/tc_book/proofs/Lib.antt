-- The lemmas of this crate.
pub mod Keeping
pub mod Waking
pub mod Lemmas
pub mod ByRun
pub mod Length
pub mod InPlace
pub mod PartOfMerge
mod WorkedCases
pub mod Joining
pub mod Reporting
pub mod Handed
pub mod Wholeness
pub mod Skipping
pub mod Walking
pub mod Opened
pub mod Settling
pub mod Lagging
pub mod Newest
