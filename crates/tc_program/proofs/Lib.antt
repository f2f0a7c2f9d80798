-- The lemmas of this crate.
pub mod Doing
pub mod Modelling
pub mod Replays
pub mod OwnCases
pub mod Exploring
pub mod WrittenHistories
pub mod Reporting
