-- The lemmas of this crate.
pub mod Lemmas
pub mod Counting
pub mod Overalls
pub mod Plain
pub mod Replaying
pub mod Waiting
pub mod Writing
