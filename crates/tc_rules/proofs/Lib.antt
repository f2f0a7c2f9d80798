-- The lemmas of this crate.
pub mod Lemmas
pub mod WorkedCases
pub mod Making
pub mod Settled
pub mod Runs
pub mod Counting
pub mod Determined
pub mod Named
pub mod Elsewhere
pub mod Unchanged
