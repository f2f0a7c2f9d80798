-- The lemmas of this crate.
pub mod Held
pub mod Lemmas
pub mod Splitting
