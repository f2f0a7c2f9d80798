-- The lemmas of this crate.
pub mod Lemmas
pub mod Patterns
pub mod Padded
