-- The lemmas of this crate.
pub mod Lemmas
pub mod Followed
pub mod Taking
