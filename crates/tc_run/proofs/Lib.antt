-- The lemmas of this crate.
pub mod Lemmas
pub mod Running
pub mod Telling
