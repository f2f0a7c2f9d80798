-- The lemmas of this crate.
pub mod Carrying
pub mod Giving
pub mod Lemmas
pub mod Logging
