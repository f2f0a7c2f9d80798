-- The lemmas of this crate.
pub mod Lemmas
pub mod Counting
pub mod Judging
pub mod Beside
pub mod Passing
