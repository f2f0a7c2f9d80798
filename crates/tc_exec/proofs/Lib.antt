-- The lemmas of this crate.
pub mod Lists
pub mod Gates
pub mod Lemmas
pub mod Reporting
