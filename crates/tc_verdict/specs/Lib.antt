-- The definitions that the contracts of this crate cite.
pub mod Verdict
pub mod UserVerdict
pub mod Words
pub mod Prelude
