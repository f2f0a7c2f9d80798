-- The lemmas of this crate.
pub mod Lemmas
pub mod Operands
pub mod SoFar
