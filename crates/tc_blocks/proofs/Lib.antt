-- The lemmas of this crate.
pub mod BlockBytes
pub mod Headers
pub mod InsideLines
pub mod Lemmas
pub mod NextLines
pub mod PartByPart
pub mod Unfinished
pub mod InnerLines
