-- The lemmas that other crates cite.
pub mod Keeping
pub mod Pieces
pub mod Telling
