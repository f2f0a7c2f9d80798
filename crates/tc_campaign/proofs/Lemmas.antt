-- The lemmas that other crates cite.
pub mod Keeping
pub mod Running
