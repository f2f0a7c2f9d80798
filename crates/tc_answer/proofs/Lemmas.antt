-- The lemmas that other crates cite.
pub mod Chosen
pub mod Giving
