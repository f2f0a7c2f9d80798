-- The lemmas that other crates cite.
pub mod Names
