-- The lemmas that other crates cite.
pub mod Reports
pub mod Running
pub mod Spelled
