-- The lemmas that other crates cite.
pub mod Calls
pub mod Logs
pub mod Taking
