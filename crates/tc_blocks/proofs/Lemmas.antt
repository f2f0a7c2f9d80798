-- The lemmas that other crates cite.
pub mod Bytes
pub mod Histories
pub mod Meeting
pub mod WrittenEvidence
pub mod Notes
