-- The definitions that the contracts of this crate cite.
pub mod Limits
pub mod Name
pub mod Reply
pub mod Shard
pub mod Inside
pub mod Prelude
