-- The lemmas of this crate.
pub mod Changes
pub mod Evident
pub mod Feeding
pub mod Orders
pub mod Settled
pub mod Sleeping
pub mod Trying
