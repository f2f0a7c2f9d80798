-- The lemmas of this crate.
pub mod Followed
pub mod Giving
pub mod Lacking
pub mod Starting
pub mod Taking
pub mod TakenIn
pub mod Trying
