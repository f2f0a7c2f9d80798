-- The lemmas of this crate.
pub mod Binding
pub mod Lawful
pub mod Placed
pub mod Sound
pub mod Making
pub mod Walked
pub mod WalkedText
pub mod Naming
pub mod Skipping
pub mod Taking
pub mod Stepping
