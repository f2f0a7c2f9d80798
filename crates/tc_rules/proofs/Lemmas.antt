-- The lemmas that other crates cite.
pub mod Decided
pub mod Deciding
pub mod Differing
pub mod Fresh
pub mod Going
pub mod Keeping
pub mod Kept
pub mod LawsOfHistories
pub mod Numbered
pub mod Numbers
pub mod Over
pub mod Quiet
pub mod Sound
pub mod Standing
pub mod Steps
pub mod Stuck
