-- The lemmas that other crates cite.
pub mod Among
pub mod Digits
pub mod LinesOf
pub mod Saying
