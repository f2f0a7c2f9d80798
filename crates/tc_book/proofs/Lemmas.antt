-- The lemmas that other crates cite.
pub mod PartOf
pub mod Starting
