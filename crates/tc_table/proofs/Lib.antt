-- What the proofs of this crate share.
pub mod Pieces
pub mod Reading
