-- No public clause names a word of these files: what the table keeps, laws for the proofs of crates above, and the worked
-- cases.
pub mod Kept
pub mod Words
pub mod States
pub mod Step
pub mod Counts
pub mod Laws
pub mod WorkedCases
