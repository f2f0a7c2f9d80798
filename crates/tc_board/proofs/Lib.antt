-- The lemmas of this crate.
pub mod Lookup
pub mod Numbers
pub mod Answers
pub mod Rows
pub mod HandSteps
pub mod KeeperSteps
pub mod NewBoard
pub mod RuleLaws
