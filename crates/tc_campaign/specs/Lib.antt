-- The definitions that the contracts of this crate cite.
pub mod Campaign
pub mod Outline
pub mod Inside
pub mod Prelude
pub use Rattle.tc_rules.specs.Prelude as OfRules
pub use Rattle.tc_book.specs.Prelude as OfBook
pub use Rattle.tc_exec.specs.Prelude as OfExec
pub use Rattle.tc_report.specs.Prelude as OfReport
