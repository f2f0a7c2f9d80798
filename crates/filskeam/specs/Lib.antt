-- The definitions that the contracts of this crate cite.
pub mod Engine
pub use Rattle.tc_program.specs.Prelude as OfProgram
pub use Rattle.tc_table.specs.Calls as OfCalls
