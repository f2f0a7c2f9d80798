-- What other crates cite of these definitions.
pub use Rattle.tc_command.specs.{Asked.{IsCasesReading, IsReading}, Command.word_fault_text}
