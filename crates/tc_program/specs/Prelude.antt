-- What other crates cite of these definitions.
pub use Rattle.tc_program.specs.{Alone.IsAnsweredAlone, Answer.{IsNoTask, IsRefused, IsUnreadInput}}
pub use Rattle.tc_answer.specs.{Prelude.Streams, declared.outcome.Outcome.Outcome}
