-- What other crates cite of these definitions.
pub use Rattle.tc_exec.specs.{Case.{AreCalled, AreLogsBy, IsCaseReport, IsHandedBack, IsLogBy, IsMadeOf}, Workers.{HasLeft, IsLeftBy, WasCalled, opening_pass}}
