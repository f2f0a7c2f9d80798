-- What other crates cite of these definitions.
pub use Rattle.tc_run.specs.{Output.{LeavesUnwritten, of_output, results_in_form}, Run.{AreScriptsBack, IsRun, IsUnwrittenRun, RunsCases, IsScripted, script_outline}}
