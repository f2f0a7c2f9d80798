-- What the dynamic error of a deciding call means, in half a line after a colon.
use Rattle.std.specs.Prelude.{◌==◌, ◌&&◌, if◌then◌else◌, not, is_some, Option, Some, None, List, [], ◌++◌, codes, ℕ}
use Rattle.tc_rules.specs.Prelude.{comp_of, Entry, Fault, Op, Reply, Run}
use Rattle.tc_report.specs.{InWords.run_in, declared.naming.Names.Names}

-- the run that a Start is refused since these past entries, the newest first, started it
abbrev pub started_before : List Entry → Op → Reply → Option Run
started_before past (Op.Start c run args) (Reply.Fault Fault.NoBehaviour) = if not (run.0 == 0) && is_some (comp_of past run.0) then Some run else None
started_before past op reply = None

-- what a dynamic error means
abbrev pub fault_words : Fault → List ℕ
fault_words Fault.NoComponent = codes ": a component that the call names does not exist"
fault_words Fault.NotMain = codes ": only run 0 may say any or all"
fault_words Fault.StartMain = codes ": the main component is never started"
fault_words Fault.AlreadyRunning = codes ": another run is running on the component"
fault_words Fault.NotStartable = codes ": the component is killed"
fault_words Fault.NoBehaviour = codes ": there is no such run to start"
fault_words Fault.TooMany = codes ": there are as many components as a test case may have"
fault_words Fault.Stuck = codes ": no run can continue"

-- what a reply means, if it is a dynamic error: that this run was started before, if there is one
abbrev pub meaning_text : Names → Option Run → Reply → List ℕ
meaning_text names (Some run) reply = codes ": run " ++ (run_in names run.0 ++ codes " was started before: a behaviour is started at most once")
meaning_text names None (Reply.Fault fault) = fault_words fault
meaning_text names None reply = []
