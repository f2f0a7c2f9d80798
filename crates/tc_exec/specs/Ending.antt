-- Why a behaviour comes back.
use Rattle.std.specs.Prelude.{Result, Err}
use Rattle.tc_book.specs.declared.halt.Halt.{Halt}
use Rattle.tc_exec.specs.declared.job.Ending.{Ending}

-- why a behaviour comes back after its calls, of which all were made or one was answered by a halt: Starved if memory
-- ran out
abbrev pub ending_after : Result (Unit {0}) Halt → Ending
ending_after (Err Halt.NoMemory) = Ending.Starved
ending_after _ = Ending.Returned
