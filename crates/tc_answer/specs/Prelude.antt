-- What other crates cite of these definitions.
unfoldable pub use Rattle.tc_answer.specs.Page.{page_of}
pub use Rattle.tc_answer.specs.{Choosing.{AreChosen, AreChosenOf, CaseView, LackName, RefusesChoice, scripts_of, case_name, chosen, have_names, is_asked}, Fault.{RefusesText, number_of, run_fault_line, said}, Input.{IsUnread, blocks_part, script_part}, Stderr.{GivesAnswer, IsPrintedRefusal, IsTold, Streams, held_streams}}
