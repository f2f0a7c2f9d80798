-- What other crates cite of these definitions.
pub use Rattle.tc_report.specs.{Blocks.{blocks_text, case_block, named_block}, Cause.{cause_of, decided_text}, Csv.csv_of, InWords.{component_in, component_text, named_call, namings_of, run_in}, Report.{abort_text, aborted_case, aborted_text, report_text, verdict_line, tally_of_cases}, Junit.{junit_of, no_times}, Replayed.{blocks_report, replayed_text, verdicts_closing}, Observers.{Keeps, AreTaken, IsMet, KeepsTimes}, Live.form_parts, Output.LeavesPrefix, Progress.{HasTold, IsToldBy}, Said.said_in, Inside.said_with, Status.{ending_status, results_status, verdict_status, worst_of}, Summary.{bare_summary, block_summary, case_summary, names_in, no_names, results_summaries, summary_of, written_summary}, SummaryText.summary_text, Waits.waits_text}
