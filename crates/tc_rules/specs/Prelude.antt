-- What other crates cite of these definitions, with the types of entries and verdicts.
pub use Rattle.tc_entry.specs.{Prelude.{IsBehaviours, IsName, IsShard, NoMemory, Run, ShardView, UserVerdict, Verdict, fault_name, given, has_place, is_ended, is_fault, is_name_byte, is_ok, is_parked, is_wake, level_of, matches, memory_text, name_of, worse, worst}, declared.comp.Comp.Comp, declared.entry.Entry.Entry, declared.op.Group.Group, declared.op.Op.Op, declared.op.Target.Target, declared.phase.Phase.Phase, declared.reply.Fault.Fault, declared.reply.Reply.Reply}
pub use Rattle.tc_rules.specs.{Answers.{entry_made, is_run_of, plain_answer}, Deciding.{component_name, deciding}, Faults.{names, special_fault}, History.{add_new, comp_of, comps, created, creation, ends_case, halts, is_alive_type, is_comp, is_finish, is_in, is_kill_of, is_over, is_stop_case, is_stop_of, kills, ptcs, start, started, started_on}, Inside.Words.{answer_unless, asks_many, calls_of, first_some, is_active_on, local_reply, log_if, logged, started_run, starts_on, starts_run, waits_in_vain}, Laws.{halting_op, is_quiet, keeps_phases, lets_go_on, may_halt}, Legal.{IsAllOver, IsLegal}, Local.{gives, verdicts_of}, Merge.{in_place, is_by, is_late, is_other, is_verdict_call, log_of, logs_below, runs_end, verdict_calls_after}, Phases.{last_run, start_in, was_halted, was_killed}, Report.{IsOneHistory, of_close, refusal_text}, Standing.{Case, IsReplyOf, Kept, TakesIn, past_of}, Status.{is_done, is_killed, is_running}, Waiting.{awaited, is_still, parks, waiting, wake_op}}
-- A proof may open these.
unfoldable pub use Rattle.tc_rules.specs.{Answers.answer, Answers.is_active, Faults.all_exist, Faults.components, Faults.fault, Faults.start_fault, History.ends_pass, History.exists, Local.local, Local.local_if_any, Local.overall, Merge.late, Merge.merge, Merge.part, Phases.phase, Phases.phase_if_any, Standing.StandsFor, Status.alive, Status.done, Status.killed, Status.running, Waiting.holds, Waiting.is_stuck}
