-- The worked cases compute, each from the definitions.
use Rattle.std.proofs.Common.{refl}
use Rattle.tc_rules.specs.{Answers.answer, Answers.is_active, Faults.all_exist, Faults.components, Faults.fault, Faults.start_fault, History.exists, Inside.WorkedCases.WorkedCases, Local.local, Local.overall, Phases.phase, Status.alive, Status.done, Status.killed, Status.running, Waiting.holds, Waiting.is_stuck}

pub worked_cases : WorkedCases
unfolding exists phase running alive done killed local overall holds is_stuck all_exist start_fault components fault is_active answer
worked_cases = record {
  inconc_stays = ((refl, (refl, (refl, tt))), refl);
  start_of_a_running_component = ((refl, (refl, (refl, (refl, tt)))), refl);
  restart_keeps_fail = ((refl, (refl, (refl, (refl, (refl, (refl, tt)))))), refl);
  stopped_ordinary_is_killed = ((refl, (refl, (refl, (refl, (refl, tt))))), refl);
  done_of_groups = ((refl, (refl, (refl, (refl, tt)))), refl);
  ptc_asks_of_any = ((refl, (refl, (refl, tt))), refl);
  stop_and_kill_of_an_inactive_component = ((refl, (refl, (refl, (refl, (refl, tt))))), refl);
  stopped_by_another_is_excused = ((refl, (refl, (refl, (refl, (refl, (refl, (refl, (refl, tt)))))))), refl);
  waiting_alone_is_stuck = ((refl, (refl, (refl, tt))), refl);
  a_ptc_stops_the_main = ((refl, (refl, (refl, (refl, (refl, (refl, tt)))))), refl);
  stop_of_a_case = ((refl, (refl, (refl, (refl, (refl, tt))))), refl);
  stop_of_a_case_by_the_main = ((refl, (refl, tt)), refl);
  stop_of_a_case_by_a_run_that_was_never_started = ((refl, tt), refl);
  settings_of_the_main = ((refl, (refl, (refl, (refl, (refl, (refl, tt)))))), refl);
  order_of_faults = ((refl, (refl, (refl, tt))), refl);
  status_of_a_restarted_component = ((refl, (refl, (refl, (refl, (refl, (refl, (refl, (refl, tt)))))))), refl);
  two_waits_are_stuck = ((refl, (refl, (refl, (refl, (refl, (refl, tt)))))), refl);
  a_finish_wakes = ((refl, (refl, (refl, (refl, (refl, (refl, tt)))))), refl);
  groups_of_two = ((refl, (refl, (refl, (refl, (refl, (refl, (refl, (refl, (refl, (refl, (refl, tt))))))))))), refl);
  unknown_argument = ((refl, (refl, tt)), refl);
  start_of_the_main = ((refl, tt), refl);
  start_of_run_0 = ((refl, (refl, tt)), refl);
  start_of_a_run_out_of_range = ((refl, (refl, tt)), refl);
  start_of_a_run_started_before = ((refl, (refl, (refl, (refl, tt)))), refl);
  many_behaviours = ((refl, (refl, (refl, (refl, tt)))), refl);
}
