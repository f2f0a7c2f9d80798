-- Worked cases: the calls of one test case with the reply to each, and the overall verdict at the end.
use Rattle.std.specs.Prelude.{ℕ, ◌≡◌, true, false, Some, None, List, [], ◌∷◌, reverse, codes}
use Rattle.tc_entry.specs.{Prelude.{Verdict, UserVerdict}, declared.comp.Comp.Comp, declared.entry.Entry.Entry, declared.op.Group.Group, declared.op.Op.Op, declared.op.Target.Target, declared.reply.Fault.Fault, declared.reply.Reply.Reply}
use Rattle.tc_rules.specs.{Legal.IsLegal, Local.overall}

-- among n behaviours the table gives the reply of each of these entries, the oldest first, and this is the overall verdict
abbrev pub IsCase : ℕ → Verdict → List Entry → Type 0
IsCase n verdict history = IsLegal n (reverse history) × (overall (reverse history) ≡ verdict)

-- run b makes this call, and this is the reply
abbrev pub call : ℕ → Op → Reply → Entry
call b op reply = record { caller = record { 0 = b }; op = op; reply = reply }

-- component c
abbrev pub comp : ℕ → Comp
comp c = record { 0 = c }

-- the main component creates an ordinary component, which is c
abbrev pub create : ℕ → Entry
create c = call 0 (Op.Create false None) (Reply.Made (comp c))

-- the main component creates an alive-type component, which is c
abbrev pub create_alive : ℕ → Entry
create_alive c = call 0 (Op.Create true None) (Reply.Made (comp c))

-- the main component starts run b on component c, without arguments
abbrev pub start : ℕ → ℕ → Reply → Entry
start c b reply = call 0 (Op.Start (comp c) (record { 0 = b }) []) reply

-- only component c
abbrev pub one : ℕ → Target
one c = Target.One (comp c)

-- each case, by its name
pub record WorkedCases : Type 0 where
  pub inconc_stays :
      IsCase 1 Verdict.Inconc (call 0 (Op.SetVerdict UserVerdict.Inconc) Reply.Ok ∷ call 0 (Op.SetVerdict UserVerdict.Pass) Reply.Ok ∷ call 0 Op.GetVerdict (Reply.Local Verdict.Inconc) ∷ [])
  pub start_of_a_running_component :
      IsCase 3 Verdict.Error (create 1 ∷ start 1 1 Reply.Ok ∷ start 1 2 (Reply.Fault Fault.AlreadyRunning) ∷ call 1 Op.GetVerdict Reply.Ended ∷ [])
  pub restart_keeps_fail :
      IsCase 3 Verdict.Fail (create_alive 1 ∷ start 1 1 Reply.Ok ∷ call 1 (Op.SetVerdict UserVerdict.Fail) Reply.Ok ∷ call 1 Op.Finish Reply.Ok ∷ start 1 2 Reply.Ok
      ∷ call 2 Op.GetVerdict (Reply.Local Verdict.Fail) ∷ [])
  pub stopped_ordinary_is_killed :
      IsCase 3 Verdict.Error (create 1 ∷ start 1 1 Reply.Ok ∷ call 0 (Op.Stop (Group.One (comp 1))) Reply.Ok ∷ call 0 (Op.Killed (one 1)) (Reply.Answer true)
      ∷ start 1 2 (Reply.Fault Fault.NotStartable) ∷ [])
  pub done_of_groups :
      IsCase 1 Verdict.None (call 0 (Op.Done Target.All) (Reply.Answer true) ∷ create 1 ∷ call 0 (Op.Done Target.All) (Reply.Answer true) ∷ call 0 (Op.Done Target.Any) (Reply.Answer false) ∷ [])
  pub ptc_asks_of_any :
      IsCase 2 Verdict.Error (create 1 ∷ start 1 1 Reply.Ok ∷ call 1 (Op.Running Target.Any) (Reply.Fault Fault.NotMain) ∷ [])
  pub stop_and_kill_of_an_inactive_component :
      IsCase 1 Verdict.None (create 1 ∷ call 0 (Op.Stop (Group.One (comp 1))) Reply.Ok ∷ call 0 (Op.Alive (one 1)) (Reply.Answer true) ∷ call 0 (Op.Kill (Group.One (comp 1))) Reply.Ok
      ∷ call 0 (Op.Done (one 1)) (Reply.Answer true) ∷ [])
  pub stopped_by_another_is_excused :
      IsCase 3 Verdict.None (create 1 ∷ create 2 ∷ start 1 1 Reply.Ok ∷ start 2 2 Reply.Ok ∷ call 0 (Op.Stop (Group.One (comp 1))) Reply.Ok ∷ call 0 (Op.Running Target.All) (Reply.Answer true)
      ∷ call 2 Op.Finish Reply.Ok ∷ call 0 (Op.Running Target.All) (Reply.Answer false) ∷ [])
  pub waiting_alone_is_stuck :
      IsCase 1 Verdict.Error (create 1 ∷ call 0 (Op.Wait false (one 1)) Reply.Parked ∷ call 0 (Op.Wake false (one 1)) (Reply.Fault Fault.Stuck) ∷ [])
  pub a_ptc_stops_the_main :
      IsCase 2 Verdict.Pass (create 1 ∷ start 1 1 Reply.Ok ∷ call 1 (Op.SetVerdict UserVerdict.Pass) Reply.Ok ∷ call 1 (Op.Stop (Group.One (comp 0))) Reply.Ok ∷ call 0 Op.GetVerdict Reply.Ended
      ∷ call 1 Op.GetVerdict Reply.Ended ∷ [])
  pub stop_of_a_case :
      IsCase 2 Verdict.Error (create 1 ∷ start 1 1 Reply.Ok ∷ call 1 (Op.SetVerdict UserVerdict.Pass) Reply.Ok ∷ call 1 Op.StopCase Reply.Ok ∷ call 0 Op.GetVerdict Reply.Ended ∷ [])
  pub stop_of_a_case_by_the_main :
      IsCase 1 Verdict.Error (call 0 Op.StopCase Reply.Ok ∷ call 0 Op.GetVerdict Reply.Ended ∷ [])
  pub stop_of_a_case_by_a_run_that_was_never_started :
      IsCase 2 Verdict.None (call 1 Op.StopCase Reply.Ended ∷ [])
  pub settings_of_the_main :
      IsCase 1 Verdict.Pass (create 1 ∷ call 0 (Op.SetVerdict UserVerdict.Pass) Reply.Ok ∷ call 0 (Op.SetVerdict UserVerdict.None) Reply.Ok ∷ call 0 Op.GetVerdict (Reply.Local Verdict.Pass) ∷ call 0 Op.Finish Reply.Ok
      ∷ call 0 Op.GetVerdict Reply.Ended ∷ [])
  pub order_of_faults :
      IsCase 2 Verdict.Error (create 1 ∷ start 1 1 Reply.Ok ∷ start 1 9 (Reply.Fault Fault.AlreadyRunning) ∷ [])
  pub status_of_a_restarted_component :
      IsCase 3 Verdict.None (create_alive 1 ∷ start 1 1 Reply.Ok ∷ call 1 Op.Finish Reply.Ok ∷ call 0 (Op.Done (one 1)) (Reply.Answer true) ∷ start 1 2 Reply.Ok
      ∷ call 0 (Op.Done (one 1)) (Reply.Answer false) ∷ call 0 (Op.Running (one 1)) (Reply.Answer true) ∷ call 0 (Op.Alive (one 1)) (Reply.Answer true) ∷ [])
  pub two_waits_are_stuck :
      IsCase 2 Verdict.Error (create 1 ∷ start 1 1 Reply.Ok ∷ call 0 (Op.Wait false (one 1)) Reply.Parked ∷ call 1 (Op.Wait true (one 1)) Reply.Parked
      ∷ call 1 (Op.Wake true (one 1)) Reply.Parked ∷ call 0 (Op.Wake false (one 1)) (Reply.Fault Fault.Stuck) ∷ [])
  pub a_finish_wakes :
      IsCase 2 Verdict.None (create 1 ∷ start 1 1 Reply.Ok ∷ call 0 (Op.Wait false (one 1)) Reply.Parked ∷ call 0 (Op.Wake false (one 1)) Reply.Parked ∷ call 1 Op.Finish Reply.Ok
      ∷ call 0 (Op.Wake false (one 1)) Reply.Matched ∷ [])
  pub groups_of_two :
      IsCase 3 Verdict.None (create 1 ∷ create_alive 2 ∷ start 2 1 Reply.Ok ∷ call 0 (Op.Killed Target.Any) (Reply.Answer false) ∷ call 0 (Op.Stop Group.All) Reply.Ok
      ∷ call 0 (Op.Done Target.Any) (Reply.Answer true) ∷ call 0 (Op.Killed Target.All) (Reply.Answer false) ∷ call 0 (Op.Alive Target.All) (Reply.Answer true) ∷ call 0 (Op.Kill Group.All) Reply.Ok
      ∷ call 0 (Op.Killed Target.All) (Reply.Answer true) ∷ call 0 (Op.Alive Target.Any) (Reply.Answer false) ∷ [])
  pub unknown_argument :
      IsCase 2 Verdict.Error (create 1 ∷ call 0 (Op.Start (comp 1) (record { 0 = 1 }) (comp 7 ∷ [])) (Reply.Fault Fault.NoComponent) ∷ [])
  pub start_of_the_main :
      IsCase 2 Verdict.Error (start 0 1 (Reply.Fault Fault.StartMain) ∷ [])
  pub start_of_run_0 :
      IsCase 2 Verdict.Error (create 1 ∷ start 1 0 (Reply.Fault Fault.NoBehaviour) ∷ [])
  pub start_of_a_run_out_of_range :
      IsCase 2 Verdict.Error (create 1 ∷ start 1 2 (Reply.Fault Fault.NoBehaviour) ∷ [])
  pub start_of_a_run_started_before :
      IsCase 2 Verdict.Error (create 1 ∷ create 2 ∷ start 1 1 Reply.Ok ∷ start 2 1 (Reply.Fault Fault.NoBehaviour) ∷ [])
  pub many_behaviours :
      IsCase 256 Verdict.Pass (call 0 (Op.Create false (Some (codes "pump"))) (Reply.Made (comp 1)) ∷ call 0 (Op.Create true (Some (codes "pump"))) (Reply.Made (comp 2)) ∷ start 1 255 Reply.Ok
      ∷ call 255 (Op.SetVerdict UserVerdict.Pass) Reply.Ok ∷ [])
