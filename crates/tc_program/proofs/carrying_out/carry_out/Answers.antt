use Rattle.std.proofs.Common.{subst}
use Rattle.tc_answer.{specs.Prelude.{run_fault_line, IsPrintedRefusal, held_streams}, proofs.Lemmas.{Chosen.still_ready, Giving.keeps_same}}
use Rattle.tc_judge.specs.Prelude.{AreToRun}
use Rattle.tc_run.proofs.Lemmas.{even, run_done, run_left}
use Rattle.tc_program.{specs.Program.IsDoneBy, proofs.Doing.{asked_done, short_of_memory}}
use Rattle.tc_program.proofs.carrying_out.carry_out.Goals as goal

pub returns-in_default : goal.returns-in_default
returns-in_default g c =
    let asked = c.in-Ok.ensures.asked in
    let s = held_streams g.W.Write.contents c.args.writer.now c.begin.new.writer g.E.Write.contents c.args.errors.now c.refuse.new.errors in
    asked_done c.args.task.now _ c.in-Ok.asked.0.now c.in-Ok.asked.1.items s c.refuse.result asked
    (λ text are. short_of_memory c.args.task.now text c.in-Ok.asked.0.now s c.refuse.result asked.0
    (rw c.in-Ok.ensures.unwritten (keeps_same (g.W.Write.contents c.args.writer.now))) (rw c.in-Ok.ensures.untold at c.refuse.ensures))

pub run_cases-requires-clause-names : goal.run_cases-requires-clause-names
run_cases-requires-clause-names g c κs within =
    let asked = c.in-Ok.ensures.asked in
    let cases = c.in-Ok-with_jobs.cases.items in
    let are = still_ready (AreToRun c.in-Ok.asked.0.now.choice asked.1.0) c.in-Ok.asked.1.items cases asked.1.3 c.in-Ok-with_jobs.ensures in
    even are.cases cases are.each

pub returns-in-Ok-run_cases : goal.returns-in-Ok-run_cases
returns-in-Ok-run_cases g c =
    let o = c.in-Ok.asked.0.now in
    let cases = c.in-Ok-with_jobs.cases.items in
    let s = held_streams g.W.Write.contents c.args.writer.now c.run_cases.new.writer g.E.Write.contents c.args.errors.now c.run_cases.new.errors in
    asked_done c.args.task.now _ o c.in-Ok.asked.1.items s c.in-Ok-run_cases.outcome c.in-Ok.ensures.asked
    (λ text ready.
    let are = still_ready (AreToRun o.choice text) c.in-Ok.asked.1.items cases ready c.in-Ok-with_jobs.ensures in
    IsDoneBy.run o c.in-Ok.ensures.asked.0
    (run_done o (AreToRun o.choice text) are.cases cases are.chosen are.lawful are.each s c.in-Ok-run_cases.outcome
    (rw (c.in-Ok.ensures.unwritten, c.in-Ok.ensures.untold) at c.in-Ok-run_cases.ensures.done)))

pub returns-in-Err-run_cases : goal.returns-in-Err-run_cases
returns-in-Err-run_cases g c =
    let o = c.in-Ok.asked.0.now in
    let cases = c.in-Ok-with_jobs.cases.items in
    let told = g.E.Write.contents c.refuse-in-Err-run_cases.new.errors in
    let s = held_streams g.W.Write.contents c.args.writer.now c.run_cases.new.writer g.E.Write.contents c.args.errors.now c.run_cases.new.errors in
    let refusal = subst (λ f. IsPrintedRefusal s.told told (run_fault_line f) c.refuse-in-Err-run_cases.result) c.fault_of.ensures c.refuse-in-Err-run_cases.ensures in
    asked_done c.args.task.now _ o c.in-Ok.asked.1.items (record s { told = told }) c.refuse-in-Err-run_cases.result c.in-Ok.ensures.asked
    (λ text ready.
    let are = still_ready (AreToRun o.choice text) c.in-Ok.asked.1.items cases ready c.in-Ok-with_jobs.ensures in
    IsDoneBy.run o c.in-Ok.ensures.asked.0
    (run_left o (AreToRun o.choice text) are.cases cases are.chosen are.lawful are.each s c.in-Err-run_cases.fault told c.refuse-in-Err-run_cases.result
    (rw (c.in-Ok.ensures.unwritten, c.in-Ok.ensures.untold) at c.in-Err-run_cases.ensures.refused) refusal))
