use Rattle.std.proofs.Common.{Ok, Err, subst, sym}
use Rattle.tc_answer.specs.Prelude.{run_fault_line, IsPrintedRefusal, held_streams}
use Rattle.tc_answer.proofs.Lemmas.Giving.{keeps_same}
use Rattle.tc_program.specs.{Cases.{IsMadeOfCases, WereMade}, Program.IsDoneBy}
use Rattle.tc_program.proofs.OwnCases.{named_still, no_other, ran, ran_unwritten}
use Rattle.tc_program.proofs.own_cases.do_task.Goals as goal

pub unreachable-requires : goal.unreachable-requires
unreachable-requires g c = no_other c.args.task.now c.requires.of_cases c.in_default.not-Run c.in_default.not-List

pub returns-in-Ok : goal.returns-in-Ok
returns-in-Ok g c =
    IsDoneBy.made c.in-Ok.answer (subst (λ task. IsMadeOfCases (WereMade c.args.cases) task (Ok c.in-Ok.answer)) (sym c.in-List.is) c.in-Ok.ensures.done) c.give_answer.ensures

pub returns-in-Err : goal.returns-in-Err
returns-in-Err g c =
    IsDoneBy.refused c.in-Err.fault (subst (λ task. IsMadeOfCases (WereMade c.args.cases) task (Err c.in-Err.fault)) (sym c.in-List.is) c.in-Err.ensures.refused)
    (keeps_same (g.W.Write.contents c.args.writer.now)) c.refuse.ensures

pub returns-in-Err-asked : goal.returns-in-Err-asked
returns-in-Err-asked g c =
    IsDoneBy.refused c.in-Err-asked.fault (subst (λ task. IsMadeOfCases (WereMade c.args.cases) task (Err c.in-Err-asked.fault)) (sym c.in-Run.is) c.in-Err-asked.ensures.refused)
    (keeps_same (g.W.Write.contents c.args.writer.now)) c.refuse-in-Err-asked.ensures

pub run_cases-requires-clause-names : goal.run_cases-requires-clause-names
run_cases-requires-clause-names g c κs within =
    named_still c.args.cases c.in-Run.options.choice c.in-Ok-asked.cases.items c.requires.names c.in-Ok-asked.ensures.chosen

pub returns-in-Ok-run_cases : goal.returns-in-Ok-run_cases
returns-in-Ok-run_cases g c =
    ran g.B.Callable.outcome c.args.cases c.args.task.now c.in-Run.options c.in-Run.is c.in-Ok-asked.cases.items c.in-Ok-asked.ensures.chosen
    (held_streams g.W.Write.contents c.args.writer.now c.run_cases.new.writer g.E.Write.contents c.args.errors.now c.run_cases.new.errors) c.in-Ok-run_cases.outcome
    c.in-Ok-run_cases.ensures.done

pub returns-in-Err-run_cases : goal.returns-in-Err-run_cases
returns-in-Err-run_cases g c =
    ran_unwritten g.B.Callable.outcome c.args.cases c.args.task.now c.in-Run.options c.in-Run.is c.in-Ok-asked.cases.items c.in-Ok-asked.ensures.chosen
    (held_streams g.W.Write.contents c.args.writer.now c.run_cases.new.writer g.E.Write.contents c.args.errors.now c.run_cases.new.errors) c.in-Err-run_cases.fault
    (g.E.Write.contents c.refuse-in-Err-run_cases.new.errors) c.refuse-in-Err-run_cases.result c.in-Err-run_cases.ensures.refused
    (subst (λ f. IsPrintedRefusal (g.E.Write.contents c.run_cases.new.errors) (g.E.Write.contents c.refuse-in-Err-run_cases.new.errors) (run_fault_line f) c.refuse-in-Err-run_cases.result) c.fault_of.ensures c.refuse-in-Err-run_cases.ensures)
