use Rattle.std.proofs.Common.{◌≡◌, ◌∙◌, ◌&&◌, refl, subst, sym, true}
use Rattle.tc_command.specs.declared.task.Task.{Task}
use Rattle.tc_judge.specs.Prelude.{IsMadeOfInput, history_limit, is_of_judged}
use Rattle.tc_program.{specs.Made.IsMade, proofs.Doing.{and_true, kept_whole}}
use Rattle.tc_program.proofs.carrying_out.made_in_parts.Goals as goal

pub returns-then-explains : goal.returns-then-explains
returns-then-explains g c = (refl, kept_whole c.args.task.now (sym c.explains.ensures ∙ c.if-explains.true))

pub returns-in-Check : goal.returns-in-Check
returns-in-Check g c = rw c.in-Check.is (c.check_input.ensures, rw c.in-Check.is at (sym c.explains.ensures ∙ c.if-explains.false), λ e. cc)

pub returns-in-Model : goal.returns-in-Model
returns-in-Model g c = rw c.in-Model.is (c.model_input.ensures, rw c.in-Model.is at (sym c.explains.ensures ∙ c.if-explains.false), λ e. cc)

pub returns-else-not-is_of_judged : goal.returns-else-not-is_of_judged
returns-else-not-is_of_judged g c =
    let form = c.in-Report.form in
    let choice = c.in-Report.choice in
    let long_is : (choice.long && is_of_judged form) ≡ choice.long = and_true choice.long (is_of_judged form) (sym c.is_of_judged.ensures ∙ c.if-not-is_of_judged.false) in
    rw c.in-Report.is (
      subst (λ l. IsMadeOfInput (history_limit l) (g.I.Read.remaining c.args.reader.now) (IsMade (Task.Report form choice true)) c.report_input.result) (sym long_is) c.report_input.ensures,
      rw c.in-Report.is at (sym c.explains.ensures ∙ c.if-explains.false),
      λ e. cc,
    )
