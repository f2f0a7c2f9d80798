use Rattle.std.proofs.Common.{◌∙◌, ◌++◌, ap, arith}
use Rattle.tc_text.{specs.Inside.args_text, proofs.Operands.{behind_comp, ends_args, same_start}}
use Rattle.tc_text.proofs.operand.take_start.Goals as goal

pub returns-in_err-run-clause-only : goal.returns-in_err-run-clause-only
returns-in_err-run-clause-only c comp run args rest fits ends e =
    let two = behind_comp c.args.text.now c.in_ok-comp.rest.now c.in_ok-rest.rest.now c.in_ok-comp.comp comp run args rest c.in_ok-comp.ensures.only c.in_ok-rest.ensures fits.0 e in
    absurd (c.in_err-run.ensures.only run.0 (args_text args ++ rest) fits.1 (ends_args args rest ends) two.1)

pub returns-clause-only : goal.returns-clause-only
returns-clause-only c comp run args rest fits ends e =
    let two = behind_comp c.args.text.now c.in_ok-comp.rest.now c.in_ok-rest.rest.now c.in_ok-comp.comp comp run args rest c.in_ok-comp.ensures.only c.in_ok-rest.ensures fits.0 e in
    let then = c.in_ok-run.ensures.only run.0 (args_text args ++ rest) fits.1 (ends_args args rest ends) two.1 in
    let last = c.take_args-rest.ensures.only args rest fits.3 (rw c.new-args.ensures (let few = fits.2 in omega (arith, few))) ends then.1 in
    (same_start c.in_ok-comp.comp c.in_ok-run.run' c.take_args-rest.new.args comp run args two.0 then.0 (last.0 ∙ ap (λ l. l ++ args) c.new-args.ensures), last.1)
