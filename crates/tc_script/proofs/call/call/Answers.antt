use Rattle.std.proofs.Common.{◌∙◌, ap, map, refl}
use Rattle.tc_step.specs.{declared.step.Step.Step, Prelude.component}
use Rattle.tc_script.proofs.Carrying.{plain_step, start_same}
use Rattle.tc_script.proofs.call.call.Goals as goal

pub returns-in-Start : goal.returns-in-Start
returns-in-Start g c =
    let me = c.args.pass.now.me in
    let on = c.in-Start.on in
    let places = c.in-Start.args in
    let comp = c.component-comp.ensures ∙ ap (λ m. component m c.deref.result.now on) c.me-me.ensures ∙ ap (λ b. component me b on) c.deref.ensures.value in
    let args = c.arguments-args.ensures ∙ ap (λ m. map (component m c.deref-in-Start.result.now) places) c.me-me.ensures
    ∙ ap (λ b. map (component me b) places) c.deref-in-Start.ensures.value in
    rw c.in-Start.is (plain_step _ (Step.Start on c.in-Start.run' places) _ _ _ _ _ _ c.start.ensures c.carried_out.ensures (start_same c.in-Start.run' comp args) c.requires refl refl)
