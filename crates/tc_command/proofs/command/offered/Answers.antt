use Rattle.std.proofs.{Common.{◌≡◌, ◌∙◌, ap}, lemmas.Result.IfOk-weaker}
use Rattle.clap.specs.{Words.{app_of, new_app}, Simple.app_of_fields}
use Rattle.tc_command.{specs.Command.offer_of, proofs.Growing.grown}
use Rattle.tc_command.proofs.command.offered.Goals as goal

pub returns-clause-options : goal.returns-clause-options
returns-clause-options c =
    let about_is : app_of c.about.result ≡ new_app (offer_of c.args.subcommand).0 = ap app_of_fields c.about.ensures ∙ (c.new.ensures.app ∙ ap new_app c.name.ensures) in
    let helps = grown c.in_ok-command.ensures (ap app_of_fields c.after_help-command.ensures ∙ about_is) in
    IfOk-weaker c.with_options-2.result _ _ (λ r grows. grown grows helps) c.with_options-2.ensures
