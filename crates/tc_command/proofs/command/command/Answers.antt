use Rattle.std.proofs.Common.{◌≡◌, ◌∙◌, ap, codes}
use Rattle.clap.specs.{Words.{app_of, new_app}, Simple.app_of_fields}
use Rattle.tc_command.{specs.Command.with_version, proofs.Growing.each_more}
use Rattle.tc_command.proofs.command.command.Goals as goal

pub loop-subcommand-init : goal.loop-subcommand-init
loop-subcommand-init c =
    let about_is : app_of c.about.result ≡ new_app (codes "ttrun") = ap app_of_fields c.about.ensures ∙ c.new.ensures.app in
    let version_is : app_of c.version.result ≡ with_version (new_app (codes "ttrun")) = ap app_of_fields c.version.ensures ∙ ap with_version about_is in
    ap app_of_fields c.after_help-program.ensures ∙ version_is

pub loop-subcommand-preserved : goal.loop-subcommand-preserved
loop-subcommand-preserved c =
    let sub = c.in_ok-subcommand_of.ensures in
    each_more _ _ _ c.loop-subcommand-test.true c.in_ok-program.ensures sub.local sub.options c.loop-subcommand.invariant
