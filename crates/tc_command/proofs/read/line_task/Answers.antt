use Rattle.std.{proofs.Common.{◌∙◌, [], Err, List, ap, refl, subst}, specs.Prelude.unwrap_or}
use Rattle.clap.specs.Words.{Row, found_of, rows_of}
use Rattle.tc_command.{specs.{Asked.IsReadAs, Inside.IsTaken, declared.command.Subcommand.Subcommand}, proofs.Refusals.line_named}
use Rattle.tc_command.proofs.read.line_task.Goals as goal

pub returns-in-Ok : goal.returns-in-Ok
returns-in-Ok c =
    let subcommand = c.unwrap_or-subcommand.ensures ∙ ap (λ o. unwrap_or o Subcommand.Run) c.subcommand_named.ensures in
    let line_is = line_named c.args.matches.now c.subcommand.result _ c.unwrap_or.result c.unwrap_or-subcommand.result refl c.subcommand.ensures.name c.subcommand.ensures.rows c.unwrap_or.ensures subcommand in
    subst (λ l. IsTaken c.args.at_terminal l c.in-Ok.task) line_is c.in-Ok.ensures.taken

pub returns-in_ok-told_by-in-Err : goal.returns-in_ok-told_by-in-Err
returns-in_ok-told_by-in-Err c =
    let subcommand = c.unwrap_or-subcommand.ensures ∙ ap (λ o. unwrap_or o Subcommand.Run) c.subcommand_named.ensures in
    let line_is = line_named c.args.matches.now c.subcommand.result _ c.unwrap_or.result c.unwrap_or-subcommand.result refl c.subcommand.ensures.name c.subcommand.ensures.rows c.unwrap_or.ensures subcommand in
    let line : Subcommand × List Row = (c.unwrap_or-subcommand.result, rows_of (found_of c.unwrap_or.result.1.now)) in
    let told = c.in_ok-told_by-in-Err in
    subst (λ l. IsReadAs c.args.at_terminal [] l (Err told.field-0)) line_is (told.ensures c.args.at_terminal line c.in-Err.ensures.refused)
