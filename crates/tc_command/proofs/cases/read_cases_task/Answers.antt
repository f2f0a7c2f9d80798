use Rattle.std.proofs.Common.{Err, List, Ok, false, map, refl, string_bytes}
use Rattle.clap.specs.Words.{Row, fault_of, found_of, matches_of, rows_of}
use Rattle.tc_command.{specs.{Command.cases_app, declared.command.Subcommand.Subcommand}, proofs.Refusals.{fails_so, no_fault, parse_refuses, read_on, rows_found}}
use Rattle.tc_command.proofs.cases.read_cases_task.Goals as goal

pub returns-in_err-matches : goal.returns-in_err-matches
returns-in_err-matches c =
    let words = map string_bytes c.args.words.now in
    let line : Subcommand × List Row = (Subcommand.Run, matches_of cases_app words) in
    let error = c.in_err-matches.field-0.0 in
    fails_so false (fault_of cases_app words) line _ _ c.from_residual-in_err-matches.ensures.1 (parse_refuses false words line error error c.in_ok-command.ensures refl c.in_err-matches.ensures.kinds refl)

pub returns-in-Ok : goal.returns-in-Ok
returns-in-Ok c =
    let words = map string_bytes c.args.words.now in
    let none = no_fault words c.in_ok-command.ensures refl c.in_ok-matches.ensures.kinds in
    let rows_are = rows_found words c.in_ok-matches.matches c.in_ok-command.ensures c.in_ok-matches.ensures.ok.2 in
    read_on false _ _ _ (Ok c.in-Ok.task) none rows_are c.in-Ok.ensures.taken

pub returns : goal.returns
returns c =
    let words = map string_bytes c.args.words.now in
    let none = no_fault words c.in_ok-command.ensures refl c.in_ok-matches.ensures.kinds in
    let rows_are = rows_found words c.in_ok-matches.matches c.in_ok-command.ensures c.in_ok-matches.ensures.ok.2 in
    let line : Subcommand × List Row = (Subcommand.Run, rows_of (found_of c.in_ok-matches.matches)) in
    read_on false _ _ _ (Err c.in_ok-told_by-in-Err.field-0) none rows_are (c.in_ok-told_by-in-Err.ensures false line c.in-Err.ensures.refused)
