use Rattle.std.proofs.Common.{map, refl, string_bytes}
use Rattle.clap.specs.Words.{matches_of, subcommand_of}
use Rattle.tc_command.{specs.{Asked.command_line_of, Command.ttrun}, proofs.Refusals.{line_found, no_fault, parse_refuses, read_on}}
use Rattle.tc_command.proofs.read.read_task.Goals as goal

pub returns-in-Ok : goal.returns-in-Ok
returns-in-Ok c =
    let words = map string_bytes c.args.words.now in
    let none = no_fault words c.in_ok-command.ensures refl c.in-Ok.ensures.kinds in
    read_on c.args.at_terminal _ _ _ c.line_task.result none (line_found words c.in-Ok.matches c.in_ok-command.ensures c.in-Ok.ensures.ok.2) c.line_task.ensures

pub returns : goal.returns
returns c =
    let words = map string_bytes c.args.words.now in
    parse_refuses c.args.at_terminal words (command_line_of (matches_of ttrun words) (subcommand_of ttrun words)) c.in-Err.error c.in_ok-with_tip-in-Err.field-0
    c.in_ok-command.ensures refl c.in-Err.ensures.kinds c.in_ok-with_tip-in-Err.ensures
