use Rattle.std.proofs.Common.{subst}
use Rattle.tc_command.{specs.Inside.IsRefusedBy, proofs.Options.first_bad}
use Rattle.tc_command.proofs.refusal.told_by.Goals as goal

pub returns-in-Word : goal.returns-in-Word
returns-in-Word c at line bad =
    let why = subst (IsRefusedBy line) c.in-Word.is bad in
    (why.0, first_bad line.1 c.in-Word.fault why.1)
