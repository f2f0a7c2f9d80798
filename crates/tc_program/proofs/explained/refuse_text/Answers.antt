use Rattle.tc_program.{specs.Inside.IsToldOf, proofs.Doing.{some_told, told_or}}
use Rattle.tc_program.proofs.explained.refuse_text.Goals as goal

pub returns : goal.returns
returns g c =
    let told = told_or c.told_text.result (IsToldOf c.args.task.now c.args.text.now c.args.fault) (some_told c.args.task.now c.args.text.now c.args.fault) c.told_text.ensures in
    (told.0, told.1, c.refuse_with.ensures told.0 told.2)
