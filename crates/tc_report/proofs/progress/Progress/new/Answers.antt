use Rattle.std.proofs.Common.{[], false, None, refl, rules}
use Rattle.tc_report.specs.Report.{tally_of_cases}
use Rattle.tc_report.proofs.Lemmas.Telling.{lines_of, moved, so_new}
use Rattle.tc_report.proofs.progress.Progress.new.Goals as goal

pub returns-clause-none : goal.returns-clause-none
returns-clause-none g c =
    let lines = lines_of c.args.shown in
    moved lines lines _ [] _ _ _ None None (tally_of_cases []) _ false false refl refl refl c.tally_cases.ensures refl (so_new lines _ _ (search rules))
