use Rattle.std.{proofs.Common.{◌≢◌, ◌∷◌, [], length}, specs.Fmt.decimal}
use Rattle.csv.specs.Writing.{writer_setup}
use Rattle.csv.specs.declared.writer.QuoteStyle.TheVariants as style
use Rattle.tc_rules.specs.Prelude.{Verdict}
use Rattle.tc_report.{specs.{Report.count_of, Status.ended}, proofs.Plain.{fields-unquoted, row_text-unquoted}}
use Rattle.tc_report.proofs.records.add_row.Goals as goal

pub returns-in-Ok-clause-written : goal.returns-in-Ok-clause-written
returns-in-Ok-clause-written c =
    let plain : (writer_setup c.args.writer.now).style ≢ style.NonNumeric = rw c.requires.setup (λ e. cc e) in
    let s = c.args.case.now in
    let locals = s.locals in
    let others = decimal (count_of Verdict.None locals) ∷ decimal (count_of Verdict.Pass locals) ∷ decimal (count_of Verdict.Inconc locals) ∷
    decimal (count_of Verdict.Fail locals) ∷ decimal (count_of Verdict.Error locals) ∷ (ended s.ending).0 ∷ [] in
    let row = row_text-unquoted s.name (decimal (length locals)) others (fields-unquoted s c.in_ok-push_fields.ensures.name c.in_ok-push_fields.ensures.digits) in
    rw (c.requires.setup, c.in_ok-push_fields.ensures.fields, row) at (c.in-Ok.ensures.bytes c.requires.fields c.requires.wrote plain)
