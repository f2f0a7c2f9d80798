use Rattle.std.{proofs.{Common.{rules, ◌≡◌, ◌∙◌, ◌++◌, [], if◌then◌else◌, ap, take}, lemmas.List.take_all}, specs.List.flat_map}
use Rattle.tc_rules.specs.Prelude.{is_by}
use Rattle.tc_report.{specs.Report.shown_entry, proofs.Replaying.part_shown}
use Rattle.tc_report.proofs.report.append_part.Goals as goal

pub returns : goal.returns
returns c =
    let history = c.args.history.now in
    let whole : take c.loop-entry.entry-index history ≡ history = take_all c.loop-entry.entry-index history (search rules) in
    c.loop-entry.invariant ∙ ap (λ l. c.args.out.now.items ++ l)
    (ap (flat_map (λ e. if is_by c.args.run e then shown_entry e else [])) whole ∙ part_shown c.args.run history)
