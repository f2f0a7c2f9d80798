use Rattle.std.proofs.Common.{rules, ◌≡◌, ◌∙◌, ap, refl, reverse, subst}
use Rattle.tc_answer.specs.Prelude.{blocks_part}
use Rattle.tc_judge.{specs.{Compared.missing, Inside.{IsWholeOfBlock, first_illegal}, Check.counting, Report.IsReport}, proofs.Judging.all_chosen}
use Rattle.tc_judge.proofs.compare.report_compared.Goals as goal

pub returns-clause-done : goal.returns-clause-done
returns-clause-done c =
    let found = c.in_ok-blocks.ensures.found in
    let form = c.args.form.now in
    let part : c.split_script.result.1.now ≡ blocks_part c.args.text.now = search rules in
    let blocks = c.in_ok-blocks.blocks.items in
    let notes = c.in_ok-blocks.comparison.notes.items in
    let answer = c.in_ok-answer.answer in
    record {
      cases = found.cases;
      chosen = found.chosen;
      notes = notes;
      holds = record {
        blocks = found.judged.blocks;
        evidence = found.judged.evidence;
        holds = λ all are.
            let bs = counting c.args.choice.now.last all in
            let so = found.found all are in
            let chosen = all_chosen IsWholeOfBlock bs blocks c.first_illegal-illegal.result (found.judged.holds all are) (c.first_illegal-illegal.ensures ∙ ap first_illegal c.as_slice.ensures.value) in (
              so.0,
              subst (λ t. IsReport form t bs bs (missing (reverse bs) found.cases) notes answer) part
                  (subst (λ l. IsReport form c.split_script.result.1.now bs bs l notes answer) (c.as_slice-missing.ensures.value ∙ so.1) (c.in_ok-answer.ensures _ bs bs (λ legal. refl) chosen)),
            );
      };
    }
