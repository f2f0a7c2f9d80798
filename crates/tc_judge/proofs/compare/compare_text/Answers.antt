use Rattle.std.{proofs.Common.{◌≡◌, ◌∙◌, ◌==◌, ◌++◌, [], false, if◌then◌else◌, ap, length, refl}, specs.Prelude.is_some}
use Rattle.tc_answer.specs.Prelude.{blocks_part}
use Rattle.tc_judge.{specs.Inside.{IsWholeOfBlock, first_illegal, is_picked, printed}, proofs.Judging.all_checked}
use Rattle.tc_judge.proofs.compare.compare_text.Goals as goal

pub returns-clause-done : goal.returns-clause-done
returns-clause-done c =
    let found = c.in_ok-blocks.ensures.found in
    let blocks = c.in_ok-blocks.blocks.items in
    let notes = c.in_ok-blocks.comparison.notes.items in
    let lent : c.as_slice-notes.result.now ≡ notes = c.as_slice-notes.ensures.value in
    let lines = c.in_ok-out.out.items in
    let checked = all_checked IsWholeOfBlock c.args.choice.now.last (is_picked [] false) (blocks_part c.args.text.now) lines c.checked_status.result blocks found.judged
    (c.in_ok-out.ensures ∙ ap (printed (is_picked [] false)) c.as_slice.ensures.value)
    (c.checked_status.ensures ∙ ap (λ l. if is_some (first_illegal l) then 3 else 0) c.as_slice-2.ensures.value) in
    let status_is = c.noted_status-status.ensures ∙ ap (λ l. if length l == 0 then c.checked_status.result else 3) lent in
    rw c.silent.ensures (
      record {
        cases = found.cases;
        chosen = found.chosen;
        notes = notes;
        holds = record {
          blocks = found.judged.blocks;
          evidence = found.judged.evidence;
          holds = λ all are. (
            (found.found all are).0,
            (lines, c.checked_status.result, checked.holds all are, c.in_ok-extend_from_slice.ensures.items ∙ ap (λ l. lines ++ l) lent, status_is),
          );
        };
      },
      refl,
    )
