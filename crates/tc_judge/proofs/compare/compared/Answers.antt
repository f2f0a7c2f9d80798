use Rattle.std.{proofs.Common.{rules, ◌≡◌, subst, sym}, specs.List.AllZip}
use Rattle.tc_answer.specs.Prelude.{blocks_part}
use Rattle.tc_judge.{specs.{Inside.{AreJudgedIn, IsJudgedBlock, IsWholeOfBlock}, Check.counting}}
use Rattle.tc_judge.proofs.compare.compared.Goals as goal

pub returns-clause-found : goal.returns-clause-found
returns-clause-found c =
    let ready = c.in_ok-ready.ensures.ready in
    let last = c.args.choice.now.last in
    let part : c.split_script.result.1.now ≡ blocks_part c.args.text.now = search rules in
    let judged = subst (λ t. AreJudgedIn IsWholeOfBlock last t c.in_ok-blocks.blocks.items) part c.in_ok-blocks.ensures.judged in
    record {
      cases = ready.cases;
      chosen = ready.chosen;
      judged = judged;
      found = λ all are. c.in_ok-comparison.ensures ready.cases (counting last all) ready.each
          (subst (AllZip (IsJudgedBlock IsWholeOfBlock) (counting last all)) (sym c.as_slice.ensures.value) (judged.holds all are));
    }
