use Rattle.std.proofs.{Common.{rules, ◌≡◌, subst}, lemmas.Fn.filter_same}
use Rattle.tc_answer.specs.Prelude.{blocks_part}
use Rattle.tc_judge.{specs.Inside.{AreJudgedIn, HasSeen, KeepsNothing}, proofs.Passing.ready_unpassed}
use Rattle.tc_judge.proofs.passed.unpassed_cases.Goals as goal

pub returns-clause-are : goal.returns-clause-are
returns-clause-are c =
    let part : c.split_script.result.1.now ≡ blocks_part c.args.text.now = search rules in
    let blocks = c.in_ok-blocks.blocks.items in
    ready_unpassed c.args.choice.now c.args.text.now c.in_ok-cases.cases.items c.retain.new.self.items blocks c.in_ok-seen.seen c.in_ok-cases.ensures.ready
    (subst (λ t. AreJudgedIn KeepsNothing c.args.choice.now.last t blocks) part c.in_ok-blocks.ensures.judged)
    (subst (λ l. HasSeen l c.in_ok-seen.seen) c.as_slice.ensures.value c.in_ok-seen.ensures) (filter_same _ _ _ (λ x b f' k. search rules) _ _ c.retain.ensures.filtered)
