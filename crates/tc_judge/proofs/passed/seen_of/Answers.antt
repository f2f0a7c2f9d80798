use Rattle.std.proofs.{Common.{rules, ◌≡◌, ◌∙◌, ◌<◌, ◌+◌, ◌∷◌, ◌++◌, [], ap, length, get_or, take, subst, sym}, lemmas.List.{take_all, take_more}}
use Rattle.tc_judge.{specs.Inside.HasSeen, proofs.Passing.{seen_more, seen_none}}
use Rattle.tc_judge.proofs.passed.seen_of.Goals as goal

pub loop-block-preserved : goal.loop-block-preserved
loop-block-preserved c =
    let b = c.block-item.result in
    let i = c.loop-block.block-index in
    let blocks = c.args.blocks.now in
    let within : i < length blocks = search rules in
    let item : get_or blocks i b ≡ b = search rules in
    let next : take (i + 1) blocks ≡ take i blocks ++ b ∷ [] = take_more blocks i b within ∙ ap (λ x. take i blocks ++ x ∷ []) item in
    subst (λ l. HasSeen l c.take.new.self) (sym next)
    (seen_more (take i blocks) b c.loop-block.seen c.take.new.self c.in_ok-take.ensures.names c.in_ok-take.ensures.failed c.loop-block.invariant)

pub loop-block-init : goal.loop-block-init
loop-block-init c = seen_none (record { names = c.new.result; failed = c.new-2.result }) (search rules) (search rules)

pub returns : goal.returns
returns c =
    let blocks = c.args.blocks.now in
    let whole : take c.loop-block.block-index blocks ≡ blocks = take_all c.loop-block.block-index blocks (search rules) in
    subst (λ l. HasSeen l c.loop-block.seen) whole c.loop-block.invariant
