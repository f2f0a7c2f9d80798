use Rattle.std.proofs.Common.{◌<◌, ◌≤◌, ◌∙◌, ap, arith, length, slice_set, sym}
use Rattle.std.proofs.lemmas.List.Edits.{map_over_more}
use Rattle.tc_model.specs.Inside.{unread}
use Rattle.tc_model.proofs.Trying.{all_unread, none_written_of, same_blocks_of}
use Rattle.tc_model.proofs.models.refuse_all.Goals as goal

pub loop-attempt-preserved : goal.loop-attempt-preserved
loop-attempt-preserved c =
    let within : c.loop-attempt.attempt-index < length c.args.attempts.now = omega arith in
    ap (slice_set c.loop-attempt.attempts c.loop-attempt.attempt-index) (c.refuse.ensures ∙ ap unread (sym c.attempt-item.is))
    ∙ map_over_more unread c.args.attempts.now c.loop-attempt.attempts c.loop-attempt.attempt-index c.attempt-item.result within c.loop-attempt.invariant c.attempt-item.is

pub returns-clause-all : goal.returns-clause-all
returns-clause-all c =
    let whole : length c.args.attempts.now ≤ c.loop-attempt.attempt-index = omega arith in
    all_unread _ _ _ whole c.loop-attempt.invariant

pub returns-clause-blocks : goal.returns-clause-blocks
returns-clause-blocks c = same_blocks_of _ _ (returns-clause-all c)

pub returns-clause-none : goal.returns-clause-none
returns-clause-none c = none_written_of _ _ (returns-clause-all c)
