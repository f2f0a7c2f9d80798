use Rattle.std.proofs.{Common.{◌++◌, take}, lemmas.Bool.{MatchBool-at_false, MatchBool-at_true}}
use Rattle.tc_blocks.proofs.BlockBytes.{part_goes_on, part_too_long}
use Rattle.tc_blocks.proofs.limit.OpenBytes.take.Goals as goal

pub loop-byte-preserved : goal.loop-byte-preserved
loop-byte-preserved c text so =
    let part = c.args.part.now in
    let i = c.loop-byte.byte-index in
    part_goes_on c.args.most text part c.take_byte.new.self i _ c.loop-byte-test.true
    (MatchBool-at_true _ _ c.if-not-take_byte.false (c.take_byte.ensures (text ++ take i part) (c.loop-byte.invariant text so)))

pub returns-then-not-take_byte : goal.returns-then-not-take_byte
returns-then-not-take_byte c text so rest =
    let part = c.args.part.now in
    let i = c.loop-byte.byte-index in
    part_too_long c.args.most text part rest i _ c.loop-byte-test.true
    (MatchBool-at_false _ _ c.if-not-take_byte.true (c.take_byte.ensures (text ++ take i part) (c.loop-byte.invariant text so)))
