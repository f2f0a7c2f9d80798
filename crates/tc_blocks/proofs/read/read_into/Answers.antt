use Rattle.std.proofs.Common.{rules}
use Rattle.tc_blocks.{specs.{Inside.IsFirst, Text.IsFault}, proofs.PartByPart.refused_whole}
use Rattle.tc_blocks.proofs.read.read_into.Goals as goal

pub returns-in_err-take_part-clause-fault : goal.returns-in_err-take_part-clause-fault
returns-in_err-take_part-clause-fault g c =
    let reading = c.new-reading.ensures in
    let bad : IsFault (IsFirst c.args.only_histories) c.args.text.now c.in_err-take_part.field-0.0 =
    refused_whole g.H.TakesEvidence.stands g.H.TakesEvidence.opens c.new-reading.result c.args.only_histories c.args.text.now c.in_err-take_part.field-0.0 reading.same reading.read c.in_err-take_part.ensures.fault in
    search (rules, bad)
