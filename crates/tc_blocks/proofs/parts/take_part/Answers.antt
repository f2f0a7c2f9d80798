use Rattle.std.proofs.Common.{rules}
use Rattle.tc_blocks.{specs.Inside.Refuses, proofs.PartByPart.{gone_more, refused_more}}
use Rattle.tc_blocks.proofs.parts.take_part.Goals as goal

pub loop-rest-preserved : goal.loop-rest-preserved
loop-rest-preserved g c =
    let one = c.in_ok-rest.ensures in
    (gone_more g.H.TakesEvidence.stands g.H.TakesEvidence.opens c.args.reading.now c.loop-rest.reading c.take_some.new.reading c.args.text.now c.loop-rest.rest.now c.in_ok-rest.rest.now c.loop-rest.invariant.0 one.read one.room, one.known)

pub returns-in_err-rest-clause-fault : goal.returns-in_err-rest-clause-fault
returns-in_err-rest-clause-fault g c =
    let bad : Refuses g.H.TakesEvidence.stands g.H.TakesEvidence.opens c.args.reading.now c.args.text.now c.in_err-rest.field-0.0 =
    refused_more g.H.TakesEvidence.stands g.H.TakesEvidence.opens c.args.reading.now c.loop-rest.reading c.args.text.now c.loop-rest.rest.now c.in_err-rest.field-0.0 c.loop-rest.invariant.0 c.in_err-rest.ensures.fault in
    search (rules, bad)
