use Rattle.std.proofs.Common.{refl, rules}
use Rattle.tc_blocks.{specs.Inside.{IsFirst, Refuses}, proofs.PartByPart.{bad_header, block_begins, gone_more, refused_more, with_none}}
use Rattle.tc_blocks.proofs.parts.begin_block.Goals as goal

pub returns-in_default-clause-fault : goal.returns-in_default-clause-fault
returns-in_default-clause-fault g c =
    let reading = c.args.reading.now in
    rw c.at.ensures
    (record { refused = λ before so. bad_header g.H.TakesEvidence.stands g.H.TakesEvidence.opens (IsFirst reading.only_histories) before c.args.text.now reading.made reading.line c.requires.some c.in_default.ensures.only (with_none g.H.TakesEvidence.stands g.H.TakesEvidence.opens before reading c.requires.closed so) })

pub returns-in_err-behind-clause-fault : goal.returns-in_err-behind-clause-fault
returns-in_err-behind-clause-fault g c =
    let first = c.in-Some.ensures in
    let bad : Refuses g.H.TakesEvidence.stands g.H.TakesEvidence.opens c.args.reading.now c.args.text.now c.in_err-behind.field-0.0 =
    refused_more g.H.TakesEvidence.stands g.H.TakesEvidence.opens c.args.reading.now _ c.args.text.now c.in-Some.rest.now c.in_err-behind.field-0.0
    (block_begins g.H.TakesEvidence.stands g.H.TakesEvidence.opens c.args.reading.now c.args.text.now c.in-Some.rest.now c.in-Some.header _ c.requires.closed first.spelled first.first first.only refl refl c.none.ensures c.in_ok-begun.ensures first.less)
    c.in_err-behind.ensures.fault in
    search (rules, bad)

pub returns-clause-read : goal.returns-clause-read
returns-clause-read g c =
    let first = c.in-Some.ensures in
    let all = gone_more g.H.TakesEvidence.stands g.H.TakesEvidence.opens c.args.reading.now _ c.take_inside.new.reading c.args.text.now c.in-Some.rest.now c.in_ok-behind.behind.now
    (block_begins g.H.TakesEvidence.stands g.H.TakesEvidence.opens c.args.reading.now c.args.text.now c.in-Some.rest.now c.in-Some.header _ c.requires.closed first.spelled first.first first.only refl refl c.none.ensures c.in_ok-begun.ensures first.less)
    c.in_ok-behind.ensures.read c.in_ok-behind.ensures.room in
    all.on
