use Rattle.std.proofs.Common.{◌∙◌, rules, subst, sym}
use Rattle.tc_blocks.{specs.Inside.{GoesOn, Refuses}, proofs.PartByPart.with_open}
use Rattle.tc_blocks.proofs.parts.take_some.Goals as goal

pub returns-in_err-rest-clause-fault : goal.returns-in_err-rest-clause-fault
returns-in_err-rest-clause-fault g c =
    let same = with_open c.args.reading.now c.in-Some.block (sym c.take.ensures.value ∙ c.in-Some.is) in
    let bad : Refuses g.H.TakesEvidence.stands g.H.TakesEvidence.opens c.args.reading.now c.args.text.now c.in_err-rest.field-0.0 =
    subst (λ r. Refuses g.H.TakesEvidence.stands g.H.TakesEvidence.opens r c.args.text.now c.in_err-rest.field-0.0) same c.in_err-rest.ensures.fault in
    search (rules, bad)

pub returns-clause-read : goal.returns-clause-read
returns-clause-read g c =
    let same = with_open c.args.reading.now c.in-Some.block (sym c.take.ensures.value ∙ c.in-Some.is) in
    subst (λ r. GoesOn g.H.TakesEvidence.stands g.H.TakesEvidence.opens r c.args.text.now c.take_inside.new.reading c.in_ok-rest.rest.now) same c.in_ok-rest.ensures.read
