use Rattle.std.proofs.Common.{◌<◌, ◌++◌, ◌∙◌, ap, arith, rules}
use Rattle.tc_blocks.{specs.Inside.RefusesPart, proofs.Unfinished.{part_refused, part_taken}}
use Rattle.tc_blocks.proofs.source.take_bytes.Goals as goal

pub returns-in_err-take_part-clause-fault : goal.returns-in_err-take_part-clause-fault
returns-in_err-take_part-clause-fault g c =
    let pending = c.args.pending.now in
    let unfinished = pending.unfinished.items in
    let none = c.if-end-eq0.false in
    let some : 0 < c.whole_lines-end.result = omega (arith, none) in
    let bad : RefusesPart g.H.TakesEvidence.stands g.H.TakesEvidence.opens pending.reading unfinished c.args.part.now c.in_err-take_part.field-0.0 =
    part_refused g.H.TakesEvidence.stands g.H.TakesEvidence.opens pending.reading unfinished c.args.part.now c.as_slice.result.now c.split_at.result.1.now c.whole_lines-end.result c.in_err-take_part.field-0.0
    some c.whole_lines-end.ensures.within (c.whole_lines-end.ensures.ended some) (c.as_slice.ensures.value ∙ (c.in_ok-keep-2.ensures ∙ ap (λ x. unfinished ++ x) c.split_at.ensures.front)) c.split_at.ensures.back c.in_err-take_part.ensures.fault in
    search (rules, bad)

pub returns-clause-read : goal.returns-clause-read
returns-clause-read g c =
    let pending = c.args.pending.now in
    let unfinished = pending.unfinished.items in
    let none = c.if-end-eq0.false in
    let some : 0 < c.whole_lines-end.result = omega (arith, none) in
    part_taken g.H.TakesEvidence.stands g.H.TakesEvidence.opens pending.reading c.take_part.new.reading unfinished c.args.part.now c.as_slice.result.now c.keep-3.new.unfinished.items c.whole_lines-end.result
    some c.whole_lines-end.ensures.within (c.whole_lines-end.ensures.ended some) (c.as_slice.ensures.value ∙ (c.in_ok-keep-2.ensures ∙ ap (λ x. unfinished ++ x) c.split_at.ensures.front))
    (c.in_ok-keep-3.ensures ∙ (ap (λ x. x ++ c.split_at.result.1.now) c.clear.ensures.items ∙ c.split_at.ensures.back)) c.in_ok-take_part.ensures.read
