use Rattle.std.proofs.Common.{◌≡◌, ◌⊎◌, ◌∙◌, is_some, true, inl, inr, sym}
use Rattle.tc_blocks.{specs.Inside.IsFirst, proofs.{PartByPart.{early_if, whole_if}, parts.finish.Goals.{then-is_some-via-else-is_some+then-line-eq1, then-is_some-via-then-is_some}}}
use Rattle.tc_blocks.proofs.parts.finish.Goals as goal

pub returns-then-is_some-clause-fault : goal.returns-then-is_some-clause-fault
returns-then-is_some-clause-fault g c text so =
    let which : (is_some c.args.reading.block ≡ true) ⊎ (c.args.reading.line ≡ 1) = elim c.then-is_some.branch [ then-is_some-via-then-is_some w ↦ inl (sym c.is_some.ensures ∙ w.if-is_some.true) | then-is_some-via-else-is_some+then-line-eq1 w ↦ inr w.if-line-eq1.true ] in
    let early = early_if g.H.TakesEvidence.stands g.H.TakesEvidence.opens (IsFirst c.args.reading.only_histories) text c.args.reading.made c.args.reading.line c.args.reading.block which so in
    rw c.at.ensures early

pub returns-clause-ok : goal.returns-clause-ok
returns-clause-ok g c text so =
    whole_if g.H.TakesEvidence.stands g.H.TakesEvidence.opens (IsFirst c.args.reading.only_histories) text c.args.reading.made c.args.reading.line c.args.reading.block (sym c.if-is_some.ensures) c.if-line-eq1.false so
