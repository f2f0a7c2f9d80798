use Rattle.std.proofs.Common.{◌∙◌, List, [], ℕ, subst}
use Rattle.tc_blocks.{specs.Inside.{GoesOn, Refuses}, proofs.Unfinished.{end_read, end_refused, finished}}
use Rattle.tc_blocks.proofs.source.finish_bytes.Goals as goal

pub returns-in-Ok : goal.returns-in-Ok
returns-in-Ok g c bytes so =
    let reading = c.args.pending.reading in
    let after = c.take_part.new.reading in
    let done = c.finish.ensures in
    let part = subst (λ (x : List ℕ). GoesOn g.H.TakesEvidence.stands g.H.TakesEvidence.opens reading x after []) c.as_slice.ensures.value c.in-Ok.ensures.read in
    finished g.H.TakesEvidence.stands g.H.TakesEvidence.opens after bytes c.finish.result (part.same ∙ c.requires.any)
    (end_read g.H.TakesEvidence.stands g.H.TakesEvidence.opens reading after c.args.pending.unfinished.items bytes so part) done.ok done.fault

pub returns-in-Err : goal.returns-in-Err
returns-in-Err g c bytes so =
    end_refused g.H.TakesEvidence.stands g.H.TakesEvidence.opens c.args.pending.reading c.args.pending.unfinished.items bytes c.in-Err.fault c.requires.any so
    (subst (λ (x : List ℕ). Refuses g.H.TakesEvidence.stands g.H.TakesEvidence.opens c.args.pending.reading x c.in-Err.fault) c.as_slice.ensures.value c.in-Err.ensures.fault)
