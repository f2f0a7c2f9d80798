use Rattle.std.proofs.Common.{◌≡◌, Some}
use Rattle.tc_serve.proofs.Feeding.{uncounted}
use Rattle.tc_serve.proofs.service.serve_lines.Goals as goal

pub returns-clause-ending : goal.returns-clause-ending
returns-clause-ending g c = uncounted _ _ _ _ _ _ _ _ _ c.loop-turns.invariant.at_ c.loop-turns-test.false

pub returns-in-Ok-Some-clause-ending : goal.returns-in-Ok-Some-clause-ending
returns-in-Ok-Some-clause-ending g c =
    let first = c.in-Ok-Some.field-0-is in
    let second = c.in-Ok-Some.served-is in
    let is : c.in-Ok-Some.field-0 ≡ Some c.in-Ok-Some.served = cc in
    rw is at ((rw c.in-Ok-Some.is at c.turn.ensures.turn) _ _ _ _ c.loop-turns.invariant.at_)

pub returns-in-Err-clause-ending : goal.returns-in-Err-clause-ending
returns-in-Err-clause-ending g c = (rw c.in-Err.is at c.turn.ensures.turn) _ _ _ _ c.loop-turns.invariant.at_
