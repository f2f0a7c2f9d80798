use Rattle.std.proofs.Common.{sym}
use Rattle.tc_model.proofs.TakenIn.{lacks_within, refused_much, refused_new, taken_in}
use Rattle.tc_model.proofs.given.Ways.take.Goals as goal

pub returns-then-is_too_new : goal.returns-then-is_too_new
returns-then-is_too_new c =
    refused_new c.args.course.now.behaviours _ _ _ c.args.self.now c.in_ok-lacks.ensures (rw (← c.as_slice-2.ensures.value) (sym c.if-is_too_new.ensures))

pub returns-then-is_too_much : goal.returns-then-is_too_much
returns-then-is_too_much c =
    refused_much c.args.course.now.behaviours _ _ _ _
    (lacks_within _ _ _ _ _ c.requires.ways.starts c.in_ok-lacks.ensures c.requires.called.run) c.in_ok-lacks.ensures c.in_ok-take_in.ensures
    (rw (← c.as_slice-2.ensures.value) (sym c.if-is_too_new.ensures))
    (rw (← c.as_slice-4.ensures.value, ← c.as_slice-5.ensures.value) (sym c.if-is_too_much.ensures))

pub returns : goal.returns
returns c =
    taken_in c.args.course.now.behaviours _ _ _ _
    (lacks_within _ _ _ _ _ c.requires.ways.starts c.in_ok-lacks.ensures c.requires.called.run) c.in_ok-lacks.ensures c.in_ok-take_in.ensures
    (rw (← c.as_slice-2.ensures.value) (sym c.if-is_too_new.ensures))
    (rw (← c.as_slice-4.ensures.value, ← c.as_slice-5.ensures.value) (sym c.if-is_too_much.ensures))
