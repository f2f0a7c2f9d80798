use Rattle.std.proofs.Common.{refl, sym}
use Rattle.tc_course.proofs.standing.Standing.turn.Goals as goal

pub returns-in-None : goal.returns-in-None
returns-in-None c = rw (sym c.self.view_is, c.in_ok-me.was, c.if-self.false, c.in-None.is, c.call_at.ensures, c.deref.ensures.value) refl
