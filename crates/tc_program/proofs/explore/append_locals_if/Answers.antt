use Rattle.tc_program.proofs.Exploring.{asked}
use Rattle.tc_program.proofs.explore.append_locals_if.Goals as goal

pub returns : goal.returns
returns c = asked c.args.locals c.args.states c.args.scripts.now _ _ c.if-not-locals.false (record {
  locals = c.in_ok-locals.locals;
  sound = c.in_ok-locals.ensures.sound;
  complete = c.in_ok-locals.ensures.complete;
  met = c.in_ok-locals.ensures.met;
  most = c.in_ok-locals.ensures.most;
  undecided = c.in_ok-locals.ensures.undecided;
  told = c.in_ok-append_locals.ensures;
})
