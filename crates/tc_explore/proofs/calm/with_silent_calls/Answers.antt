use Rattle.std.proofs.Common.{rules, ◌≡◌, ◌∷◌, true, false}
use Rattle.tc_rules.specs.Prelude.{is_fault, past_of, answer, entry_made}
use Rattle.tc_course.specs.Prelude.{goes_on, IsTurn, IsOn}
use Rattle.tc_explore.{specs.Inside.Simulation.IsSilent, proofs.{Ahead.on_not_ended, Keeping.open_silent, Searching.{lead_call, stands_then}}}
use Rattle.tc_explore.proofs.calm.with_silent_calls.Goals as goal

pub loop-preserved : goal.loop-preserved
loop-preserved c =
    let scripts = c.args.scripts.now in
    let was = c.loop.invariant in
    let t = c.loop.course in
    let u = c.in_ok-course.course in
    let turn : IsTurn c.args.scripts.now (past_of c.loop.course) (entry_made c.loop.course.behaviours (past_of c.loop.course) c.args.run c.in-Some.op) = search rules in
    let plain : is_fault (answer c.loop.course.behaviours (past_of c.loop.course) c.args.run.0 c.in-Some.op) ≡ false = search rules in
    let goes : goes_on (answer c.loop.course.behaviours (past_of c.loop.course) c.args.run.0 c.in-Some.op) ≡ true = search rules in
    let silent : IsSilent c.args.aim c.args.scripts.now (past_of c.loop.course) c.args.run.0 c.in-Some.op = let yes : c.is_silent.result ≡ true = search rules in c.is_silent.ensures.silent yes in
    let added : past_of c.in_ok-course.course ≡ entry_made c.loop.course.behaviours (past_of c.loop.course) c.args.run c.in-Some.op ∷ past_of c.loop.course = search rules in
    let on : IsOn c.args.scripts.now c.in_ok-course.course = search rules in
    let next = open_silent scripts t u c.args.run c.in-Some.op was.0 on turn plain goes silent added in (
      next.0,
      stands_then scripts c.args.course t u was.1 (lead_call scripts t u c.args.run c.in-Some.op was.0.on turn plain (on_not_ended (answer t.behaviours (past_of t) c.args.run.0 c.in-Some.op) goes) silent added),
      next.1 was.2,
    )
