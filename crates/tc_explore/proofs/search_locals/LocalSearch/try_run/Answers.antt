use Rattle.std.proofs.Common.{rules, ◌≡◌, false}
use Rattle.tc_rules.specs.Prelude.{past_of, is_over, entry_made}
use Rattle.tc_course.specs.Prelude.{IsTurn}
use Rattle.tc_explore.proofs.{Kept.on_ok, LocalsClosed.local_next}
use Rattle.tc_explore.proofs.search_locals.LocalSearch.try_run.Goals as goal

pub returns : goal.returns
returns c =
    let t = c.args.course.now in
    let turn : IsTurn c.args.self.now.met.scripts.now (past_of c.args.course.now) (entry_made c.args.course.now.behaviours (past_of c.args.course.now) c.args.run c.in-Some.op) = search rules in
    let going : is_over (past_of c.in_ok-next.next) ≡ false = search rules in
    let next = local_next c.args.self.now t c.in_ok-copied.field-0 c.in_ok-next.next c.args.run c.in-Some.op c.place.new.self c.requires.search c.requires.state turn
    (record { behaviours = c.in_ok-copied.ensures.behaviours; entries = c.in_ok-copied.ensures.entries }) c.in_ok-next.ensures.behaviours c.in_ok-next.ensures.added going in
    record { further = on_ok c.place.result (λ p. (next p).0) c.place.ensures; closed = on_ok c.place.result (λ p. (next p).1) c.place.ensures }
