use Rattle.std.proofs.Common.{rules, ◌≡◌, ◌<◌, true, false, length, arith}
use Rattle.tc_rules.specs.Prelude.{past_of, is_over, level_of, overall, entry_made}
use Rattle.tc_course.specs.Prelude.{IsTurn}
use Rattle.tc_explore.{specs.{Inside.Seen.IsState, declared.search.Search.Search}, proofs.{Closed.run_closed, Kept.noted_further}}
use Rattle.tc_explore.proofs.search.Search.try_run.Goals as goal

pub returns-then-is_over-clause-further : goal.returns-then-is_over-clause-further
returns-then-is_over-clause-further c = let e = c.in_ok-note.ensures in noted_further c.args.self.now c.note.new.found c.requires.search e.found e.more_found e.more

pub returns-then-is_over-clause-closed : goal.returns-then-is_over-clause-closed
returns-then-is_over-clause-closed c =
    let s : Search = record { aim = c.args.self.now.aim; met = c.args.self.now.met; found = c.note.new.found } in
    let over : is_over (past_of c.in_ok-next.next) ≡ true = search rules in
    run_closed s c.args.course.now c.in_ok-copied.field-0 c.in_ok-next.next c.args.run c.in-Some.op c.requires.state c.requires.within (c.in-Some.ensures.some) c.in-Some.ensures.goes c.in_ok-copied.ensures.behaviours c.in_ok-copied.ensures.entries c.in_ok-next.ensures.added (λ o. c.in_ok-note.ensures.told) (λ o w. absurd cc)

pub returns-then-level-clause-closed : goal.returns-then-level-clause-closed
returns-then-level-clause-closed c =
    let going : is_over (past_of c.in_ok-next.next) ≡ false = search rules in
    let worse : level_of c.args.self.now.aim < level_of (overall (past_of c.in_ok-next.next)) = search rules in
    run_closed c.args.self.now c.args.course.now c.in_ok-copied.field-0 c.in_ok-next.next c.args.run c.in-Some.op c.requires.state c.requires.within (c.in-Some.ensures.some) c.in-Some.ensures.goes c.in_ok-copied.ensures.behaviours c.in_ok-copied.ensures.entries c.in_ok-next.ensures.added (λ o. absurd cc) (λ o w. absurd (omega (arith, w, worse)))

pub returns-clause-closed : goal.returns-clause-closed
returns-clause-closed c =
    let s = c.keep.new.self in
    let f = c.in_ok-keep.ensures.further in
    let going : is_over (past_of c.in_ok-next.next) ≡ false = search rules in
    let state : IsState c.keep.new.self.aim c.keep.new.self.met.scripts.now c.args.course.now = rw (f.aim, f.met.scripts) c.requires.state in
    let near : c.args.run.0 < length c.keep.new.self.met.scripts.now = rw f.met.scripts c.requires.within in
    let turn : IsTurn c.keep.new.self.met.scripts.now (past_of c.args.course.now) (entry_made c.args.course.now.behaviours (past_of c.args.course.now) c.args.run c.in-Some.op) = rw f.met.scripts c.in-Some.ensures.some in
    run_closed s c.args.course.now c.in_ok-copied.field-0 c.in_ok-next.next c.args.run c.in-Some.op state near turn c.in-Some.ensures.goes c.in_ok-copied.ensures.behaviours c.in_ok-copied.ensures.entries c.in_ok-next.ensures.added (λ o. absurd cc) (λ o w. rw (f.aim, f.met.scripts) c.in_ok-keep.ensures.seen)
