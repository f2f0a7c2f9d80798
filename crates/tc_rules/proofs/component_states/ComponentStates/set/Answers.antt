use Rattle.std.proofs.Common.{◌<◌, ◌≤◌, length, get_or}
use Rattle.tc_entry.specs.Prelude.{level_of}
use Rattle.tc_rules.proofs.{Counting.{counted_set, done_at, killed_at, lapsed_at, main_set, running_at}, component_states.ComponentStates.set.Goals.{else-i-gt0, then-i-gt0}}
use Rattle.tc_rules.proofs.component_states.ComponentStates.set.Goals as goal

pub recount-self-inside-requires-clause-had : goal.recount-self-inside-requires-clause-had
recount-self-inside-requires-clause-had c =
    rw c.is_running.ensures (running_at c.args.i c.index-old.result.now c.self.invariant c.if-i-gt0.true (rw c.self.view_is c.requires.within) c.index-old.ensures)

pub recount-self-inside-requires-then-i-gt0-clause-had : goal.recount-self-inside-requires-then-i-gt0-clause-had
recount-self-inside-requires-then-i-gt0-clause-had c =
    rw c.is_done.ensures (done_at c.args.i c.index-old.result.now c.self.invariant c.if-i-gt0.true (rw c.self.view_is c.requires.within) c.index-old.ensures)

pub recount-self-inside-requires-then-i-gt0-2-clause-had : goal.recount-self-inside-requires-then-i-gt0-2-clause-had
recount-self-inside-requires-then-i-gt0-2-clause-had c =
    rw c.is_killed.ensures (killed_at c.args.i c.index-old.result.now c.self.invariant c.if-i-gt0.true (rw c.self.view_is c.requires.within) c.index-old.ensures)

pub recount-self-inside-requires-then-i-gt0-3-clause-had : goal.recount-self-inside-requires-then-i-gt0-3-clause-had
recount-self-inside-requires-then-i-gt0-3-clause-had c =
    rw c.is_lapsed.ensures (lapsed_at c.args.i c.index-old.result.now c.self.invariant c.if-i-gt0.true (rw c.self.view_is c.requires.within) c.index-old.ensures)

pub invariant_of-self : goal.invariant_of-self
invariant_of-self c =
    let within : c.args.i < length c.self.inside.states.items = rw c.self.view_is c.requires.within in
    let no_better : level_of (get_or c.self.inside.states.items c.args.i c.args.state).local ≤ level_of c.args.state.local = rw c.self.view_is c.requires.no_better in
    elim c.if-i-gt0.branch [
      | then-i-gt0 w ↦
          rw w.self-inside-is
          (counted_set c.args.i c.index-old.result.now c.args.state _ _ _ _ _ c.self.invariant w.if-i-gt0.true within c.index-old.ensures no_better
          (rw (w.is_running.ensures, w.is_running-then-i-gt0.ensures) at w.recount-self-inside.ensures)
          (rw (w.is_done.ensures, w.is_done-then-i-gt0.ensures) at w.recount-self-inside-then-i-gt0.ensures)
          (rw (w.is_killed.ensures, w.is_killed-then-i-gt0.ensures) at w.recount-self-inside-then-i-gt0-2.ensures)
          (rw (w.is_lapsed.ensures, w.is_lapsed-then-i-gt0.ensures) at w.recount-self-inside-then-i-gt0-3.ensures)
          (rw w.self-inside-is at c.worse_of-self-inside.ensures))
      | else-i-gt0 w ↦
          rw w.self-inside-is (main_set c.args.i c.args.state _ c.self.invariant w.if-i-gt0.false within no_better (rw w.self-inside-is at c.worse_of-self-inside.ensures))
    ]
