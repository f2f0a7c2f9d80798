use Rattle.std.proofs.Common.{◌≤◌, arith}
use Rattle.tc_rules.specs.Prelude.{past_of, components}
use Rattle.tc_explore.proofs.Marking.{locals_all}
use Rattle.tc_explore.proofs.marks.Marks.note_all.Goals as goal

pub returns-clause-has : goal.returns-clause-has
returns-clause-has c =
    let whole : components (past_of c.args.course.now) ≤ c.loop-comp.comp = omega (arith, c.loop-comp-test.false, c.components-comp-end.ensures) in
    locals_all c.args.scripts.now c.loop-comp.self.found.items c.args.course.now c.loop-comp.comp c.requires.on whole c.loop-comp.invariant.2
