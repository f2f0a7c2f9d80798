use Rattle.tc_rules.specs.Prelude.{past_of}
use Rattle.tc_explore.{specs.{Found.AreLocals, Inside.Twins.IsMore}, proofs.Marking.HasLocalsTo}
use Rattle.tc_explore.proofs.marks.Marks.note_all.Given as goal

abbrev pub invariant-loop-comp : goal.invariant-loop-comp
invariant-loop-comp l =
    AreLocals l.scripts l.self.found.items
    × IsMore l.initial.self.found.items l.self.found.items
    × HasLocalsTo l.self.found.items (past_of l.course) l.comp
