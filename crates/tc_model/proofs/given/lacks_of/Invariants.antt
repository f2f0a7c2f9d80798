use Rattle.std.proofs.Common.{◌≡◌, ◌++◌, All, length, map}
use Rattle.std.specs.Vec.Iter.{into_iter_items, into_iter_len}
use Rattle.tc_rules.specs.Prelude.{names, past_of}
use Rattle.tc_model.specs.{Naming.lacking, declared.given.Lack.Lack}
use Rattle.tc_model.proofs.given.lacks_of.Given as goal

-- the components so far, each with the runs that lack it, and those that are left, are all
abbrev pub invariant-loop-comp : goal.invariant-loop-comp
invariant-loop-comp l = record {
  next : goal.iterator-loop-comp.can_next l.comp-iterator;
  finite : goal.iterator-loop-comp.is_finite l.comp-iterator;
  left : into_iter_len l.comp-iterator ≡ length (into_iter_items l.comp-iterator);
  comps : map (λ (k : Lack). k.comp) l.lacks.items ++ into_iter_items l.comp-iterator ≡ names l.entry.op;
  runs : All (λ (k : Lack). k.runs.items ≡ lacking (past_of l.course) l.entry.caller.0 k.comp.0) l.lacks.items;
}
