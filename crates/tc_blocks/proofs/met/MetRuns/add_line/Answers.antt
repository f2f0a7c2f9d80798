use Rattle.std.proofs.Common.{List, ◌∷◌, subst, sym}
use Rattle.tc_blocks.specs.{Met.AreMet, declared.line.Line.Line}
use Rattle.tc_blocks.proofs.met.MetRuns.add_line.Goals as goal

pub returns-in-Entry : goal.returns-in-Entry
returns-in-Entry c =
    subst (λ (l : Line). (ls : List Line) → AreMet c.args.self.now ls → AreMet c.add_entry.new.self (l ∷ ls)) (sym c.in-Entry.is) c.add_entry.ensures
