use Rattle.std.{proofs.Common.{◌∙◌, sym, ap}, specs.Prelude.is_some}
use Rattle.tc_reader.proofs.Binding.{head_added}
use Rattle.tc_reader.proofs.names.Heads.add.Goals as goal

pub returns-clause-added : goal.returns-clause-added
returns-clause-added c = rw (← c.self.view_is) (c.in_ok-insert.ensures.entries ∙ head_added c.self.inside.map c.args.name.now _ c.args.parameters c.copy.ensures (rw c.self.view_is (ap is_some (sym c.parameters_of.ensures) ∙ sym c.is_some.ensures ∙ c.if-is_some.false)))
