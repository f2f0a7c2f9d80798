use Rattle.std.proofs.Common.{◌∙◌}
use Rattle.tc_reader.{specs.Words.is_text, proofs.Placed.place_is}
use Rattle.tc_reader.proofs.names.Names.find.Goals as goal

pub returns-clause-place : goal.returns-clause-place
unfolding is_text
returns-clause-place c = rw (← c.self.view_is) (c.get_index_of.ensures.index ∙ place_is c.args.name.now c.self.inside.set.keys)
