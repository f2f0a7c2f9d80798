use Rattle.std.proofs.Common.{◌∙◌, sym}
use Rattle.tc_reader.{specs.Words.is_text, proofs.Placed.absent_head_at_end}
use Rattle.tc_reader.proofs.names.Heads.place_of.Goals as goal

pub returns-in-None-clause-place : goal.returns-in-None-clause-place
unfolding is_text
returns-in-None-clause-place c = rw (← c.self.view_is) (c.len.ensures.len ∙ sym (absent_head_at_end c.args.name.now c.self.inside.map.entries (sym c.in-None.ensures.index)))
