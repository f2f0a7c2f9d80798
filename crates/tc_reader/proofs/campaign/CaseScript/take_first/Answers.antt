use Rattle.tc_reader.proofs.Making.{others_make}
use Rattle.tc_reader.proofs.campaign.CaseScript.take_first.Goals as goal

pub invariant_of-self-2 : goal.invariant_of-self-2
invariant_of-self-2 c = others_make c.self.inside.drafts.items c.pop_front.new.self.items c.in_ok-pop_front.field-0 c.in_ok-pop_front.ensures.items c.self.invariant
