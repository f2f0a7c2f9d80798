use Rattle.std.proofs.Common.{refl}
use Rattle.tc_rules.proofs.Lemmas.Differing.{not_merged}
use Rattle.tc_explored.proofs.details.state_after.Goals as goal

pub unreachable-requires : goal.unreachable-requires
unreachable-requires c =
    not_merged c.args.behaviours c.args.behaviours c.args.entries.now c.args.entries.now c.in-Err-Differs.field-0 c.in-Err-Differs.field-0-0 c.in-Err-Differs.field-0-1
    c.in-Err-Differs.ensures.fault c.in-Err-Differs.field-0-is refl refl c.requires.legal
