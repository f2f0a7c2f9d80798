use Rattle.std.proofs.{Common.{◌∙◌, ap, length, sym, take}, Math.Seq.take-append_seam}
use Rattle.tc_entry.specs.Name.{IsName}
use Rattle.tc_entry.proofs.Padded.{kept}
use Rattle.tc_entry.proofs.name.Name.of_bytes.Goals as goal

pub invariant_of-result : goal.invariant_of-result
invariant_of-result c = kept IsName _ _ 32 0 c.padded.ensures (sym c.is_name.ensures ∙ c.if-not-is_name.false)

pub returns-clause-spelled : goal.returns-clause-spelled
returns-clause-spelled c = ap (take (length c.args.bytes.now)) c.padded.ensures ∙ take-append_seam c.args.bytes.now _
