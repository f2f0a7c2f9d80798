use Rattle.std.proofs.{Common.{◌++◌, ◌∙◌, ap, drop, length}, lemmas.List.drop-replicate}
use Rattle.std.specs.Prelude.{replicate}
use Rattle.tc_entry.proofs.name.padded.Goals as goal

pub returns : goal.returns
returns c =
    ap (λ l. l ++ drop (length c.args.bytes.now) (replicate 32 0)) c.copy_from_slice.ensures.after
    ∙ ap (λ l. c.args.bytes.now ++ l) (drop-replicate (length c.args.bytes.now) 32 0)
