use Rattle.std.proofs.Common.{◌∙◌, refl, sym}
use Rattle.tc_blocks.proofs.BlockBytes.{block_ends, byte_comes, line_ends}
use Rattle.tc_blocks.proofs.limit.OpenBytes.after.Goals as goal

pub returns-then-byte-ne10 : goal.returns-then-byte-ne10
returns-then-byte-ne10 c most text room so = byte_comes most text c.args.self.now c.args.byte so _ room c.if-byte-ne10.true refl c.due_after-due.ensures

pub returns-then-is_last : goal.returns-then-is_last
returns-then-is_last c most text room so =
    block_ends most text c.args.self.now c.args.byte so _ room c.if-byte-ne10.false (sym c.is_last.ensures ∙ c.if-is_last.true) c.none.ensures.bytes c.none.ensures.due

pub returns : goal.returns
returns c most text room so =
    line_ends most text c.args.self.now c.args.byte so _ room c.if-byte-ne10.false (sym c.is_last.ensures ∙ c.if-is_last.false) refl (λ more. refl)
