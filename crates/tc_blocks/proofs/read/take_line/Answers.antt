use Rattle.std.proofs.Common.{arith, refl}
use Rattle.tc_blocks.{specs.{Inside.short_entry, Text.format_of, declared.line.Line.Line}, proofs.NextLines.entry_next}
use Rattle.tc_blocks.proofs.read.take_line.Goals as goal

pub take_any_line-requires : goal.take_any_line-requires
take_any_line-requires g c = c.in_default.ensures.only (format_of c.args.block.now.kind)

pub returns : goal.returns
returns g c =
    let taken = c.in-Some.ensures in
    let block = c.args.block.now in
    let few = block.few in
    let entry = short_entry c.in-Some.caller c.in-Some.short c.in-Some.reply in (
      (refl, refl),
      record {
        line = Line.Entry entry;
        next = λ before kept. entry_next block.kind block.behaviours before c.args.text.now entry c.in-Some.rest.now (omega (arith, few)) taken.spelled (taken.fits (format_of block.kind)) taken.less (taken.only (format_of block.kind));
        adds = λ before kept. c.add_caller.ensures before c.in-Some.short c.in-Some.reply kept;
        opened = c.in_ok-take_short.ensures;
      },
    )
