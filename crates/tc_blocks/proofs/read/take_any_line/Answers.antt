use Rattle.std.proofs.Common.{arith, refl}
use Rattle.tc_blocks.{specs.declared.line.Line.Line, proofs.NextLines.entry_next}
use Rattle.tc_blocks.proofs.read.take_any_line.Goals as goal

pub take_other-requires-clause-no_entry : goal.take_other-requires-clause-no_entry
take_other-requires-clause-no_entry g c e others right lines =
    let only = rw c.format.ensures at c.in_default.ensures.only in
    only e others (c.requires e others right lines) right lines

pub returns-in-Some : goal.returns-in-Some
returns-in-Some g c =
    let taken = c.in-Some.ensures in
    let block = c.args.block.now in
    let few = block.few in
    let only = rw c.format.ensures at taken.only in (
      (refl, refl),
      record {
        line = Line.Entry c.in-Some.entry;
        next = λ before kept.
            entry_next block.kind block.behaviours before c.args.text.now c.in-Some.entry c.in-Some.rest.now (omega (arith, few)) taken.spelled (rw c.format.ensures at taken.fits) taken.less (λ e others right lines. only e others (c.requires e others right lines) right lines);
        adds = c.add_entry.ensures;
        opened = c.in_ok-take_entry.ensures;
      },
    )

pub returns : goal.returns
returns g c = ((refl, refl), record { line = c.in-Some-found.other; next = rw c.in-Some-found.is at c.in_ok-found.ensures; adds = c.add_line.ensures; opened = c.in_ok-take.ensures })

pub returns-in_default-found : goal.returns-in_default-found
returns-in_default-found g c = rw c.in_default-found.is at c.in_ok-found.ensures
