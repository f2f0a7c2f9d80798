use Rattle.std.proofs.Common.{◌∙◌, ap, length}
use Rattle.tc_entry.{specs.{Inside.any_of, Name.matches}, proofs.Patterns.{first_alone, first_length, next_behind, next_passed}}
use Rattle.tc_entry.proofs.pattern.places_of.Goals as goal

pub loop-byte-init : goal.loop-byte-init
loop-byte-init c =
    let name = c.args.name.now in
    let first = c.first_place-places.ensures in
    (ap (λ l. any_of (matches c.args.pattern.now) l name) first ∙ first_alone (matches c.args.pattern.now) name name, ap length first ∙ first_length name)

pub loop-byte-preserved-then-byte-eq42 : goal.loop-byte-preserved-then-byte-eq42
loop-byte-preserved-then-byte-eq42 c =
    next_behind _ _ _ c.args.name.now c.args.pattern.now _ _ _ c.in-Some.ensures.cases.0 c.if-byte-eq42.true c.as_slice.ensures.value c.behind_any-places.ensures c.loop-byte.invariant

pub loop-byte-preserved : goal.loop-byte-preserved
loop-byte-preserved c =
    next_passed _ _ _ c.args.name.now c.args.pattern.now _ _ _ c.in-Some.ensures.cases.0 c.if-byte-eq42.false c.as_slice-else-byte-eq42.ensures.value c.behind_byte-places.ensures c.loop-byte.invariant
