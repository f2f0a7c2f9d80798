use Rattle.std.proofs.Common.{rules, ◌≡◌, ◌∙◌, refl}
use Rattle.tc_rules.specs.Prelude.{Op}
use Rattle.tc_course.proofs.Followed.{noted_start}
use Rattle.tc_course.proofs.following.is_noted.Goals as goal

pub returns-then-eq-2 : goal.returns-then-eq-2
returns-then-eq-2 c =
    let s = c.in-Start-Start in
    let noted : c.args.noted.now ≡ Op.Start s.c s.r s.first = search rules in
    let called : c.args.op.now ≡ Op.Start s.comp s.run' s.args = search rules in
    let comp : s.comp ≡ s.c = search rules in
    let run : s.run' ≡ s.r = search rules in
    noted_start _ _ _ _ _ _ _ _ c.starts_with.result noted called comp run
    (c.starts_with.ensures.value ∙ rw (c.as_slice.ensures.same, c.as_slice-then-eq-2.ensures.same) refl)
