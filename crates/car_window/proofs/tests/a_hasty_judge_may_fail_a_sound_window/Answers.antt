use Rattle.std.proofs.Common.{refl}
use Rattle.tc_entry.specs.Prelude.{is_name}
use Rattle.car_window.proofs.tests.a_hasty_judge_may_fail_a_sound_window.Goals as goal

pub case-requires-after_bounds : goal.case-requires-after_bounds
unfolding is_name
case-requires-after_bounds g c κs = refl

pub case-requires-in-loop-after_bounds : goal.case-requires-in-loop-after_bounds
unfolding is_name
case-requires-in-loop-after_bounds g c κs = refl
