use Rattle.std.proofs.Common.{refl}
use Rattle.tc_entry.specs.Prelude.{is_name}
use Rattle.car_window.proofs.tests.a_window_that_does_not_move_fails.Goals as goal

pub case-requires-after_bounds : goal.case-requires-after_bounds
unfolding is_name
case-requires-after_bounds g c κs = refl
