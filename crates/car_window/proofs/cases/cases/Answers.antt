use Rattle.std.proofs.Common.{refl}
use Rattle.tc_entry.specs.Prelude.{is_name}
use Rattle.car_window.proofs.cases.cases.Goals as goal

pub case-requires-after_bounds : goal.case-requires-after_bounds
unfolding is_name
case-requires-after_bounds g c κs within = refl

pub case-requires-2-after_bounds : goal.case-requires-2-after_bounds
unfolding is_name
case-requires-2-after_bounds g c κs within = refl

pub case-requires-3-after_bounds : goal.case-requires-3-after_bounds
unfolding is_name
case-requires-3-after_bounds g c κs within = refl
