use Rattle.std.proofs.Common.{◌≡◌, ◌++◌, Err, Ok, Result, arith, drop, length, take}
use Rattle.std.proofs.lemmas.Grind.{common_steps}
use Rattle.std.specs.Result.{OnOk}
use Rattle.tc_model.proofs.TakenIn.{lacks_within, ways_after}
use Rattle.tc_model.proofs.given.Ways.take_in.Goals as goal

-- what two facts of an `Ok` give
both_ok : {T E : Type 0} (r : Result T E) (P Q R : Type 0) → (P → Q → R) → OnOk r P → OnOk r Q → OnOk r R
both_ok (Ok x) P Q R gives p q = gives p q
both_ok (Err x) P Q R gives p q = tt

pub give_all-requires : goal.give_all-requires
give_all-requires c =
    rw (c.as_mut_slice.ensures.value, c.requires.ways.as_many)
    (lacks_within _ _ _ _ _ c.requires.ways.starts c.requires.lacks c.requires.called.run)

pub returns : goal.returns
returns c =
    let kept : take c.args.self.now.given.len (c.give_all.new.given ++ drop (length c.give_all.new.given) c.args.self.now.given.items)
    ≡ c.give_all.new.given = grind (arith, common_steps) in
    both_ok c.start.result _ _ _
    (ways_after _ _ _ _ c.args.self.now _ _ c.give_all.new.given c.requires.ways c.as_mut_slice.ensures.value
    c.give_all.ensures.as_many c.requires.lacks c.in_ok-give_all.ensures.each)
    c.start.ensures.starts (rw kept at c.start.ensures.given)
