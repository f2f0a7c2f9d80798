use Rattle.std.proofs.{Common.{◌≡◌, ◌∷◌, [], ◌++◌, arith}, lemmas.Grind.common_steps}
use Rattle.tc_text.proofs.Operands.{no_args, no_number, args_spelled, args_only}
use Rattle.tc_text.proofs.operand.+take_args.Goals as goal

pub returns-in_default-clause-only : goal.returns-in_default-clause-only
returns-in_default-clause-only t c cs rest fits room ends e = no_args c.args.text.now c.args.args.now cs rest c.in_default.ensures e

pub returns-in_default-take_number-clause-only : goal.returns-in_default-take_number-clause-only
returns-in_default-take_number-clause-only t c cs rest fits room ends e = no_number c.args.text.now c.in-Some.rest.now c.args.args.now cs rest c.in-Some.ensures c.in_default-take_number.ensures.only fits ends e

pub returns-clause-spelled : goal.returns-clause-spelled
returns-clause-spelled t c =
    let is = c.in-Some-take_number.ensures in
    let added : c.push.new.self ≡ c.args.args.now ++ record { 0 = c.in-Some-take_number.number } ∷ [] = grind (arith, common_steps) in
    args_spelled c.args.text.now c.in-Some.rest.now c.in-Some-take_number.rest.now c.take_args.result.now c.in-Some-take_number.number c.args.args.now c.push.new.self c.take_args.new.args c.in-Some.ensures is.spelled is.fits added c.take_args.ensures.spelled

pub returns-clause-only : goal.returns-clause-only
returns-clause-only t c cs rest fits room ends e =
    let is = c.in-Some-take_number.ensures in
    let added : c.push.new.self ≡ c.args.args.now ++ record { 0 = c.in-Some-take_number.number } ∷ [] = grind (arith, common_steps) in
    args_only c.args.text.now c.in-Some.rest.now c.in-Some-take_number.rest.now c.take_args.result.now c.in-Some-take_number.number c.args.args.now c.push.new.self c.take_args.new.args c.in-Some.ensures is.spelled is.fits added is.only c.take_args.ensures.only cs rest fits room ends e
