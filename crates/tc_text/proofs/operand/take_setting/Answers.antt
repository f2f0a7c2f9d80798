use Rattle.std.proofs.Common.{◌≡◌, sym}
use Rattle.tc_entry.specs.Prelude.{given}
use Rattle.tc_text.proofs.operand.take_setting.Goals as goal

pub returns-in_err-verdict-clause-only : goal.returns-in_err-verdict-clause-only
returns-in_err-verdict-clause-only c v rest e = absurd (c.in_err-verdict.ensures.only (given v) rest e)

pub returns-in_err-to_user-clause-only : goal.returns-in_err-to_user-clause-only
returns-in_err-to_user-clause-only c v rest e =
    let two = c.in_ok-verdict.ensures.only (given v) rest e in
    let some = c.in_err-to_user.ensures.only v (sym two.0) in
    absurd cc

pub returns-clause-spelled : goal.returns-clause-spelled
returns-clause-spelled c = rw c.in_ok-to_user.ensures.same c.in_ok-verdict.ensures.spelled

pub returns-clause-only : goal.returns-clause-only
returns-clause-only c v rest e =
    let two = c.in_ok-verdict.ensures.only (given v) rest e in
    let some = c.in_ok-to_user.ensures.only v (sym two.0) in
    let same : c.in_ok-to_user.field-0 ≡ v = cc in
    (same, two.1)
