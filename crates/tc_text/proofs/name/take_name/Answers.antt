use Rattle.std.proofs.Common.{◌∙◌, sym}
use Rattle.tc_text.proofs.Lemmas.LinesOf.{name_not_low, same_cut}
use Rattle.tc_text.proofs.name.take_name.Goals as goal

pub returns-in_err-of_bytes-clause-only : goal.returns-in_err-of_bytes-clause-only
returns-in_err-of_bytes-clause-only c name rest is ends e =
    let cut = c.cut_low.ensures in
    let two = same_cut name rest c.cut_low.result.0.now c.cut_low.result.1.now (name_not_low name is) ends cut.before cut.behind (sym e ∙ cut.parts) in
    let found = c.in_err-of_bytes.ensures.valid.1 (rw two.0 is) in
    absurd cc

pub returns-clause-only : goal.returns-clause-only
returns-clause-only c name rest is ends e =
    let cut = c.cut_low.ensures in
    let two = same_cut name rest c.cut_low.result.0.now c.cut_low.result.1.now (name_not_low name is) ends cut.before cut.behind (sym e ∙ cut.parts) in
    (c.in_ok-of_bytes.ensures.spelled ∙ two.0, two.1)
