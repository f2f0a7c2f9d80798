use Rattle.std.{proofs.Common.{◌≡◌, ◌∙◌, ◌++◌, ◌∷◌, false, true, ap, sym, refl, arith}, specs.Fmt.decimal}
use Rattle.tc_text.proofs.Lemmas.LinesOf.{same_behind, ends_line}
use Rattle.tc_blocks.proofs.{Headers.behind_space, InnerLines.ends_at}
use Rattle.tc_blocks.proofs.header.take_behaviours.Goals as goal

pub returns-in_err-rest-clause-only : goal.returns-in_err-rest-clause-only
returns-in_err-rest-clause-only c n rest behind few format ends e = absurd (c.in_err-rest.ensures (decimal n ++ rest) e)

pub returns-in_err-number-clause-only : goal.returns-in_err-number-clause-only
returns-in_err-number-clause-only c n rest behind few format ends e =
    let number : c.in_ok-rest.rest.now ≡ decimal n ++ rest = behind_space c.in_ok-rest.rest.now (decimal n ++ rest) (sym c.in_ok-rest.ensures ∙ e) in
    let low = few.1 in
    absurd (c.in_err-number.ensures.only n rest (omega (arith, low)) (ends_line rest behind ends).0 number)

pub returns-in_err-rest-2-clause-only : goal.returns-in_err-rest-2-clause-only
returns-in_err-rest-2-clause-only c n rest behind few format ends e =
    let number : c.in_ok-rest.rest.now ≡ decimal n ++ rest = behind_space c.in_ok-rest.rest.now (decimal n ++ rest) (sym c.in_ok-rest.ensures ∙ e) in
    let low = few.1 in
    let two = c.in_ok-number.ensures.only n rest (omega (arith, low)) (ends_line rest behind ends).0 number in
    absurd (c.in_err-rest-2.ensures behind (ends_at c.in_ok-number.rest.now rest behind two.1 ends))

pub returns-in_err-behaviours-clause-only : goal.returns-in_err-behaviours-clause-only
returns-in_err-behaviours-clause-only c n rest behind few format ends e =
    let number : c.in_ok-rest.rest.now ≡ decimal n ++ rest = behind_space c.in_ok-rest.rest.now (decimal n ++ rest) (sym c.in_ok-rest.ensures ∙ e) in
    let low = few.1 in
    let two = c.in_ok-number.ensures.only n rest (omega (arith, low)) (ends_line rest behind ends).0 number in
    absurd (c.in_err-behaviours.ensures.none (rw two.0 few))

pub returns-then-not-fits_kind-clause-only : goal.returns-then-not-fits_kind-clause-only
returns-then-not-fits_kind-clause-only c n rest behind few format ends e =
    let number : c.in_ok-rest.rest.now ≡ decimal n ++ rest = behind_space c.in_ok-rest.rest.now (decimal n ++ rest) (sym c.in_ok-rest.ensures ∙ e) in
    let low = few.1 in
    let two = c.in_ok-number.ensures.only n rest (omega (arith, low)) (ends_line rest behind ends).0 number in
    let same = c.in_ok-behaviours.ensures.some.0 ∙ two.0 in
    let refused : false ≡ true = c.if-not-fits_kind.ensures.1 (rw same format) in
    absurd cc

pub returns-clause-spelled : goal.returns-clause-spelled
returns-clause-spelled c =
    let number = c.in_ok-number.ensures.spelled ∙ ap (λ k. decimal k ++ c.in_ok-number.rest.now) (sym c.in_ok-behaviours.ensures.some.0) in
    (c.in_ok-number.rest.now, c.in_ok-rest.ensures ∙ ap (λ l. 32 ∷ l) number, c.in_ok-rest-2.ensures)

pub returns-clause-fits : goal.returns-clause-fits
returns-clause-fits c = (c.in_ok-behaviours.ensures.some.1, c.if-not-fits_kind.ensures.0 refl)

pub returns-clause-only : goal.returns-clause-only
returns-clause-only c n rest behind few format ends e =
    let number : c.in_ok-rest.rest.now ≡ decimal n ++ rest = behind_space c.in_ok-rest.rest.now (decimal n ++ rest) (sym c.in_ok-rest.ensures ∙ e) in
    let low = few.1 in
    let two = c.in_ok-number.ensures.only n rest (omega (arith, low)) (ends_line rest behind ends).0 number in
    (c.in_ok-behaviours.ensures.some.0 ∙ two.0, same_behind c.in_ok-number.rest.now c.in_ok-rest-2.rest.now behind c.in_ok-rest-2.ensures (ends_at c.in_ok-number.rest.now rest behind two.1 ends))
