use Rattle.std.{proofs.Common.{◌∙◌, ◌++◌, ◌∷◌, sym, arith}, specs.Fmt.decimal}
use Rattle.tc_text.proofs.Lemmas.LinesOf.{ends_line}
use Rattle.tc_blocks.proofs.{Headers.behind_space, InnerLines.{ends_at, same_lines}, Lemmas.Notes.{space_ends, begins_with_naming, behind_word, naming_spelled, same_naming}}
use Rattle.tc_blocks.proofs.note.take_naming.Goals as goal

pub returns-in_err-rest-clause-only : goal.returns-in_err-rest-clause-only
returns-in_err-rest-clause-only c k name others few is lines =
    let begins = begins_with_naming c.args.text.now k name others lines in
    absurd (c.in_err-rest.ensures (decimal k ++ (32 ∷ (name ++ begins.rest))) begins.parts)

pub returns-in_err-run-clause-only : goal.returns-in_err-run-clause-only
returns-in_err-run-clause-only c k name others few is lines =
    let begins = begins_with_naming c.args.text.now k name others lines in
    let word = behind_word c.in_ok-rest.rest.now (decimal k ++ (32 ∷ (name ++ begins.rest))) (sym c.in_ok-rest.ensures ∙ begins.parts) in
    absurd (c.in_err-run.ensures.only k (32 ∷ (name ++ begins.rest)) few (space_ends (name ++ begins.rest)) word)

pub returns-in_err-rest-2-clause-only : goal.returns-in_err-rest-2-clause-only
returns-in_err-rest-2-clause-only c k name others few is lines =
    let begins = begins_with_naming c.args.text.now k name others lines in
    let word = behind_word c.in_ok-rest.rest.now (decimal k ++ (32 ∷ (name ++ begins.rest))) (sym c.in_ok-rest.ensures ∙ begins.parts) in
    let ran = c.in_ok-run.ensures.only k (32 ∷ (name ++ begins.rest)) few (space_ends (name ++ begins.rest)) word in
    absurd (c.in_err-rest-2.ensures (name ++ begins.rest) ran.1)

pub returns-in_err-name-clause-only : goal.returns-in_err-name-clause-only
returns-in_err-name-clause-only c k name others few is lines =
    let begins = begins_with_naming c.args.text.now k name others lines in
    let word = behind_word c.in_ok-rest.rest.now (decimal k ++ (32 ∷ (name ++ begins.rest))) (sym c.in_ok-rest.ensures ∙ begins.parts) in
    let ran = c.in_ok-run.ensures.only k (32 ∷ (name ++ begins.rest)) few (space_ends (name ++ begins.rest)) word in
    let space = behind_space c.in_ok-rest-2.rest.now (name ++ begins.rest) (sym c.in_ok-rest-2.ensures ∙ ran.1) in
    absurd (c.in_err-name.ensures.only name begins.rest is (ends_line begins.rest begins.behind begins.ends).0 space)

pub returns-in_err-rest-3-clause-only : goal.returns-in_err-rest-3-clause-only
returns-in_err-rest-3-clause-only c k name others few is lines =
    let begins = begins_with_naming c.args.text.now k name others lines in
    let word = behind_word c.in_ok-rest.rest.now (decimal k ++ (32 ∷ (name ++ begins.rest))) (sym c.in_ok-rest.ensures ∙ begins.parts) in
    let ran = c.in_ok-run.ensures.only k (32 ∷ (name ++ begins.rest)) few (space_ends (name ++ begins.rest)) word in
    let space = behind_space c.in_ok-rest-2.rest.now (name ++ begins.rest) (sym c.in_ok-rest-2.ensures ∙ ran.1) in
    let named = c.in_ok-name.ensures.only name begins.rest is (ends_line begins.rest begins.behind begins.ends).0 space in
    absurd (c.in_err-rest-3.ensures begins.behind (ends_at c.in_ok-name.rest.now begins.rest begins.behind named.1 begins.ends))

pub returns-clause-spelled : goal.returns-clause-spelled
returns-clause-spelled c =
    let few = c.in_ok-run.ensures.few in
    naming_spelled c.args.text.now c.in_ok-rest.rest.now c.in_ok-run.rest.now c.in_ok-rest-2.rest.now c.in_ok-name.rest.now c.in_ok-rest-3.rest.now c.in_ok-run.run'.0 c.in_ok-name.name
    c.in_ok-rest.ensures c.in_ok-run.ensures.spelled c.in_ok-rest-2.ensures c.in_ok-name.ensures.spelled c.in_ok-rest-3.ensures (let low = few.1 in omega (arith, low)) c.in_ok-name.ensures.fits

pub returns-clause-only : goal.returns-clause-only
returns-clause-only c k name others few is lines =
    let begins = begins_with_naming c.args.text.now k name others lines in
    let word = behind_word c.in_ok-rest.rest.now (decimal k ++ (32 ∷ (name ++ begins.rest))) (sym c.in_ok-rest.ensures ∙ begins.parts) in
    let ran = c.in_ok-run.ensures.only k (32 ∷ (name ++ begins.rest)) few (space_ends (name ++ begins.rest)) word in
    let space = behind_space c.in_ok-rest-2.rest.now (name ++ begins.rest) (sym c.in_ok-rest-2.ensures ∙ ran.1) in
    let named = c.in_ok-name.ensures.only name begins.rest is (ends_line begins.rest begins.behind begins.ends).0 space in (
      same_naming c.in_ok-run.run' c.in_ok-name.name k name ran.0 named.0,
      same_lines c.in_ok-name.rest.now begins.rest c.in_ok-rest-3.rest.now begins.behind others named.1 c.in_ok-rest-3.ensures begins.ends begins.lines,
    )
