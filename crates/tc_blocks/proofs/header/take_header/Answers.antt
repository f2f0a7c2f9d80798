use Rattle.std.{proofs.Common.{◌∙◌, ◌++◌, ◌∷◌, ap, refl}, specs.Fmt.decimal}
use Rattle.tc_text.specs.Prelude.{lines_of}
use Rattle.tc_blocks.proofs.{Headers.{begins_with_header, header_spelled, same_header}, Lemmas.Notes.space_ends}
use Rattle.tc_blocks.proofs.header.take_header.Goals as goal

pub returns-in_err-kind-clause-only : goal.returns-in_err-kind-clause-only
returns-in_err-kind-clause-only c h others header lines =
    let begins = begins_with_header c.args.text.now h others lines in
    absurd (c.in_err-kind.ensures.only h.kind (h.name ++ (32 ∷ (decimal h.behaviours ++ begins.rest))) begins.parts)

pub returns-in_err-name-clause-only : goal.returns-in_err-name-clause-only
returns-in_err-name-clause-only c h others header lines =
    let begins = begins_with_header c.args.text.now h others lines in
    let behind_name = 32 ∷ (decimal h.behaviours ++ begins.rest) in
    let first = c.in_ok-kind.ensures.only h.kind (h.name ++ behind_name) begins.parts in
    absurd (c.in_err-name.ensures.only h.name behind_name header.name_is (space_ends (decimal h.behaviours ++ begins.rest)) first.1)

pub returns-in-None-clause-only : goal.returns-in-None-clause-only
returns-in-None-clause-only c h others header lines =
    let begins = begins_with_header c.args.text.now h others lines in
    let behind_name = 32 ∷ (decimal h.behaviours ++ begins.rest) in
    let first = c.in_ok-kind.ensures.only h.kind (h.name ++ behind_name) begins.parts in
    let named = c.in_ok-name.ensures.only h.name behind_name header.name_is (space_ends (decimal h.behaviours ++ begins.rest)) first.1 in
    absurd (c.in-None.ensures.only h.behaviours begins.rest begins.behind header.few (rw first.0 header.kind_fits) begins.ends named.1)

pub returns-in-Some-clause-spelled : goal.returns-in-Some-clause-spelled
returns-in-Some-clause-spelled c =
    let last = c.in-Some.ensures in
    header_spelled c.args.text.now c.in_ok-kind.rest.now c.in_ok-name.rest.now (decimal c.in-Some.behaviours ++ last.spelled.0) last.spelled.0 c.in-Some.rest.now
    (record { kind = c.in_ok-kind.kind; name = c.in_ok-name.name; behaviours = c.in-Some.behaviours })
    c.in_ok-kind.ensures.spelled c.in_ok-name.ensures.spelled last.spelled.1 refl last.spelled.2
    (record { name_is = c.in_ok-name.ensures.fits; few = last.fits.0; kind_fits = last.fits.1 })

pub returns-in-Some-clause-only : goal.returns-in-Some-clause-only
returns-in-Some-clause-only c h others header lines =
    let begins = begins_with_header c.args.text.now h others lines in
    let behind_name = 32 ∷ (decimal h.behaviours ++ begins.rest) in
    let first = c.in_ok-kind.ensures.only h.kind (h.name ++ behind_name) begins.parts in
    let named = c.in_ok-name.ensures.only h.name behind_name header.name_is (space_ends (decimal h.behaviours ++ begins.rest)) first.1 in
    let last = c.in-Some.ensures.only h.behaviours begins.rest begins.behind header.few (rw first.0 header.kind_fits) begins.ends named.1 in
    (same_header c.in_ok-kind.kind c.in_ok-name.name c.in-Some.behaviours h first.0 named.0 last.0, ap lines_of last.1 ∙ begins.lines)

pub returns-in-Some-clause-fits : goal.returns-in-Some-clause-fits
returns-in-Some-clause-fits c = record { name_is = c.in_ok-name.ensures.fits; few = c.in-Some.ensures.fits.0; kind_fits = c.in-Some.ensures.fits.1 }
