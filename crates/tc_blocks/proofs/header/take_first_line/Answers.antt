use Rattle.std.proofs.Common.{◌≡◌, ◌≢◌, false, true, refl, subst, sym}
use Rattle.tc_blocks.{specs.declared.header.{Header.Header, Kind.Kind}, proofs.Headers.{first_header, first_kind, is_first}}
use Rattle.tc_blocks.proofs.header.take_first_line.Goals as goal

pub returns-in_err-header-clause-only : goal.returns-in_err-header-clause-only
returns-in_err-header-clause-only c h others first lines = absurd (c.in_err-header.ensures.only h others (first_header c.args.only_histories h first) lines)

pub returns-then-not-may_have-clause-only : goal.returns-then-not-may_have-clause-only
returns-then-not-may_have-clause-only c h others first lines =
    let only = c.args.only_histories in
    let two = c.in_ok-header.ensures.only h others (first_header only h first) lines in
    let refused : false ≡ true = c.if-not-may_have.ensures.1 (subst (λ (x : Header). only ≡ true → x.kind ≢ Kind.Evidence) (sym two.0) (first_kind only h first)) in
    absurd cc

pub returns-clause-first : goal.returns-clause-first
returns-clause-first c = is_first c.args.only_histories c.in_ok-header.header c.in_ok-header.ensures.fits (c.if-not-may_have.ensures.0 refl)

pub returns-clause-only : goal.returns-clause-only
returns-clause-only c h others first lines = c.in_ok-header.ensures.only h others (first_header c.args.only_histories h first) lines
