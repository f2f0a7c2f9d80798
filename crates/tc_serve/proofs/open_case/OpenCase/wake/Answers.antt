use Rattle.std.proofs.Common.{◌≡◌, ◌∙◌, true, false, sym}
use Rattle.tc_rules.specs.{Prelude.is_parked}
use Rattle.tc_blocks.specs.Prelude.{entries_of}
use Rattle.tc_serve.proofs.{Changes.begun_before, Sleeping.{not_parked, wakes_up}, open_case.OpenCase.wake.Goals.{in-Parked, in_default-matches}}
use Rattle.tc_serve.proofs.open_case.OpenCase.wake.Goals as goal

pub returns-clause-ok : goal.returns-clause-ok
returns-clause-ok c =
    let goes : is_parked c.would.result ≡ false = elim c.match-matches.branch [
      | in-Parked w ↦ absurd (let e : true ≡ false = sym w.matches-is ∙ c.if-matches.false in cc)
      | in_default-matches w ↦ not_parked c.would.result w.in_default-matches.not-Parked
    ] in
    wakes_up c.args.self.now c.call.new.self c.args.run c.in-Some.awaited c.would.result c.in_ok-call.field-0 c.args.out.now.items c.call.new.out.items
    (λ p is. c.in-Some.ensures (entries_of p.lines) is.kept.stands) c.would.ensures goes (c.in_ok-call.ensures.ok c.args.out.now.items c.in_ok-write_move.ensures.ok)

pub returns-clause-any : goal.returns-clause-any
returns-clause-any c = begun_before c.args.out.now.items _ c.write_move.new.out.items c.call.new.out.items c.in_ok-write_move.ensures.ok c.in_ok-call.ensures.any
