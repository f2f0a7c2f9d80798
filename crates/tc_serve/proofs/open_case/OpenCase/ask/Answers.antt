use Rattle.std.proofs.{Common.{◌≡◌, ◌∙◌, ◌++◌, ◌<◌, ◌≤◌, ℕ, List, true, false, ap, arith, refl, sym}, lemmas.Bool.Decides.nat_tests}
use Rattle.tc_rules.specs.Prelude.{is_parked}
use Rattle.tc_serve.{specs.{Inside.{IsOpen}, Protocol.Played}, proofs.{Sleeping.{called_on, not_parked}, open_case.OpenCase.ask.Goals.{else-is_own-via-else-is_own, else-is_own-via-then-is_own+else-matches, in-Parked, in_default}}}
use Rattle.tc_serve.proofs.open_case.OpenCase.ask.Goals as goal

pub returns-then-matches-clause-ok : goal.returns-then-matches-clause-ok
returns-then-matches-clause-ok c =
    let call = c.in_ok-reply.ensures.ok c.args.out.now.items (c.in_ok-extend_from_slice.ensures.items ∙ ap (λ (l : List ℕ). c.args.out.now.items ++ l) c.requires) in
    let same : c.call.new.self.waited ≡ c.args.self.now.waited = call.same in
    called_on c.args.self.now c.call.new.self (record { state = c.call.new.self.state; waited = c.max-self.result; met = c.call.new.self.met }) c.args.caller c.args.op c.in_ok-reply.reply c.args.out.now.items c.call.new.out.items call refl refl
    (omega (arith, same, c.max-self.ensures))
    (λ p is. let less : c.args.caller.0 < p.behaviours = grind (arith, nat_tests, c.has-is_own.ensures.is p is) in let few = is.few in omega (arith, less, few, same, c.max-self.ensures))
    (λ p is from less. absurd (omega (arith, from, c.max-self.ensures)))

pub returns-else-is_own-clause-ok : goal.returns-else-is_own-clause-ok
returns-else-is_own-clause-ok c =
    let call = c.in_ok-reply.ensures.ok c.args.out.now.items (c.in_ok-extend_from_slice.ensures.items ∙ ap (λ (l : List ℕ). c.args.out.now.items ++ l) c.requires) in
    let same : c.call.new.self.waited ≡ c.args.self.now.waited = call.same in
    let goes : (p : Played) → IsOpen c.args.self.now p → c.call.new.self.waited ≤ c.args.caller.0 → c.args.caller.0 < p.behaviours → is_parked c.in_ok-reply.reply ≡ false =
    λ p is from less. elim c.else-is_own.branch [
      | else-is_own-via-then-is_own+else-matches w ↦ elim w.match-matches.branch [
        | in-Parked v ↦ absurd (let e : true ≡ false = sym v.matches-is ∙ w.if-matches.false in cc)
        | in_default v ↦ not_parked c.in_ok-reply.reply v.in_default.not-Parked
      ]
      | else-is_own-via-else-is_own w ↦ absurd (grind (arith, nat_tests, c.has-is_own.ensures.is p is, w.if-is_own.false, less))
    ] in
    called_on c.args.self.now c.call.new.self c.call.new.self c.args.caller c.args.op c.in_ok-reply.reply c.args.out.now.items c.call.new.out.items call refl refl
    (omega (arith, same)) (λ p is. let few = is.few in omega (arith, few, same)) goes
