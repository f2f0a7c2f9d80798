use Rattle.std.{proofs.{Common.{◌≡◌, ◌<◌, ◌∙◌, Some, ap, sym, map, arith, rules}, lemmas.Grind.common_steps}, specs.List.range_with_len}
use Rattle.tc_rules.{specs.{Faults.components, Local.local}, proofs.{Lemmas.Numbered.{comps_numbered, local_more, local_there}, Lemmas.Standing.stands_legal}}
use Rattle.tc_rules.proofs.locals.locals_of.Goals as goal

pub loop-comp-preserved : goal.loop-comp-preserved
loop-comp-preserved c = λ past stands.
    let end = c.components-comp-end.ensures past stands in
    let below : c.loop-comp.comp < components past = omega (arith, end, c.loop-comp-test.true) in
    let there : c.local.result ≡ Some (local past c.loop-comp.comp) = c.local.ensures past stands ∙ local_there c.args.state.now.behaviours past c.loop-comp.comp (stands_legal c.args.state.now past stands) below in
    let next : c.unwrap_or.result ≡ local past c.loop-comp.comp = cc in
    let before = c.loop-comp.invariant past stands in
    let more = local_more past c.loop-comp.comp in
    first_of (grind (arith, common_steps, next, before, more), search (rules, next, before, more))

pub returns : goal.returns
returns c = λ past stands.
    let end = c.components-comp-end.ensures past stands in
    let all : c.loop-comp.comp ≡ components past = omega (arith, end, c.loop-comp-test.false, c.loop-comp.auto.comp-end) in
    c.loop-comp.invariant past stands ∙ (ap (λ m. map (local past) (range_with_len 0 m)) all ∙ ap (map (local past)) (sym (comps_numbered c.args.state.now.behaviours past (stands_legal c.args.state.now past stands))))
