use Rattle.std.proofs.Common.{◌≡◌, [], ◌∷◌, ◌++◌, ap, ◌∙◌}
use Rattle.tc_exec.proofs.Lemmas.Calls.{main_left, main_started}
use Rattle.tc_exec.proofs.case.gather.Goals as goal

pub returns-clause-first : goal.returns-clause-first
returns-clause-first g c = λ d.
    let first : c.take.new.self.lefts.items ≡ c.act.result.left ∷ [] = c.take.ensures.left ∙ ap (λ ls. ls ++ c.act.result.left ∷ []) c.requires.empty in
    main_started g.B.Callable.outcome c.args.pass c.args.first c.act.result c.act.ensures c.join_workers.new.gathered.lefts.items c.take.new.self.lefts.items d first (c.join_workers.ensures.first d)

pub returns-clause-lefts : goal.returns-clause-lefts
returns-clause-lefts g c =
    c.join_workers.ensures.lefts (record { 0 = 0 } ∷ []) (c.args.first ∷ [])
    (main_left g.B.Callable.outcome c.args.pass c.args.first c.act.result c.args.gathered c.take.new.self c.requires.main c.act.ensures c.requires.empty c.requires.fed c.take.ensures.left c.take.ensures.starved)
