use Rattle.std.proofs.Common.{◌∷◌}
use Rattle.tc_exec.{specs.Inside.{jobs_of, runs_of}, proofs.Lemmas.Calls.{numbered, out_of_memory, report_called, report_made, torn_handed}}
use Rattle.tc_exec.proofs.case.run_made.Goals as goal

pub returns-clause-made : goal.returns-clause-made
returns-clause-made g c =
    let outcome = g.B.Callable.outcome in
    let runs = runs_of c.args.workers.items in
    let bs = jobs_of c.args.workers.items in
    report_made outcome c.close.result c.gather-gathered.result.starved (record { 0 = 0 } ∷ runs) (c.args.first ∷ bs) c.gather-gathered.result.lefts.items
    c.close.ensures.starved c.gather-gathered.ensures.lefts.lefts (numbered outcome runs c.requires.runs) c.gather-gathered.ensures.first c.close.ensures.whole

pub returns-clause-called : goal.returns-clause-called
returns-clause-called g c = report_called g.B.Callable.outcome c.close.result (c.args.first ∷ jobs_of c.args.workers.items) (returns-clause-made g c)

pub returns-clause-torn : goal.returns-clause-torn
returns-clause-torn g c =
    let outcome = g.B.Callable.outcome in
    let runs = runs_of c.args.workers.items in
    let bs = jobs_of c.args.workers.items in
    torn_handed outcome c.close.result c.gather-gathered.result.starved (record { 0 = 0 } ∷ runs) (c.args.first ∷ bs) c.gather-gathered.result.lefts.items
    c.close.ensures.starved c.gather-gathered.ensures.lefts.lefts (numbered outcome runs c.requires.runs) c.gather-gathered.ensures.first

pub returns-clause-memory : goal.returns-clause-memory
returns-clause-memory g c = λ why.
    let outcome = g.B.Callable.outcome in
    let runs = runs_of c.args.workers.items in
    let bs = jobs_of c.args.workers.items in
    out_of_memory outcome c.gather-gathered.result.starved (record { 0 = 0 } ∷ runs) (c.args.first ∷ bs) c.gather-gathered.result.lefts.items
    c.gather-gathered.ensures.lefts.lefts c.gather-gathered.ensures.lefts.one_starved (numbered outcome runs c.requires.runs) c.gather-gathered.ensures.first (c.close.ensures.runs why)
