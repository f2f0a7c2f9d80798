use Rattle.std.proofs.{Common.{◌≡◌, ◌∷◌, arith, inr, subst}, lemmas.Grind.common_steps}
use Rattle.tc_exec.specs.{Case.IsOutOfMemory, Inside.jobs_of}
use Rattle.tc_exec.proofs.case.run_jobs.Goals as goal

pub returns-clause-called : goal.returns-clause-called
returns-clause-called g c = grind (arith, common_steps)

pub returns-clause-made : goal.returns-clause-made
returns-clause-made g c = grind (arith, common_steps)

pub returns-clause-torn : goal.returns-clause-torn
returns-clause-torn g c = grind (arith, common_steps)

pub returns-clause-memory : goal.returns-clause-memory
returns-clause-memory g c = λ why.
    let whole : c.remove-first.result ∷ jobs_of c.make_workers.new.workers.items ≡ c.args.jobs.items = grind (arith, common_steps) in
    inr (subst (λ bs. IsOutOfMemory g.B.Callable.outcome bs) whole (c.run_made.ensures.memory why))
