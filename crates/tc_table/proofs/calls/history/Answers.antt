use Rattle.std.proofs.Common.{refl, rules, subst}
use Rattle.tc_rules.specs.Prelude.{IsBehaviours}
use Rattle.tc_table.proofs.Reading.{read_again}
use Rattle.tc_table.proofs.calls.history.Goals as goal

pub returns-in-Ok-clause-done : goal.returns-in-Ok-clause-done
returns-in-Ok-clause-done c zero =
    let few : IsBehaviours c.args.table.now.behaviours = subst IsBehaviours c.behaviours-behaviours.ensures.is (c.behaviours-behaviours.ensures.some, c.behaviours-behaviours.ensures.few) in
    record {
      told = search rules;
      is_read = read_again c.args.name.now c.args.table.now (c.in-Some.ensures.valid.0 refl) few (search rules);
      is_legal = c.history-entries.ensures.legal;
    }
