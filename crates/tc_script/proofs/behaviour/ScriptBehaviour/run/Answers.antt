use Rattle.std.proofs.Common.{rules}
use Rattle.tc_script.proofs.behaviour.ScriptBehaviour.run.Goals as goal

pub make_calls-made-requires : goal.make_calls-made-requires
make_calls-made-requires g c = search rules

pub returns-clause-other_count : goal.returns-clause-other_count
returns-clause-other_count g c = search rules

pub returns-clause-calls : goal.returns-clause-calls
returns-clause-calls g c = search rules
