use Rattle.std.{proofs.Common.{◌≡◌, ◌++◌}, specs.List.{flat_map, range_with_len}}
use Rattle.tc_rules.specs.Prelude.{past_of}
use Rattle.tc_explore.specs.Inside.Twins.{run_key_of}
use Rattle.tc_explore.proofs.state_keys.add_runs.Given as goal

abbrev pub invariant-loop-run : goal.invariant-loop-run
invariant-loop-run l = l.key.items ≡ l.fn.key.items ++ flat_map (run_key_of l.waits (past_of l.course)) (range_with_len 0 l.run)
