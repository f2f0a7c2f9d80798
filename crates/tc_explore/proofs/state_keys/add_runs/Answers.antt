use Rattle.std.proofs.Common.{rules, ◌≡◌, ◌∙◌, ◌++◌, refl}
use Rattle.tc_rules.specs.Prelude.{past_of, is_active}
use Rattle.tc_course.{specs.Prelude.stand, proofs.Lemmas.next_of}
use Rattle.tc_explore.specs.Inside.Twins.{run_key_of}
use Rattle.tc_explore.proofs.state_keys.add_runs.Goals as goal

pub loop-run-preserved : goal.loop-run-preserved
loop-run-preserved c =
    let past = past_of c.args.course.now in
    let b = c.loop-run.run in
    let goes : c.is_active-goes_on.result ≡ is_active past b = search rules in
    let stands : c.known.result.now ≡ stand past b = search rules in
    let one : c.add_run.new.key.items ≡ c.loop-run.key.items ++ run_key_of c.args.waits past b = c.in_ok-add_run.ensures ∙ rw (goes, stands) refl in
    next_of (run_key_of c.args.waits past) b _ _ _ c.loop-run.invariant one
