use Rattle.std.{proofs.Common.{ℕ, ◌≡◌, ◌∙◌, ◌++◌, List, ap, append_assoc, arith, reverse, sym}, specs.List.flat_map}
use Rattle.tc_rules.specs.Prelude.{comp_of, log_if, logs_below}
use Rattle.tc_report.{specs.{Inside.name_or_none, Report.run_text}, proofs.Replaying.runs_more}
use Rattle.tc_report.proofs.report.append_runs_of.Goals as goal

pub loop-run-preserved : goal.loop-run-preserved
loop-run-preserved c =
    let names : ℕ → List ℕ = name_or_none c.args.names.now in
    let history = c.args.history.now in
    let run = c.loop-run.run in
    let one = flat_map (run_text names) (log_if (comp_of (reverse history) run) history run) in
    let before = flat_map (run_text names) (logs_below history run) in
    c.in_ok-append_run_of.ensures ∙ (ap (λ l. l ++ one) c.loop-run.invariant
    ∙ (append_assoc c.args.out.now.items before one ∙ ap (λ l. c.args.out.now.items ++ l) (sym (runs_more names history run))))

pub returns : goal.returns
returns c =
    let names : ℕ → List ℕ = name_or_none c.args.names.now in
    let all : c.loop-run.run ≡ c.args.behaviours = omega (arith, c.loop-run-test.false, c.loop-run.auto.run-end) in
    c.loop-run.invariant ∙ ap (λ n. c.args.out.now.items ++ flat_map (run_text names) (logs_below c.args.history.now n)) all
