use Rattle.std.{proofs.{Common.{◌≡◌, ◌∙◌, true, ap, drop, subst, sym, reverse, rules, take}, lemmas.List.get_or_read}, specs.Prelude.{◌||◌}}
use Rattle.tc_entry.specs.declared.entry.Entry.{Entry}
use Rattle.tc_rules.specs.Prelude.{StandsFor, answer}
use Rattle.tc_report.{specs.{Inside.is_cut, Waits.{played, says_stuck}}, proofs.Waiting.cut_at}
use Rattle.tc_report.proofs.waits.state_before_stuck.Goals as goal

pub returns-then-says_stuck : goal.returns-then-says_stuck
returns-then-says_stuck c =
    let n = c.args.behaviours in
    let list = c.args.history.now in
    let at = c.loop-entry.entry-index in
    let e = c.entry-item.result in
    let past = reverse (take at list) in
    let stands = c.loop-entry.invariant.1 in
    let would : c.would.result ≡ answer n (played n past) e.caller.0 e.op =
    c.would.ensures (played n past) stands ∙ ap (λ m. answer m (played n past) e.caller.0 e.op) c.loop-entry.invariant.0 in
    let yes : says_stuck c.would.result ≡ true = search rules in
    let stuck = subst (λ (x : Entry). says_stuck (answer n (played n past) x.caller.0 x.op) ≡ true) (get_or_read list at e c.loop-entry-test.true c.entry-item.is e)
    (ap says_stuck (sym would) ∙ yes) in
    subst (λ made. (is_cut made ≡ true) × StandsFor c.loop-entry.state (drop 1 made)) (sym (cut_at n list at e c.loop-entry-test.true c.loop-entry.invariant.2 stuck))
    (ap (λ b. b || is_cut (played n past)) stuck, stands)
