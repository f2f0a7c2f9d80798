use Rattle.std.proofs.{Common.{rules, ◌≡◌, ◌∙◌, false, reverse, ap, sym, subst}, lemmas.List.Elements.All-push}
use Rattle.tc_course.specs.{declared.witness.Witness.Witness, Prelude.{IsWitness, is_found}}
use Rattle.tc_explore.{specs.Found.Covers, proofs.{Kept.{covered_more, no_less_then}, Noting.noted_more}}
use Rattle.tc_explore.proofs.findings.note.Goals as goal

pub returns-clause-found : goal.returns-clause-found
returns-clause-found c =
    let found = c.args.found.now in
    let ended = c.in_ok-ended.ensures in
    let w : Witness = record { verdict = c.verdict-verdict.result; history = c.new-history.result } in
    let history : c.new-history.result ≡ c.in_ok-ended.ended.history = search rules in
    let one : IsWitness c.args.scripts.now c.new-history.result c.verdict-verdict.result = rw history (record { course = ended.on.course; complete = ended.complete; verdict = c.verdict-verdict.ensures }) in
    let reached = c.reach-2.new.reached.items in
    let more = no_less_then found.reached.items c.reach.new.reached.items reached c.reach.ensures.more c.reach-2.ensures.more in
    let covers : Covers reached (reverse w.history) = subst (Covers reached) (sym (ap reverse history)) c.reach-2.ensures.covers in
    let none : is_found found.witnesses.items c.verdict.result ≡ false = search rules in
    let new : is_found found.witnesses.items w.verdict ≡ false = ap (is_found found.witnesses.items) (c.verdict-verdict.ensures ∙ (ended.verdict ∙ sym c.verdict.ensures)) ∙ none in (
      rw c.in_ok-push.ensures.items (noted_more c.args.scripts.now found.witnesses.items w c.requires.found.0 one new),
      c.reach-2.ensures.reached,
      rw c.in_ok-push.ensures.items (All-push (λ x. Covers reached (reverse x.history)) found.witnesses.items w (covered_more found.reached.items reached found.witnesses.items more c.requires.found.2) covers),
    )
