use Rattle.std.proofs.{Common.{ℕ, ◌≡◌, ◌≤◌, ◌∙◌, List, length, ap, subst, sym}, lemmas.List.length-map}
use Rattle.tc_step.specs.Prelude.{ScriptView}
use Rattle.tc_explore.specs.Prelude.{IsAtLimit, most_states, AreAllMet, AreReached}
use Rattle.tc_course.specs.{Prelude.{AllFound, AreLegal, AreWitnesses}, declared.found.{Ending.Ending, Limit.Limit}}
use Rattle.tc_answer.specs.Prelude.{scripts_of}
use Rattle.tc_program.specs.Inside.{TellsAfter}
use Rattle.tc_program.proofs.explore.explore_case.Goals as goal

pub returns : goal.returns
returns c v of =
    let o = c.args.options.now in
    let e = c.in_ok-explored.explored in
    let so = c.in_ok-explored.ensures in
    let same : c.as_slice-scripts.result.now ≡ scripts_of v.1 = c.as_slice-scripts.ensures.value ∙ of.jobs in
    record {
      name = of.name;
      names = c.new.ensures ∙ of.names;
      behaviours = ap length same ∙ length-map v.1 _;
      sound = subst (λ (s : List ScriptView). AreWitnesses s e.found) same so.sound;
      legal = subst (λ (s : List ScriptView). AreLegal s e.found) same so.legal;
      ordered = so.ordered;
      complete = subst (λ (s : List ScriptView). e.ending ≡ Ending.Complete → AllFound s e.found) same so.complete;
      reached = subst (λ (s : List ScriptView). AreReached s e.reached) same so.reached;
      met = subst (λ (s : List ScriptView). AreAllMet s e.reached e.states) same so.met;
      most = subst (λ (s : List ScriptView). e.states ≤ most_states s o.states) same so.most;
      undecided = subst (λ (s : List ScriptView). (l : Limit) → e.ending ≡ Ending.Undecided l → 1 ≤ length s → IsAtLimit s o.states e.states l) same so.undecided;
      told = subst (λ (s : List ScriptView). (l : Limit) → e.ending ≡ Ending.Undecided l → 1 ≤ length s → 1 ≤ length e.found) same so.told;
      details_are =
          subst (λ (s : List ScriptView). TellsAfter o c.new.result s e c.new-2.result) same
          (subst (λ (n : List (List ℕ)). TellsAfter o n c.as_slice-scripts.result.now e c.new-2.result) (c.as_slice.ensures.value ∙ sym c.new.ensures)
          (subst (TellsAfter o c.as_slice.result.now c.as_slice-scripts.result.now e) (sym c.new-2.ensures) c.in_ok-details.ensures));
    }
