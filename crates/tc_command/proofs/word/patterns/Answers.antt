use Rattle.std.{proofs.{Common.{◌≡◌, ◌∙◌, ◌++◌, ◌∷◌, [], ap, map, refl, rules, sym, take}, lemmas.Bool.false≢true}, specs.Borrow.Bor}
use Rattle.clap.specs.Walk.{Text}
use Rattle.tc_command.proofs.Options.{name_at, names_more, words_more}
use Rattle.tc_command.proofs.word.patterns.Goals as goal

pub loop-word-preserved : goal.loop-word-preserved
loop-word-preserved c =
    let ws = c.args.words.now in
    let i = c.loop-word.word-index in
    let so_far = map (λ (w : Bor Text). w.now) (take i ws) in
    let pushed : c.push.new.self.items ≡ c.loop-word.patterns.items ++ c.in-Some.pattern ∷ [] = search rules in (
      pushed ∙ (ap (λ l. l ++ c.in-Some.pattern ∷ []) c.loop-word.invariant.0 ∙ (ap (λ n. so_far ++ n ∷ []) c.in-Some.ensures.spelled ∙ sym (words_more ws i _ c.loop-word-test.true))),
      names_more ws i _ c.loop-word-test.true c.loop-word.invariant.1 (c.in-Some.ensures.valid.0 refl),
    )

pub returns-in_default-clause-refused : goal.returns-in_default-clause-refused
returns-in_default-clause-refused c = (refl, λ all. false≢true (c.in_default.ensures.valid.1 (name_at c.args.words.now c.loop-word.word-index _ c.loop-word-test.true all)))
