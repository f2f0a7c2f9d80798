use Rattle.std.{proofs.Common.{◌∙◌, ◌++◌, ◌∷◌, [], ap, sym, subst}, specs.List.AllZip}
use Rattle.tc_exec.proofs.Lemmas.Taking.{AllZip-pushed}
use Rattle.tc_judge.specs.Inside.{IsJudgedBlock}
use Rattle.tc_judge.proofs.judged.JudgingTakesEvidence.close.Goals as goal

pub returns : goal.returns
returns g c blocks b line verdict is stood =
    subst (λ l. AllZip (IsJudgedBlock g.K.Keeps.keeps) (blocks ++ b ∷ []) l) (sym c.in_ok-push.ensures.items)
    (AllZip-pushed (IsJudgedBlock g.K.Keeps.keeps) blocks c.args.self.now.blocks.items b _ stood
    (record {
      name = ap (λ p. p.header.name) c.in_ok-kept.ensures.same ∙ ap (λ h. h.name) is.0.0;
      verdict = verdict;
      judgement = c.judge-judgement.ensures b is.0 line verdict;
      kept = c.in_ok-kept.ensures.kept b is;
    }))
