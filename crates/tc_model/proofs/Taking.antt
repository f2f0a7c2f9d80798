-- Models of the blocks that are not refused, one after the other.
use Rattle.std.proofs.Common.{ℕ, suc, ◌≡◌, ◌<◌, ◌+◌, ◌∙◌, None, is_some, true, List, ◌∷◌, length, drop, get_or, sym, ap, subst, arith, drop-cons}
use Rattle.std.specs.{List.AllZip}
use Rattle.tc_reader.specs.Prelude.{CampaignView, Word}
use Rattle.tc_step.specs.Prelude.{ScriptView}
use Rattle.tc_model.specs.{Inside.TakesModel, Models.IsModel, Models.written, declared.models.Attempt.Attempt}

-- the next attempt, and those after it
drop_next : (xs : List Attempt) (i : ℕ) (d : Attempt) → i < length xs → drop i xs ≡ get_or xs i d ∷ drop (i + 1) xs
drop_next xs i d within =
    let more : suc i ≡ i + 1 = omega arith in
    drop-cons xs i d within ∙ ap (λ k. get_or xs i d ∷ drop k xs) more

-- the models of the blocks from this place on are the test cases that are left, if those of all are all
abbrev pub AreLeft : List Attempt → ℕ → CampaignView → CampaignView → Type 0
AreLeft attempts i left all = AllZip IsModel (written (drop i attempts)) left → AllZip IsModel (written attempts) all

pub left_more : (attempts : List Attempt) (i : ℕ) (a : Attempt) (old new all : CampaignView) → i < length attempts → get_or attempts i a ≡ a →
    AreLeft attempts i old all → TakesModel a old new → AreLeft attempts (i + 1) new all
left_more attempts i a old new all within here left takes rest =
    left (subst (λ l. AllZip IsModel (written l) old) (sym (drop_next attempts i a within ∙ ap (λ x. x ∷ drop (i + 1) attempts) here)) (takes (drop (i + 1) attempts) rest))

-- a refused block takes none
pub takes_none : (a : Attempt) (cases : CampaignView) → is_some a.refusal ≡ true → TakesModel a cases cases
takes_none a cases some rest are = rw some are

-- any other its model
pub takes_one : (a : Attempt) (old new : CampaignView) (c : Word × List (Word × ScriptView)) → a.refusal ≡ None → old ≡ c ∷ new → IsModel a.block c → TakesModel a old new
takes_one a old new c none first is rest are = rw (none, first) (is, are)

pub ruleset taking_rules = (takes_none, takes_one)
