-- What the answers of a hand say, in the order in which it had them.
use Rattle.std.specs.Prelude.{◌≡◌, ℕ, List, [], ◌∷◌, map, take, slice_get, Some}
use Rattle.tc_entry.specs.Prelude.{Verdict, UserVerdict, worst, given}
use Rattle.tc_board.specs.declared.answer.Answer.{Answer, TheVariants.{Found, Taken}}

-- the settings that were taken
abbrev pub taken : List Answer → List UserVerdict
taken [] = []
taken (Taken v ∷ answers) = v ∷ taken answers
taken (_ ∷ answers) = taken answers

-- the worst of the carried verdict and of the settings that were taken
abbrev pub worst_answer : UserVerdict → List Answer → Verdict
worst_answer carried answers = worst (given carried ∷ map given (taken answers))

-- each verdict that was found is the worst of the carried one and of the settings taken before
abbrev pub FindsWorst : UserVerdict → List Answer → Type 0
FindsWorst carried answers = (i : ℕ) (v : UserVerdict) → slice_get answers i ≡ Some (Found v) → given v ≡ worst_answer carried (take i answers)
