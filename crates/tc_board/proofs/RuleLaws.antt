-- The laws of the rule.
use Rattle.std.{proofs.Common.{◌≡◌, ◌≢◌, ℕ, List, Some, None, refl, sym, ap, ◌∙◌}, specs.Prelude.slice_get}
use Rattle.tc_entry.specs.Prelude.{UserVerdict}
use Rattle.tc_board.specs.{Rule.Fits, declared.answer.Answer.Answer, declared.answer.Answer.TheVariants.Shut, declared.record.Record.Record, declared.record.Record.TheVariants.Closed, declared.record.Record.TheVariants.Open, declared.record.Record.TheVariants.Unbegun}

pub open_is_never_shut : (carried : UserVerdict) (answers : List Answer) (word i : ℕ) → Fits (Open carried) answers word → slice_get answers i ≢ Some Shut
open_is_never_shut carried answers word i fits = fits.1.0 i

pub shut_is_closed : (r : Record) (answers : List Answer) (word i : ℕ) → Fits r answers word → slice_get answers i ≡ Some Shut →
    (carried : UserVerdict) × (counted : UserVerdict) × (r ≡ Closed carried counted)
shut_is_closed Unbegun answers word i fits h = let e : slice_get answers i ≡ None = ap (λ l. slice_get l i) fits.1 in let q = sym e ∙ h in absurd cc
shut_is_closed (Open carried) answers word i fits h = absurd (fits.1.0 i h)
shut_is_closed (Closed carried counted) answers word i fits h = (carried, counted, refl)
