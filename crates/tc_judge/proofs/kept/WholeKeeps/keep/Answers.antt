use Rattle.std.proofs.Common.{◌∙◌, ap, refl}
use Rattle.tc_judge.proofs.kept.WholeKeeps.keep.Goals as goal

pub returns-clause-kept : goal.returns-clause-kept
returns-clause-kept c b is = record { summary = c.in_ok-summary.ensures b is; behaviours = ap (λ h. h.behaviours) is.0.0; entries = ap (λ v. v.items) c.replace.ensures.value ∙ (is.1 refl).0 }
