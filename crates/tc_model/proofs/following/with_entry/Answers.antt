use Rattle.std.proofs.Common.{[], ◌∷◌}
use Rattle.tc_rules.specs.Prelude.{past_of}
use Rattle.tc_model.specs.{Reasons.EntryHas, declared.reason.Reason.Reason}
use Rattle.tc_model.proofs.Followed.{first_of_more}
use Rattle.tc_model.proofs.following.with_entry.Goals as goal

pub returns-in-Some : goal.returns-in-Some
returns-in-Some c =
    first_of_more (Reason.NotLegal ∷ Reason.NotCalled ∷ Reason.ManySteps ∷ []) (Reason.NotGiven ∷ Reason.ManyArguments ∷ Reason.NotOver ∷ [])
    (EntryHas c.args.behaviours (past_of c.args.course) c.args.entry.now) c.in-Some.reason c.in-Some.ensures
