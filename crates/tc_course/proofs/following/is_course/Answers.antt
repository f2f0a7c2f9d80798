use Rattle.std.proofs.Common.{rules, ◌≡◌, ◌<◌, ◌≤◌, ◌∷◌, length, get_or, subst, sym}
use Rattle.tc_rules.specs.Prelude.{Entry, past_of}
use Rattle.tc_course.specs.{Course.IsOn, Course.IsTurn, Witnesses.IsNotedEntry}
use Rattle.tc_course.proofs.Followed.{follows_more, not_shown, shown_at}
use Rattle.tc_course.proofs.following.is_course.Goals as goal

pub loop-entry-preserved : goal.loop-entry-preserved
loop-entry-preserved c =
    let e = c.entry-item.result in
    let i = c.loop-entry.entry-index in
    let t = c.loop-entry.course in
    let within : i < length c.args.noted.now = search rules in
    let item : get_or c.args.noted.now i e ≡ e = search rules in
    let on : IsOn c.args.scripts.now c.in-Some.next = search rules in
    let added : (f : Entry) × IsNotedEntry e f × (past_of c.in-Some.next ≡ f ∷ past_of t) = search rules in
    follows_more c.args.scripts.now c.args.noted.now i e t c.in-Some.next within c.loop-entry.invariant on
    (subst (λ n. (f : Entry) × IsNotedEntry n f × (past_of c.in-Some.next ≡ f ∷ past_of t)) (sym item) added)

pub returns-in_default : goal.returns-in_default
returns-in_default c =
    let e = c.entry-item.result in
    let i = c.loop-entry.entry-index in
    let t = c.loop-entry.course in
    let within : i < length c.args.noted.now = search rules in
    let item : get_or c.args.noted.now i e ≡ e = search rules in
    let none : (f : Entry) → IsNotedEntry e f → IsTurn c.args.scripts.now (past_of t) f → ⊥ = search rules in
    not_shown c.args.scripts.now c.args.behaviours c.args.noted.now i e t c.args.verdict within c.loop-entry.invariant
    (subst (λ n. (f : Entry) → IsNotedEntry n f → IsTurn c.args.scripts.now (past_of t) f → ⊥) (sym item) none)

pub returns : goal.returns
returns c =
    let whole : length c.args.noted.now ≤ c.loop-entry.entry-index = search rules in
    let some : 1 ≤ length c.args.scripts.now = search rules in
    let few : length c.args.scripts.now ≤ c.args.behaviours = search rules in
    shown_at c.args.scripts.now c.args.behaviours c.args.noted.now c.loop-entry.entry-index c.loop-entry.course c.args.verdict c.ends_with.result some few whole c.loop-entry.invariant c.ends_with.ensures
