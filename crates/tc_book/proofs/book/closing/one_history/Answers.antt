use Rattle.std.proofs.Common.{rules, reverse, ◌≡◌, false, true, IsTrue}
use Rattle.tc_rules.specs.Prelude.{is_over}
use Rattle.tc_book.{specs.{Closing.merged, Inside.IsSound}, proofs.{Joining.{has_logs, joined_by, merged_by, sound_of, walk_of}, Wholeness.sound_by}}
use Rattle.tc_book.proofs.book.closing.one_history.Goals as goal

pub returns-clause-merged : goal.returns-clause-merged
returns-clause-merged c =
    merged_by c.args.state.now.behaviours c.args.starts.now c.args.parts.now c.args.table_history.now c.in-Ok-merge_by_run.merged.items c.args.lefts.now.value.items c.requires.back
    (λ logs are. c.in-Ok-merge_by_run.ensures logs (rw c.deref.ensures.value (has_logs c.args.parts.now c.in-Ok.rests.items logs c.in-Ok.ensures.len c.in-Ok.ensures.each are)))

pub returns-clause-joined : goal.returns-clause-joined
returns-clause-joined c =
    joined_by c.args.state.now.behaviours c.args.starts.now c.args.parts.now c.args.table_history.now c.in-Ok-merge_by_run.merged.items c.args.lefts.now.value.items c.requires.back
    (λ logs are. c.in-Ok-merge_by_run.ensures logs (rw c.deref.ensures.value (has_logs c.args.parts.now c.in-Ok.rests.items logs c.in-Ok.ensures.len c.in-Ok.ensures.each are)))

pub returns-clause-sound : goal.returns-clause-sound
returns-clause-sound c =
    sound_of c.args.state.now.behaviours c.args.parts.now c.in-Ok.rests.items c.in-Ok-merge_by_run.merged.items c.args.table_history c.in-Ok.ensures.len c.in-Ok.ensures.each
    (rw (← c.deref-2.ensures.value) (c.in-Ok-walk.ensures.yes.0 (search rules))) (search rules)

pub returns-then-not-is_walked-clause-torn : goal.returns-then-not-is_walked-clause-torn
returns-then-not-is_walked-clause-torn c = λ torn legal whole.
    let same : c.in-Ok-merge_by_run.merged.items ≡ merged c.args.table_history.now c.args.lefts.now.value.items =
    merged_by c.args.state.now.behaviours c.args.starts.now c.args.parts.now c.args.table_history.now c.in-Ok-merge_by_run.merged.items c.args.lefts.now.value.items c.requires.back
    (λ logs are. c.in-Ok-merge_by_run.ensures logs (rw c.deref.ensures.value (has_logs c.args.parts.now c.in-Ok.rests.items logs c.in-Ok.ensures.len c.in-Ok.ensures.each are))) in
    let here : IsSound c.args.state.now.behaviours c.args.parts.now c.in-Ok-merge_by_run.merged.items =
    rw same (sound_by c.args.state.now.behaviours c.args.parts.now (merged c.args.table_history.now c.args.lefts.now.value.items) c.args.lefts.now.value.items c.requires.back.logs legal whole) in
    let yes : IsTrue c.in-Ok-walk.is_walked = c.in-Ok-walk.ensures.yes.1
    (rw c.deref-2.ensures.value (walk_of c.args.state.now.behaviours c.args.parts.now c.in-Ok.rests.items c.in-Ok-merge_by_run.merged.items c.in-Ok.ensures.len c.in-Ok.ensures.each here)) in
    let no : c.in-Ok-walk.is_walked ≡ false = search rules in cc

pub returns-then-not-is_over-clause-torn : goal.returns-then-not-is_over-clause-torn
returns-then-not-is_over-clause-torn c = λ torn legal whole.
    let same : c.in-Ok-merge_by_run.merged.items ≡ merged c.args.table_history.now c.args.lefts.now.value.items =
    merged_by c.args.state.now.behaviours c.args.starts.now c.args.parts.now c.args.table_history.now c.in-Ok-merge_by_run.merged.items c.args.lefts.now.value.items c.requires.back
    (λ logs are. c.in-Ok-merge_by_run.ensures logs (rw c.deref.ensures.value (has_logs c.args.parts.now c.in-Ok.rests.items logs c.in-Ok.ensures.len c.in-Ok.ensures.each are))) in
    let over : is_over (reverse c.in-Ok-merge_by_run.merged.items) ≡ true = rw same whole.over in
    let no : is_over (reverse c.in-Ok-merge_by_run.merged.items) ≡ false = search rules in cc
