use Rattle.std.proofs.{Common.{◌≡◌, ◌∙◌, ◌++◌, [], ap, length, rules, sym}, lemmas.{List.append-nil, Result.on_ok_weaker}}
use Rattle.tc_blocks.specs.Prelude.{entry_in}
use Rattle.tc_report.specs.Prelude.{said_with}
use Rattle.tc_judge.proofs.{Judging.line_recorded, Lemmas.{no_entry, note_played}}
use Rattle.tc_judge.proofs.judged.JudgingTakesEvidence.take.Goals as goal

pub returns-in-Entry : goal.returns-in-Entry
returns-in-Entry g c = rw c.in-Entry.is c.take_entry.ensures

pub returns-in_default : goal.returns-in_default
returns-in_default g c =
    let begun = c.args.begun.now in
    let note = c.args.taken in
    let none : entry_in note ≡ [] = no_entry note c.in_default.not-Entry in
    let same = sym (ap (λ es. begun.entries.items ++ es) none ∙ append-nil begun.entries.items) in
    let count : c.len.result ≡ length begun.entries.items = search rules in
    on_ok_weaker c.keep_note.result
    (λ kept first_line h before here opened. (
      (opened.0.0, note_played h.behaviours first_line before note begun.playing.state begun.playing.entries begun.playing.difference none opened.0.1),
      λ records. line_recorded before note begun.entries.items begun.entries.items begun.said c.keep_note.new.said same (kept.0 records ∙ ap (λ n. said_with begun.said n note) count) (opened.1 records),
      λ unasked. ((opened.2 unasked).0, kept.1 unasked ∙ (opened.2 unasked).1),
    ))
    c.keep_note.ensures
