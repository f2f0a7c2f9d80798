use Rattle.std.proofs.Common.{rules, ◌≡◌, ◌++◌}
use Rattle.tc_explain.specs.Prelude.{explanation}
use Rattle.tc_text.proofs.Lemmas.Among.{among_after}
use Rattle.tc_program.proofs.explained.append_notes.Goals as goal

pub returns : goal.returns
returns c =
    let front = c.args.out.now.items in
    let notes = c.in_ok-notes.notes.items in
    let is : c.extend_from_slice.new.self.items ≡ front ++ notes = search rules in
    among_after (explanation c.args.text.now c.args.line) front notes c.extend_from_slice.new.self.items c.in_ok-notes.ensures is
