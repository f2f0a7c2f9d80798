use Rattle.std.proofs.Common.{◌∙◌, ◌++◌, sym, arith}
use Rattle.tc_blocks.{specs.Inside.mark_text, proofs.{InnerLines.{ends_at, same_lines}, Lemmas.Notes.{begins_with_said, ends_plain, mark_ends, said_spelled, same_plain}}}
use Rattle.tc_blocks.proofs.note.take_said.Goals as goal

pub returns-in_err-run-clause-only : goal.returns-in_err-run-clause-only
returns-in_err-run-clause-only c refused k sentence others few plain lines =
    let begins = begins_with_said c.args.text.now refused k sentence others lines in
    absurd (c.in_err-run.ensures.only k (mark_text refused ++ (sentence ++ begins.rest)) few (mark_ends refused (sentence ++ begins.rest)) begins.parts)

pub returns-in_err-refused-clause-only : goal.returns-in_err-refused-clause-only
returns-in_err-refused-clause-only c refused k sentence others few plain lines =
    let begins = begins_with_said c.args.text.now refused k sentence others lines in
    let ran = c.in_ok-run.ensures.only k (mark_text refused ++ (sentence ++ begins.rest)) few (mark_ends refused (sentence ++ begins.rest)) begins.parts in
    absurd (c.in_err-refused.ensures.only refused (sentence ++ begins.rest) ran.1)

pub returns-in_err-rest-clause-only : goal.returns-in_err-rest-clause-only
returns-in_err-rest-clause-only c refused k sentence others few plain lines =
    let begins = begins_with_said c.args.text.now refused k sentence others lines in
    let ran = c.in_ok-run.ensures.only k (mark_text refused ++ (sentence ++ begins.rest)) few (mark_ends refused (sentence ++ begins.rest)) begins.parts in
    let marked = c.in_ok-refused.ensures.only refused (sentence ++ begins.rest) ran.1 in
    let cut = c.cut_plain.ensures in
    let two = same_plain sentence begins.rest c.cut_plain.result.0.now c.cut_plain.result.1.now plain (ends_plain begins.rest begins.behind begins.ends) cut.before cut.behind (sym marked.1 ∙ cut.parts) in
    absurd (c.in_err-rest.ensures begins.behind (ends_at c.cut_plain.result.1.now begins.rest begins.behind two.1 begins.ends))

pub returns-clause-spelled : goal.returns-clause-spelled
returns-clause-spelled c =
    let few = c.in_ok-run.ensures.few in
    let cut = c.cut_plain.ensures in
    said_spelled c.args.text.now c.in_ok-run.rest.now c.in_ok-refused.rest.now c.cut_plain.result.1.now c.in_ok-rest.rest.now c.in_ok-refused.refused c.in_ok-run.run'.0 c.cut_plain.result.0.now
    c.in_ok-run.ensures.spelled c.in_ok-refused.ensures.spelled cut.parts c.in_ok-rest.ensures (let low = few.1 in omega (arith, low)) cut.before

pub returns-clause-only : goal.returns-clause-only
returns-clause-only c refused k sentence others few plain lines =
    let begins = begins_with_said c.args.text.now refused k sentence others lines in
    let ran = c.in_ok-run.ensures.only k (mark_text refused ++ (sentence ++ begins.rest)) few (mark_ends refused (sentence ++ begins.rest)) begins.parts in
    let marked = c.in_ok-refused.ensures.only refused (sentence ++ begins.rest) ran.1 in
    let cut = c.cut_plain.ensures in
    let two = same_plain sentence begins.rest c.cut_plain.result.0.now c.cut_plain.result.1.now plain (ends_plain begins.rest begins.behind begins.ends) cut.before cut.behind (sym marked.1 ∙ cut.parts) in
    (ran.0, marked.0, two.0, same_lines c.cut_plain.result.1.now begins.rest c.in_ok-rest.rest.now begins.behind others two.1 c.in_ok-rest.ensures begins.ends begins.lines)
