use Rattle.std.{proofs.Common.{◌∙◌, ◌++◌, codes, subst}, specs.Io.KnownBytes.Appends}
use Rattle.tc_stream.specs.Prelude.{AppendsPrefix}
use Rattle.tc_report.proofs.Writing.{all_out, first_left, last_left, second_left, when_err}
use Rattle.tc_report.proofs.report.write_aborted.Goals as goal

pub returns-in_err-write_both-clause-part : goal.returns-in_err-write_both-clause-part
returns-in_err-write_both-clause-part g c =
    let held = g.W.Write.contents in
    let start = held c.args.writer.now in
    let now = held c.write_both.new.writer in
    when_err c.from_residual.result (first_left c.args.name.now c.args.why start now
    (subst (λ l. AppendsPrefix start now (codes "ttrun: aborted at " ++ l)) c.bytes.ensures.bytes c.in_err-write_both.ensures.part))

pub returns-in_err-write_both-2-clause-part : goal.returns-in_err-write_both-2-clause-part
returns-in_err-write_both-2-clause-part g c =
    let held = g.W.Write.contents in
    let start = held c.args.writer.now in
    let between = held c.write_both.new.writer in
    let now = held c.write_both-2.new.writer in
    when_err c.from_residual-in_err-write_both-2.result (second_left c.args.name.now c.args.why start between now
    (subst (λ l. Appends start between (codes "ttrun: aborted at " ++ l)) c.bytes.ensures.bytes c.in_ok-write_both.ensures.all)
    (subst (λ l. AppendsPrefix between now (codes ": " ++ l)) (c.as_bytes.ensures.value ∙ c.text.ensures) c.in_err-write_both-2.ensures.part))

pub returns-in_err-write_whole-clause-part : goal.returns-in_err-write_whole-clause-part
returns-in_err-write_whole-clause-part g c =
    let held = g.W.Write.contents in
    let start = held c.args.writer.now in
    let between = held c.write_both.new.writer in
    let behind = held c.write_both-2.new.writer in
    let now = held c.write_whole.new.writer in
    when_err c.from_residual-in_err-write_whole.result (last_left c.args.name.now c.args.why start between behind now
    (subst (λ l. Appends start between (codes "ttrun: aborted at " ++ l)) c.bytes.ensures.bytes c.in_ok-write_both.ensures.all)
    (subst (λ l. Appends between behind (codes ": " ++ l)) (c.as_bytes.ensures.value ∙ c.text.ensures) c.in_ok-write_both-2.ensures.all)
    c.in_err-write_whole.ensures.part)

pub returns-clause-all : goal.returns-clause-all
returns-clause-all g c =
    let held = g.W.Write.contents in
    let start = held c.args.writer.now in
    let between = held c.write_both.new.writer in
    let behind = held c.write_both-2.new.writer in
    let now = held c.write_whole.new.writer in
    all_out c.args.name.now c.args.why start between behind now
    (subst (λ l. Appends start between (codes "ttrun: aborted at " ++ l)) c.bytes.ensures.bytes c.in_ok-write_both.ensures.all)
    (subst (λ l. Appends between behind (codes ": " ++ l)) (c.as_bytes.ensures.value ∙ c.text.ensures) c.in_ok-write_both-2.ensures.all)
    c.in_ok-write_whole.ensures.all
