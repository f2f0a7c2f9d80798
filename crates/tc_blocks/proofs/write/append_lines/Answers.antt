use Rattle.std.{proofs.Common.{rules, refl, ◌++◌, take}, specs.{Io.StartsWith, List.flat_map}}
use Rattle.tc_blocks.{specs.{Block.with_lf, Line.line_text}, proofs.Unfinished.starts_before}
use Rattle.tc_blocks.proofs.write.append_lines.Goals as goal

pub returns-in_err-append_line-clause-err : goal.returns-in_err-append_line-clause-err
returns-in_err-append_line-clause-err c =
    let old = c.args.out.now.items in
    let lines = flat_map (λ x. with_lf (line_text x)) (take c.loop-line.line-index c.args.lines.now) in
    let begins : StartsWith c.append_line.new.out.items old =
    starts_before old lines (old ++ lines) c.append_line.new.out.items refl (rw c.loop-line.invariant at c.in_err-append_line.ensures.err) in
    search (rules, begins)
