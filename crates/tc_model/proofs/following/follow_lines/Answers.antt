use Rattle.std.proofs.Common.{rules, ◌≡◌, ◌<◌, ◌≤◌, ◌+◌, None, length, get_or, subst}
use Rattle.std.specs.Option.{IsSomeAnd, MatchOption}
use Rattle.tc_rules.specs.Prelude.{past_of}
use Rattle.tc_model.specs.Inside.{IsEntryTaken}
use Rattle.tc_model.proofs.Followed.{ended, follows_entry, follows_other, refused_entry}
use Rattle.tc_model.proofs.following.follow_lines.Goals as goal
use Rattle.tc_model.proofs.following.follow_lines.Goals.{in-Entry+in_ok-course-in-Entry+in-Ok, in-Named, in_default}

pub returns-in-Err-clause-refused : goal.returns-in-Err-clause-refused
returns-in-Err-clause-refused c =
    let b = c.args.block.now in
    let i = c.loop-each.each-index in
    let l = c.each-item.result in
    let e = c.in-Entry.entry in
    let t = c.loop-each.course in
    let v = c.loop-each.ways in
    let w = c.with_entry.new.ways in
    let within : i < length b.lines = search rules in
    let here : get_or b.lines i l ≡ l = search rules in
    let number : c.in_ok-line.line ≡ b.first_line + i + 1 = search rules in
    refused_entry b i c.in_ok-line.line l e c.in-Err.reason t v w within here c.in-Entry.is c.loop-each.invariant.1 number
    (subst (IsEntryTaken b.header.behaviours (past_of t) e w) c.in-Err.is c.in_ok-course-in-Entry.ensures)

pub loop-each-preserved : goal.loop-each-preserved
loop-each-preserved c =
    let b = c.args.block.now in
    let i = c.loop-each.each-index in
    let l = c.each-item.result in
    let t = c.loop-each.course in
    let v = c.loop-each.ways in
    let within : i < length b.lines = search rules in
    let here : get_or b.lines i l ≡ l = search rules in
    let number : c.in_ok-line.line ≡ b.first_line + (i + 1) = search rules in
    let follows = c.loop-each.invariant.1 in
    elim c.match-each.branch [
      | in-Entry+in_ok-course-in-Entry+in-Ok w ↦
          let taken = subst (IsEntryTaken b.header.behaviours (past_of t) w.in-Entry.entry w.with_entry.new.ways) w.in-Ok.is w.in_ok-course-in-Entry.ensures in
          rw (w.course-is, w.ways-is) (number, follows_entry b i l w.in-Entry.entry t w.in-Ok.course v w.with_entry.new.ways within here w.in-Entry.is follows taken)
      | in-Named w ↦
          let is = w.in-Named.is in
          rw (w.course-is, w.ways-is) (number, follows_other b i l t v within here (λ e h. cc) follows)
      | in_default w ↦ rw (w.course-is, w.ways-is) (number, follows_other b i l t v within here w.in_default.not-Entry follows)
    ]

pub returns : goal.returns
returns c =
    let b = c.args.block.now in
    let i = c.loop-each.each-index in
    let n = c.in_ok-line-2.line in
    let t = c.loop-each.course in
    let whole : length b.lines ≤ i = search rules in
    let number : n ≡ b.first_line + i + 1 = search rules in
    let cases : MatchOption c.end_fault.result (c.map.result ≡ None) (λ r. IsSomeAnd c.map.result (λ f. f ≡ record { line = n; reason = r })) = search rules in
    let is = ended b i n t c.loop-each.ways c.end_fault.result c.map.result whole c.loop-each.invariant.1 number c.end_fault.ensures cases in
    record { followed = is.0; refused = is.1 }
