use Rattle.std.proofs.Common.{rules, ◌≡◌, ◌&&◌, ◌<◌, length, drop, true, false, arith}
use Rattle.tc_answer.{specs.Input.begins_block, proofs.Splitting.{ends_here, goes_on}}
use Rattle.tc_answer.proofs.input.script_bytes.Goals as goal

pub returns-then-ends_at-clause-is : goal.returns-then-ends_at-clause-is
returns-then-ends_at-clause-is c =
    let text = c.args.text.now in
    let at = c.loop-at.at in
    let within : at < length text = search rules in
    let here : (c.loop-at.begins && begins_block (drop at text)) ≡ true = search rules in
    let none = ends_here text at 0 c.loop-at.begins within here in
    omega (arith, none, c.loop-at.invariant)

pub loop-at-preserved : goal.loop-at-preserved
loop-at-preserved c =
    let text = c.args.text.now in
    let at = c.loop-at.at in
    let within : at < length text = search rules in
    let not : (c.loop-at.begins && begins_block (drop at text)) ≡ false = search rules in
    let next = goes_on text at 0 c.loop-at.begins within not in
    omega (arith, next, c.loop-at.invariant)
