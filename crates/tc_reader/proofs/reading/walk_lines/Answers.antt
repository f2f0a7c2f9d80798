use Rattle.std.proofs.Common.{rules, arith, refl}
use Rattle.tc_reader.specs.FirstPass.{opened, steps_in}
use Rattle.tc_reader.proofs.WalkedText.{may_take, read_more, read_fails, read_first, read_cut, read_misnamed, read_whole, read_lawful}
use Rattle.tc_reader.proofs.reading.walk_lines.Goals as goal

pub loop-bytes-init : goal.loop-bytes-init
unfolding opened steps_in
loop-bytes-init c = read_first c.args.text.now _ _ c.new-rest.result (omega arith) (search rules) refl (search rules)

pub take_line-requires : goal.take_line-requires
take_line-requires c = record { may_take = may_take _ _ _ _ _ c.loop-bytes.invariant }

pub loop-bytes-preserved : goal.loop-bytes-preserved
loop-bytes-preserved c = read_more _ _ _ _ _ _ _ _ _ c.loop-bytes.invariant (search rules) c.in-Ok.ensures.taken

pub returns-in-Err-clause-answer : goal.returns-in-Err-clause-answer
returns-in-Err-clause-answer c =
    read_fails {V = Unit {0}} (λ _. c.take_line.new.walk.made.done) c.args.text.now c.in-Err.fault _ c.take_line.new.walk _ _ _ c.next.new.self _ c.loop-bytes.invariant (search rules) c.in-Err.ensures.taken

pub returns-then-not-has_ended-clause-answer : goal.returns-then-not-has_ended-clause-answer
returns-then-not-has_ended-clause-answer c = read_cut c.args.text.now _ c.loop-bytes.counts c.loop-bytes.line c.loop-bytes.rest c.loop-bytes.invariant (search rules) (search rules)

pub end-requires : goal.end-requires
end-requires c = record { may_end = (may_take _ _ _ _ _ c.loop-bytes.invariant).may_end }

pub returns-in-Some-fault-clause-answer : goal.returns-in-Some-fault-clause-answer
returns-in-Some-fault-clause-answer c =
    read_misnamed c.args.text.now c.loop-bytes.walk c.end.new.self c.loop-bytes.counts c.loop-bytes.line c.loop-bytes.rest c.in-Some-fault.fault c.loop-bytes.invariant (search rules) (search rules) (search rules) (search rules)

pub returns-clause-answer : goal.returns-clause-answer
returns-clause-answer c =
    read_whole c.args.text.now c.loop-bytes.walk c.end.new.self c.loop-bytes.counts c.loop-bytes.line c.loop-bytes.rest c.loop-bytes.invariant (search rules) (search rules) (search rules) (search rules)

pub returns-clause-law : goal.returns-clause-law
returns-clause-law c = read_lawful c.args.text.now c.loop-bytes.walk c.end.new.self c.loop-bytes.counts c.loop-bytes.line c.loop-bytes.rest c.loop-bytes.invariant (search rules) (search rules)
