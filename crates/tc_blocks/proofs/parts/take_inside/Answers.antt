use Rattle.std.proofs.Common.{refl, rules, arith}
use Rattle.tc_blocks.{specs.Inside.{IsFirst, Refuses, opened}, proofs.PartByPart.{bad_line, closed, gone_on}}
use Rattle.tc_blocks.proofs.parts.take_inside.Goals as goal

pub returns-in_err-line-clause-fault : goal.returns-in_err-line-clause-fault
returns-in_err-line-clause-fault g c =
    let reading = c.args.reading.now in
    let bad : Refuses g.H.TakesEvidence.stands g.H.TakesEvidence.opens (opened reading c.args.block) c.args.text.now c.in_err-line.field-0.0 = record {
      refused = λ before so.
          bad_line g.H.TakesEvidence.stands g.H.TakesEvidence.opens (IsFirst reading.only_histories) before c.args.text.now reading.made reading.line c.args.block c.in_err-line.field-0.0 c.in_err-line.ensures.fault so;
    } in
    search (rules, bad)

pub returns-in_default-clause-read : goal.returns-in_default-clause-read
returns-in_default-clause-read g c = record {
  same = refl;
  goes = λ before so.
      let reading = c.args.reading.now in
      gone_on g.H.TakesEvidence.stands g.H.TakesEvidence.opens (IsFirst reading.only_histories) before c.args.text.now _ reading.made reading.line c.in_ok-line.line c.args.block c.take_lines.new.block so (rw c.in_default.is at c.in_ok-line.ensures.taken) refl c.in_ok-line.ensures.alike.0 c.in_ok-line.ensures.alike.1;
}

pub returns-clause-read : goal.returns-clause-read
returns-clause-read g c =
    let few = c.args.block.few in
    rw c.requires.closed
    (record {
      same = refl;
      goes = λ before so.
          let reading = c.args.reading.now in
          closed g.H.TakesEvidence.stands g.H.TakesEvidence.opens (IsFirst reading.only_histories) before c.args.text.now reading.made c.close.new.self reading.line c.in_ok-line.line c.args.block c.take_lines.new.block.met c.take_lines.new.block.begun (c.in-Some.verdict, c.in-Some.rest)
          (omega (arith, few)) so (rw c.in-Some.is at c.in_ok-line.ensures.taken) c.in_ok-close.ensures;
    })
