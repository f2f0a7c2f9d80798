use Rattle.std.proofs.{Common.{◌∙◌, ◌++◌, sym}, lemmas.Option.IfSome_then}
use Rattle.tc_text.{specs.{Inside.{operand_text, verb_of}, Reading.op_of}, proofs.Operands.{op_parts, op_spelled}}
use Rattle.tc_text.proofs.short.take_short_op.Goals as goal

pub returns-in_err-verb-clause-only : goal.returns-in_err-verb-clause-only
returns-in_err-verb-clause-only g c op rest fits ends e = absurd (c.in_err-verb.ensures.only (verb_of op) (operand_text op ++ rest) (e ∙ op_parts op rest))

pub returns-clause-spelled : goal.returns-clause-spelled
returns-clause-spelled g c =
    IfSome_then c.take_short_operand.result c.take_short_operand.ensures.spelled
    (λ r is. op_spelled (op_of r.0) c.in_ok-verb.verb c.args.text.now c.in_ok-verb.rest.now r.1.now c.in_ok-verb.ensures.spelled is.0 is.1)

pub returns-clause-only : goal.returns-clause-only
returns-clause-only g c op rest fits ends e =
    let two = c.in_ok-verb.ensures.only (verb_of op) (operand_text op ++ rest) (e ∙ op_parts op rest) in
    c.take_short_operand.ensures.only op rest (sym two.0) fits ends two.1
