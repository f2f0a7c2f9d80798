use Rattle.std.{proofs.{Common.{◌≡◌, ◌∙◌, ◌++◌, ℕ, List, length, take, drop, sym, ap, append_assoc, take-append-drop, Result, Ok, Err, OnErr, OnOk}, Math.Seq.take-append_seam}, specs.Io.StartsWith}
use Rattle.tc_text.{specs.{Inside.operand_text, Spelling.op_text}, proofs.Operands.op_words}
use Rattle.tc_text.proofs.writing.append_op.Goals as goal

-- what begins with more begins with less
starts_less : (new mid old words : List ℕ) → mid ≡ old ++ words → StartsWith new mid → StartsWith new old
starts_less new mid old words is starts =
    let behind = drop (length mid) new in
    let whole : new ≡ old ++ (words ++ behind) =
    sym (take-append-drop (length mid) new) ∙ (ap (λ l. l ++ behind) (starts ∙ is) ∙ append_assoc old words behind) in
    ap (take (length old)) whole ∙ take-append_seam old (words ++ behind)

refused_less : {A E : Type 0} (r : Result A E) (new mid old words : List ℕ) → mid ≡ old ++ words → OnErr r (StartsWith new mid) → OnErr r (StartsWith new old)
refused_less (Ok x) new mid old words is starts = tt
refused_less (Err e) new mid old words is starts = starts_less new mid old words is starts

pub returns-clause-err : goal.returns-clause-err
returns-clause-err c = refused_less c.append_operand.result _ _ _ _ c.in_ok-append_text.ensures.ok c.append_operand.ensures.err

-- what is appended after words is what is appended of both
joined : {A E : Type 0} (r : Result A E) (new mid old words more both : List ℕ) → mid ≡ old ++ words → both ≡ words ++ more → OnOk r (new ≡ mid ++ more) → OnOk r (new ≡ old ++ both)
joined (Ok x) new mid old words more both is parts e = e ∙ (ap (λ l. l ++ more) is ∙ (append_assoc old words more ∙ ap (λ l. old ++ l) (sym parts)))
joined (Err e) new mid old words more both is parts h = tt

pub returns-clause-ok : goal.returns-clause-ok
returns-clause-ok c =
    joined c.append_operand.result _ _ _ _ (operand_text c.args.op.now) (op_text c.args.op.now) c.in_ok-append_text.ensures.ok (let parts = op_words c.args.op.now in cc) c.append_operand.ensures.ok
