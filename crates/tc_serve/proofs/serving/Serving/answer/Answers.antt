use Rattle.std.proofs.Common.{◌∙◌, ◌+◌, ap, not, refl, sym}
use Rattle.tc_serve.proofs.{Feeding.{bad_line, done_more, lost_more, refused_more}, Trying.both_open}
use Rattle.tc_serve.proofs.serving.Serving.answer.Goals as goal

pub returns-in_default-clause-ok : goal.returns-in_default-clause-ok
returns-in_default-clause-ok c =
    done_more c.args.ended c.args.self.now _ c.try_line.new.self c.as_slice-line.result.now c.args.texts.now.out.items c.try_line.new.out.items c.args.texts.now.told.items (rw c.in_default.is at c.in_ok-why.ensures.ok) c.as_slice-line.ensures.value refl refl refl

pub returns-then-is_none-clause-fault : goal.returns-then-is_none-clause-fault
returns-then-is_none-clause-fault c =
    bad_line c.args.ended c.args.self.now c.try_line.new.self c.try_line.new.self c.as_slice-line.result.now c.args.texts.now.out.items c.try_line.new.out.items c.in-Some.why (rw c.in-Some.is at c.in_ok-why.ensures.ok) c.as_slice-line.ensures.value _ c.args.texts.now.told.items
    (λ s before out stands. ap not (sym c.if-is_none.true) ∙ (sym c.is_none.ensures ∙ both_open _ s.current stands.current)) refl

pub returns-then-branch-clause-ok : goal.returns-then-branch-clause-ok
returns-then-branch-clause-ok c =
    refused_more c.args.ended c.args.self.now c.try_line.new.self c.refuse.new.self c.args.self.now.line.items c.args.texts.now.out.items c.try_line.new.out.items c.in-Some.why (rw (c.in-Some.is, c.as_slice-line.ensures.value) at c.in_ok-why.ensures.ok) refl _ c.refuse.new.out.items
    c.args.texts.now.told.items (rw (c.if-branch.true, c.as_slice-line.ensures.value) at c.in_ok-refuse.ensures.ok) refl refl refl

pub returns-clause-ok : goal.returns-clause-ok
returns-clause-ok c =
    lost_more c.args.ended c.args.self.now c.try_line.new.self c.refuse.new.self c.args.self.now.line.items c.args.texts.now.out.items c.try_line.new.out.items c.in-Some.why (rw (c.in-Some.is, c.as_slice-line.ensures.value) at c.in_ok-why.ensures.ok) refl _ c.refuse.new.out.items
    c.args.texts.now.told.items c.append_refusal.new.told.items (c.args.self.now.lines + 1) (rw (c.if-branch.false, c.as_slice-line.ensures.value) at c.in_ok-refuse.ensures.ok) (λ s before out stands. ap not (sym c.if-is_none.false) ∙ (sym c.is_none.ensures ∙ both_open _ s.current stands.current)) refl refl refl refl
    c.in_ok-append_refusal.ensures.ok
