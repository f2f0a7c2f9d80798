use Rattle.tc_serve.proofs.Feeding.{refusal_is}
use Rattle.tc_serve.proofs.serving.append_refusal.Goals as goal

pub returns-clause-ok : goal.returns-clause-ok
returns-clause-ok c =
    refusal_is c.args.told.now.items _ _ _ _ _ c.args.line c.args.why c.in_ok-append_text.ensures.ok c.in_ok-append_number.ensures.ok c.in_ok-append_text-2.ensures.ok (rw c.text.ensures at c.in_ok-append_text-3.ensures.ok) c.in_ok-push.ensures.items
