use Rattle.std.proofs.Common.{◌∙◌, ap, is_err, arith, rules}
use Rattle.tc_serve.{specs.declared.service.ServeFault.ServeFault, proofs.Feeding.{is_no_device, unread, unwritten, written}}
use Rattle.tc_serve.proofs.service.turn.Goals as goal

pub returns-in-Ok-put-clause-turn : goal.returns-in-Ok-put-clause-turn
returns-in-Ok-put-clause-turn g c = λ input output errors turns at_.
    written input _ _ output _ _ errors _ _ _ _ turns c.args.serving.now c.take_read-end.new.self _ _ _ at_ c.in-Ok.ensures.bytes.0 (rw c.as_slice.ensures.value at c.tell-taken.ensures.taken) c.take_read-end.result
    ((rw (c.clear.ensures.items, c.clear-2.ensures.items) at (c.take_read-end.ensures.turn at_.bytes at_.before at_.before')) (g.R.CountedRead.remaining c.read.new.self)
    (λ none. c.in-Ok.ensures.bytes.1 (omega (arith, none, c.in-Ok.ensures.bound.1)) (search rules)) at_.fed)
    (rw c.as_slice-2.ensures.value at c.in-Ok-put.ensures.all)

pub returns-in-Err-clause-turn : goal.returns-in-Err-clause-turn
returns-in-Err-clause-turn g c = λ input output errors turns at_.
    unwritten input _ _ output _ _ errors _ _ _ _ turns c.args.serving.now c.take_read-end.new.self _ _ _ at_ c.in-Ok.ensures.bytes.0 (rw c.as_slice.ensures.value at c.tell-taken.ensures.taken) c.take_read-end.result
    ((rw (c.clear.ensures.items, c.clear-2.ensures.items) at (c.take_read-end.ensures.turn at_.bytes at_.before at_.before')) (g.R.CountedRead.remaining c.read.new.self)
    (λ none. c.in-Ok.ensures.bytes.1 (omega (arith, none, c.in-Ok.ensures.bound.1)) (search rules)) at_.fed)
    (rw c.as_slice-2.ensures.value at c.in-Err.ensures.part)

pub returns-in-Ok-put-clause-read : goal.returns-in-Ok-put-clause-read
returns-in-Ok-put-clause-read g c = is_no_device c.take_read-end.result ServeFault.Read _ c.take_read-end.ensures.own (λ own. own) (c.read.ensures.failed ∙ ap is_err c.in-Ok.is)

pub returns-in-Ok-put-clause-written : goal.returns-in-Ok-put-clause-written
returns-in-Ok-put-clause-written g c = is_no_device c.take_read-end.result ServeFault.Write _ c.take_read-end.ensures.own (λ own. own) (c.put.ensures.failed ∙ ap is_err c.in-Ok-put.is)

pub returns-in_default-clause-turn : goal.returns-in_default-clause-turn
returns-in_default-clause-turn g c = λ input output errors turns at_.
    unread input (g.R.CountedRead.remaining c.args.reader.now) output _ errors _ _ turns c.args.serving.now at_ (g.R.CountedRead.remaining c.read.new.self) c.in_default.ensures.bytes
