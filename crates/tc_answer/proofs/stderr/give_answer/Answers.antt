use Rattle.std.{proofs.Common.{inl, inr, refl, subst}, specs.Io.KnownBytes.Appends}
use Rattle.tc_stream.specs.Prelude.{AppendsPrefix}
use Rattle.tc_answer.specs.{Fault.run_fault_line, Stderr.{IsPrintedRefusal, IsTold}}
use Rattle.tc_answer.proofs.stderr.give_answer.Goals as goal

pub returns-in-Ok : goal.returns-in-Ok
returns-in-Ok g c =
    inl (
      subst (Appends (g.W.Write.contents c.args.writer.now) (g.W.Write.contents c.write_whole.new.writer)) c.as_slice.ensures c.in-Ok.ensures.all,
      subst (λ t. IsTold (g.E.Write.contents c.args.errors.now) (g.E.Write.contents c.tell.new.errors) t c.tell.result) c.as_slice-in-Ok.ensures c.tell.ensures,
      refl,
    )

pub returns-in-Err : goal.returns-in-Err
returns-in-Err g c =
    inr (
      subst (AppendsPrefix (g.W.Write.contents c.args.writer.now) (g.W.Write.contents c.write_whole.new.writer)) c.as_slice.ensures c.in-Err.ensures.part,
      subst (λ f. IsPrintedRefusal (g.E.Write.contents c.args.errors.now) (g.E.Write.contents c.refuse.new.errors) (run_fault_line f) c.refuse.result) c.from.ensures c.refuse.ensures,
    )
