use Rattle.std.proofs.Common.{◌≡◌, OnOk, subst}
use Rattle.tc_report.{specs.InWords.run_in, proofs.Writing.joined}
use Rattle.tc_report.proofs.naming.append_around_run.Goals as goal

pub returns : goal.returns
returns c =
    subst (λ l. OnOk c.append_text-2.result (c.append_text-2.new.out.items ≡ l))
    (joined c.args.out.now.items c.args.before.now (run_in c.args.names.now c.args.run.0) c.args.after.now
    c.append_text.new.out.items c.append_run_in.new.out.items c.in_ok-append_text.ensures.ok c.in_ok-append_run_in.ensures) c.append_text-2.ensures.ok
