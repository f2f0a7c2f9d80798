use Rattle.std.proofs.Common.{◌∙◌, ap, sym}
use Rattle.tc_rules.specs.Prelude.{Verdict, worse}
use Rattle.tc_blocks.specs.Prelude.{entries_of}
use Rattle.tc_serve.proofs.Trying.{closing}
use Rattle.tc_serve.proofs.server.Server.close.Goals as goal

pub returns-clause-ok : goal.returns-clause-ok
returns-clause-ok c =
    closing c.args.self.now c.in-Some.held c.take.new.self c.overall.result c.worse_of-self.result c.args.out.now.items c.append_end.new.out.items (sym c.in-Some.ensures.value) c.take.ensures.after
    (λ p is. c.overall.ensures (entries_of p.lines) is.kept.stands) (λ p kept. c.worse_of-self.ensures ∙ ap (λ (w : Verdict). worse c.args.self.now.worst w) (c.counted.ensures p kept)) c.in_ok-append_end.ensures.ok
