use Rattle.std.proofs.{Common.{◌≢◌, [], arith}, lemmas.{Grind.common_steps, Result.on_ok_weaker}}
use Rattle.tc_serve.proofs.Feeding.{ends_none, ends_so, ends_some, stops_last}
use Rattle.tc_serve.proofs.serving.Serving.end_last.Goals as goal

pub returns-then-is_empty-clause-ok : goal.returns-then-is_empty-clause-ok
returns-then-is_empty-clause-ok c bytes before before' fed = ends_none bytes before before' c.args.self.now _ _ fed (grind (arith, common_steps, c.is_empty.ensures, c.if-is_empty.true))

pub returns-clause-ok : goal.returns-clause-ok
returns-clause-ok c = on_ok_weaker c.serve_line.result (λ serves bytes before before' fed. ends_some bytes before before' c.args.self.now c.serve_line.new.self _ _ _ _ fed serves) c.serve_line.ensures.ok

pub returns-clause-stopped : goal.returns-clause-stopped
returns-clause-stopped c =
    let some : c.args.self.now.line.items ≢ [] = λ e. grind (arith, common_steps, e, c.is_empty.ensures, c.if-is_empty.false) in
    ends_so c.serve_line.result _ _ _ _ (λ f fails err err_told bytes before before' input end fed. stops_last bytes before before' c.args.self.now _ _ _ _ input f end fed some fails err err_told)
    c.serve_line.ensures.fault c.serve_line.ensures.err c.serve_line.ensures.err_told
