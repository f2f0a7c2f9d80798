use Rattle.std.proofs.Common.{refl}
use Rattle.tc_serve.proofs.Feeding.{fed_line, stops_line}
use Rattle.tc_serve.proofs.serving.Serving.end_line.Goals as goal

pub returns-in-Ok-clause-ok : goal.returns-in-Ok-clause-ok
returns-in-Ok-clause-ok c bytes before before' fed = fed_line bytes c.args.self.now c.serve_line.new.self _ before _ _ before' _ _ fed c.in-Ok.ensures.ok refl refl refl c.clear.ensures.items

pub returns-in-Err-clause-stopped : goal.returns-in-Err-clause-stopped
returns-in-Err-clause-stopped c bytes more before before' input fed = stops_line bytes more c.args.self.now before _ _ before' _ _ input c.in-Err.fault fed c.in-Err.ensures.fault c.in-Err.ensures.err c.in-Err.ensures.err_told
