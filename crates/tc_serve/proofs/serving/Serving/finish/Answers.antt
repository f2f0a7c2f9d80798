use Rattle.std.proofs.Common.{refl}
use Rattle.tc_serve.proofs.Feeding.{finishes, stops_close}
use Rattle.tc_serve.proofs.serving.Serving.finish.Goals as goal

pub returns-in-Ok-clause-ended : goal.returns-in-Ok-clause-ended
returns-in-Ok-clause-ended c bytes before before' input end fed =
    finishes bytes before before' c.end_last.new.self c.close.new.self _ _ _ _ input _ end (c.in_default.ensures.ok bytes before before' fed) c.in-Ok.ensures.ok c.in-Ok.ensures.refused (λ s before out stands. stands.worst) refl

pub returns-in-Err-close-clause-ended : goal.returns-in-Err-close-clause-ended
returns-in-Err-close-clause-ended c bytes before before' input end fed =
    stops_close bytes before before' c.end_last.new.self _ _ _ _ input end (c.in_default.ensures.ok bytes before before' fed) c.in-Err-close.ensures.err c.in-Err-close.ensures.err_told
