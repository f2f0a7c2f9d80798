use Rattle.std.specs.Prelude.{All}
use Rattle.tc_campaign.specs.Prelude.{HasNames}
use Rattle.refused_memory.proofs.campaigns.many.Given as goal

-- each test case so far has a name for its behaviour
abbrev pub invariant-loop : goal.invariant-loop
invariant-loop l = All HasNames l.cases.items
