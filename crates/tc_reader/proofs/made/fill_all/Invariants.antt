use Rattle.std.proofs.Common.{◌≡◌, ◌++◌, take, drop}
use Rattle.tc_reader.specs.Inside.{all_filled, started_of}
use Rattle.tc_reader.proofs.made.fill_all.Given as goal

abbrev pub invariant-loop-draft : goal.invariant-loop-draft
invariant-loop-draft l =
    take l.draft-index l.drafts ++ all_filled l.heads (drop l.draft-index l.drafts) (started_of l.rest) ≡ all_filled l.heads l.initial.drafts (started_of l.starts)
