use Rattle.std.proofs.Common.{◌∙◌, ap, filter}
use Rattle.tc_rules.specs.Prelude.{is_other, part}
use Rattle.tc_book.proofs.{InPlace.others-merge, PartOfMerge.part-merge}
use Rattle.tc_book.proofs.merging.merge.Goals as goal

pub returns-clause-merged : goal.returns-clause-merged
returns-clause-merged c = c.in_ok-all.ensures c.args.logs.now (rw c.deref.ensures.value c.in_ok-by_run.ensures.each)

pub returns-clause-kept : goal.returns-clause-kept
returns-clause-kept c = ap (λ l. filter is_other l) (returns-clause-merged c) ∙ others-merge c.args.table_history.now c.args.logs.now

pub returns-clause-parts : goal.returns-clause-parts
returns-clause-parts c = λ one b. ap (λ l. part l b) (returns-clause-merged c) ∙ part-merge c.args.table_history.now c.args.logs.now one b
