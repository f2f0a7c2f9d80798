use Rattle.std.proofs.Common.{◌∙◌, ◌++◌, ◌∷◌, [], ap, subst, sym}
use Rattle.tc_report.proofs.Lemmas.Keeping.{one_kept}
use Rattle.tc_report.proofs.progress.ProgressObserver.take.Goals as goal

pub returns-then-not-last : goal.returns-then-not-last
returns-then-not-last g c =
    let takes = g.O.Observer.takes in
    let time = c.finish-time in
    let told = c.tell.ensures in
    let begun = c.begin.ensures in (
      subst (λ o. takes o c.args.case c.begin.new.self.observer.now c.take-goes_on.result) (ap (λ o. o.now) told.others)
          (subst (λ o. takes c.tell.new.self.observer.now c.args.case o c.take-goes_on.result) (sym (ap (λ o. o.now) begun.others)) c.take-goes_on.ensures),
      λ start fs at. begun.told start (fs ++ c.args.case ∷ []) (told.told start fs at),
      one_kept time.result c.args.self.now.watch.now.cases time.new.self.cases _ time.ensures.kept time.ensures.room (begun.watch ∙ ap (λ w. w.now.cases) told.watch),
      begun.same_watch ∙ ap (λ w. w.ghost_name) told.watch,
      ap (λ o. o.ghost_name) begun.others ∙ ap (λ o. o.ghost_name) told.others,
      begun.same_writer ∙ told.same_writer,
      begun.same_failed ∙ told.same_failed,
      begun.shown ∙ told.shown,
    )

pub returns-else-goes_on : goal.returns-else-goes_on
returns-else-goes_on g c =
    let takes = g.O.Observer.takes in
    let time = c.finish-time in
    let told = c.tell.ensures in (
      subst (λ o. takes o c.args.case c.take-goes_on.new.self c.take-goes_on.result) (ap (λ o. o.now) told.others) c.take-goes_on.ensures,
      told.told,
      one_kept time.result c.args.self.now.watch.now.cases time.new.self.cases _ time.ensures.kept time.ensures.room (ap (λ w. w.now.cases) told.watch),
      ap (λ w. w.ghost_name) told.watch,
      ap (λ o. o.ghost_name) told.others,
      told.same_writer,
      told.same_failed,
      told.shown,
    )
