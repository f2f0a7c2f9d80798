use Rattle.std.proofs.Common.{sym, ◌∙◌}
use Rattle.tc_rules.specs.Prelude.{past_of}
use Rattle.tc_book.proofs.Newest.{begun_stay_closed, can_begin_newest, lags_at_most, newest, agree_quietly}
use Rattle.tc_book.proofs.words.Words.follow.Goals as goal

pub begin_started-requires : goal.begin_started-requires
begin_started-requires c =
    let is = newest _ _ c.in-Some.entry.now (sym c.history.ensures.entries ∙ c.in-Some.ensures.cases.0) in
    can_begin_newest c.args.table.now.behaviours (past_of c.args.table.now) _ c.in-Some.entry.now c.args.self.now is c.history.ensures.legal c.requires.agreeing

pub settle-requires : goal.settle-requires
settle-requires c =
    let is = newest _ _ c.in-Some.entry.now (sym c.history.ensures.entries ∙ c.in-Some.ensures.cases.0) in
    record {
      lagging = lags_at_most c.args.table.now.behaviours (past_of c.args.table.now) _ c.in-Some.entry.now c.args.self.now c.begin_started.new.self c.args.carried
          is c.history.ensures.legal c.requires.agreeing c.requires.carried c.begin_started.ensures;
    }

pub returns-else-may_halt-clause-agreeing : goal.returns-else-may_halt-clause-agreeing
returns-else-may_halt-clause-agreeing c =
    let is = newest _ _ c.in-Some.entry.now (sym c.history.ensures.entries ∙ c.in-Some.ensures.cases.0) in
    agree_quietly c.args.table.now.behaviours (past_of c.args.table.now) _ c.in-Some.entry.now c.args.self.now c.begin_started.new.self c.args.carried
    is c.history.ensures.legal c.requires.agreeing c.requires.carried c.begin_started.ensures (sym c.may_halt.ensures ∙ c.if-may_halt.false)

pub returns-else-may_halt-clause-closed : goal.returns-else-may_halt-clause-closed
returns-else-may_halt-clause-closed c =
    let is = newest _ _ c.in-Some.entry.now (sym c.history.ensures.entries ∙ c.in-Some.ensures.cases.0) in
    rw c.begin_started.ensures
    (begun_stay_closed c.in-Some.entry.now.op c.in-Some.entry.now.reply c.args.carried c.args.self.now
    (can_begin_newest c.args.table.now.behaviours (past_of c.args.table.now) _ c.in-Some.entry.now c.args.self.now is c.history.ensures.legal c.requires.agreeing))
