use Rattle.std.proofs.Common.{◌≡◌, true, false, sym, ap, ◌∙◌, arith}
use Rattle.tc_rules.specs.Prelude.{past_of, is_active}
use Rattle.tc_board.specs.declared.record.Record.TheVariants.{Closed}
use Rattle.tc_book.{specs.{Inside.Words.{is_open, opening}, Words.record_at}, proofs.Settling.{close_one, open_unclosed, stay_closed}}
use Rattle.tc_book.proofs.words.Words.settle_one.Goals as goal

pub returns-then-not-is_active-clause-lagging : goal.returns-then-not-is_active-clause-lagging
returns-then-not-is_active-clause-lagging c =
    let begun : is_open (record_at c.args.self.now c.args.b) ≡ true =
    sym (ap is_open c.record_of.ensures) ∙ (sym c.is_open.ensures ∙ c.if-is_open.true) in
    let halted : is_active (past_of c.args.table.now) c.args.b ≡ false = grind (arith, c.is_active.ensures, c.if-not-is_active.true) in
    rw c.close.ensures
    (close_one c.args.table.now.behaviours (past_of c.args.table.now) c.args.self.now c.args.b c.close.result c.requires.lagging c.requires.within begun halted)

pub returns-then-not-is_active-clause-closed : goal.returns-then-not-is_active-clause-closed
returns-then-not-is_active-clause-closed c =
    let begun : is_open (record_at c.args.self.now c.args.b) ≡ true =
    sym (ap is_open c.record_of.ensures) ∙ (sym c.is_open.ensures ∙ c.if-is_open.true) in
    rw c.close.ensures
    (stay_closed c.args.self.now c.args.b (Closed (opening (record_at c.args.self.now c.args.b)) c.close.result) (open_unclosed (record_at c.args.self.now c.args.b) begun))
