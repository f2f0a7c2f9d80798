-- The answers of a hand, as an entry is added to its log.
use Rattle.std.proofs.{Common.{ℕ, ◌≡◌, ◌≢◌, true, false, List, [], ◌∷◌, ◌++◌, length, All, refl, ap, sym, ◌∙◌, append_assoc}, lemmas.List.Elements.{All-append, All-cons, All-nil}, lemmas.List.append-nil}
use Rattle.tc_rules.specs.Prelude.{UserVerdict, Verdict, given, Entry, Op, Reply, is_verdict_call}
use Rattle.tc_board.specs.{declared.answer.Answer.TheVariants.{Met, Found}, Prelude.{HandView, taken}}
use Rattle.tc_book.specs.{Hands.IsHandOf, Inside.IsOneAnswer, Hands.answer_in, Hands.answers_in, Hands.found_by, Inside.Says, Inside.Replies.suits, Inside.setting_in, Inside.settings}

answers_end : (log : List Entry) (e : Entry) → answers_in (log ++ e ∷ []) ≡ answers_in log ++ answer_in e.op e.reply
answers_end [] e = append-nil (answer_in e.op e.reply)
answers_end (x ∷ log) e = ap (λ l. answer_in x.op x.reply ++ l) (answers_end log e) ∙ sym (append_assoc (answer_in x.op x.reply) (answers_in log) (answer_in e.op e.reply))

no_answer : (op : Op) (reply : Reply) → is_verdict_call op ≡ false → answer_in op reply ≡ []
no_answer (Op.SetVerdict v) reply h = absurd cc
no_answer Op.GetVerdict reply h = absurd cc
no_answer _ reply h = refl

each_end : (log after : List Entry) (e : Entry) → after ≡ log ++ e ∷ [] → IsOneAnswer e → All IsOneAnswer log → All IsOneAnswer after
each_end log after e is one each = rw is (All-append IsOneAnswer log (e ∷ []) each (All-cons IsOneAnswer e [] one (All-nil IsOneAnswer)))

-- an entry of no verdict call
pub hand_other : (hand : HandView) (run : ℕ) (log after : List Entry) (e : Entry) → is_verdict_call e.op ≡ false → after ≡ log ++ e ∷ [] → IsHandOf hand run log → IsHandOf hand run after
hand_other hand run log after e other is h = record {
  of_run = h.of_run;
  answers = h.answers ∙ ap (λ l. Met ∷ l) (sym (ap answers_in is ∙ (answers_end log e ∙ (ap (λ l. answers_in log ++ l) (no_answer e.op e.reply other) ∙ append-nil (answers_in log)))));
  each = each_end log after e is (λ (k : is_verdict_call e.op ≡ true). absurd cc) h.each;
}

-- an entry of a verdict call
pub hand_said : (hand hand' : HandView) (run : ℕ) (log after : List Entry) (e : Entry) → Says e.op e.reply hand hand' → after ≡ log ++ e ∷ [] → IsHandOf hand run log → IsHandOf hand' run after
hand_said hand hand' run log after e says is h = let x = says.0 in let said = says.1 in let given = says.2 in record {
  of_run = ap (λ (k : HandView). k.run) given ∙ h.of_run;
  answers = ap (λ (k : HandView). k.answers) given ∙ (ap (λ l. l ++ x ∷ []) h.answers
      ∙ ap (λ l. Met ∷ l) (sym (ap answers_in is ∙ (answers_end log e ∙ ap (λ l. answers_in log ++ l) said))));
  each = each_end log after e is (λ _. ap length said) h.each;
}

-- the log is as it was
pub hand_same : (hand : HandView) (run : ℕ) (log after : List Entry) → after ≡ log → IsHandOf hand run log → IsHandOf hand run after
hand_same hand run log after same h = rw same h

pub found_given : (v : UserVerdict) → found_by (given v) ≡ Found v ∷ []
found_given UserVerdict.None = refl
found_given _ = refl

pub found_suits : (v : UserVerdict) → suits Op.GetVerdict (Reply.Local (given v)) ≡ true
found_suits UserVerdict.None = refl
found_suits _ = refl

pub met_then : (hand : HandView) (run : ℕ) (log : List Entry) → IsHandOf hand run log → hand.answers ≢ []
met_then hand run log h e = let q : Met ∷ answers_in log ≡ [] = sym h.answers ∙ e in absurd cc

pub ruleset hand_rules = (hand_other, hand_said, hand_same, met_then)

-- the settings of a log that were replied Ok are those that its hand was answered were taken
pub settings_taken : (log : List Entry) → settings log ≡ taken (answers_in log)
settings_taken [] = refl
settings_taken (e ∷ log) = by e.op e.reply (settings_taken log)
  where
    by : (op : Op) (r : Reply) → settings log ≡ taken (answers_in log) → setting_in op r ++ settings log ≡ taken (answer_in op r ++ answers_in log)
    by (Op.SetVerdict v) Reply.Ok more = ap (λ vs. v ∷ vs) more
    by Op.GetVerdict (Reply.Local Verdict.None) more = more
    by Op.GetVerdict (Reply.Local Verdict.Pass) more = more
    by Op.GetVerdict (Reply.Local Verdict.Inconc) more = more
    by Op.GetVerdict (Reply.Local Verdict.Fail) more = more
    by Op.GetVerdict (Reply.Local Verdict.Error) more = more
    by _ _ more = more
