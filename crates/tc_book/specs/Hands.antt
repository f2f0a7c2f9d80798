-- The answers that the hand of a pass had, by the verdict entries of its log.
use Rattle.std.specs.Prelude.{ℕ, ◌≡◌, true, List, [], ◌∷◌, flat_map, length, All}
use Rattle.tc_rules.specs.Prelude.{Verdict, Entry, Op, Reply, is_verdict_call, UserVerdict}
use Rattle.tc_board.specs.{declared.answer.Answer.Answer, declared.answer.Answer.TheVariants.{Found, Met, Shut, Taken}, Prelude.HandView}

-- a verdict that was found; error is never in a word
abbrev pub found_by : Verdict → List Answer
found_by Verdict.None = Found UserVerdict.None ∷ []
found_by Verdict.Pass = Found UserVerdict.Pass ∷ []
found_by Verdict.Inconc = Found UserVerdict.Inconc ∷ []
found_by Verdict.Fail = Found UserVerdict.Fail ∷ []
found_by Verdict.Error = []

-- what the hand was answered for an entry: a setting replied Ok was taken, a get found its reply, and a call replied
-- Ended found the word closed. For any other entry the hand is not asked.
abbrev pub answer_in : Op → Reply → List Answer
answer_in (Op.SetVerdict v) Reply.Ok = Taken v ∷ []
answer_in (Op.SetVerdict v) Reply.Ended = Shut ∷ []
answer_in Op.GetVerdict (Reply.Local v) = found_by v
answer_in Op.GetVerdict Reply.Ended = Shut ∷ []
answer_in _ _ = []

-- the same for the entries of a log, in their order
abbrev pub answers_in : List Entry → List Answer
answers_in log = flat_map (λ e. answer_in e.op e.reply) log

-- a hand of this run, which met its word and then had the answers of this log's verdict entries, one for each of them
pub record IsHandOf (hand : HandView) (run : ℕ) (log : List Entry) : Type 0 where
  pub of_run : hand.run ≡ run
  pub answers : hand.answers ≡ Met ∷ answers_in log
  pub each : All (λ e. is_verdict_call e.op ≡ true → length (answer_in e.op e.reply) ≡ 1) log
