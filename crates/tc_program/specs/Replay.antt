-- What `replay` prints for a move list.
use Rattle.std.specs.{Prelude.{ℕ, ◌≡◌, List, [], ◌∷◌, ◌++◌, map, reverse}, List.flat_map}
use Rattle.tc_rules.specs.Prelude.{Entry, IsLegal, overall}
use Rattle.tc_text.specs.Prelude.{reply_text, IsMoveList}
use Rattle.tc_report.specs.Prelude.{verdict_line, verdict_status}

-- The text is a list of moves, and there is a history of them in which each reply is the component table's. The output is a line for each
-- reply, and then the overall verdict; the status is that of the verdict.
pub record Replays (text out : List ℕ) (status : ℕ) : Type 0 where
  pub behaviours : ℕ
  pub history : List Entry
  pub list : IsMoveList text behaviours (map (λ e. (e.caller, e.op)) history)
  pub legal : IsLegal behaviours (reverse history)
  pub out_is : out ≡ flat_map (λ e. reply_text e.reply ++ (10 ∷ [])) history ++ verdict_line (overall (reverse history))
  pub status_is : status ≡ verdict_status (overall (reverse history))
