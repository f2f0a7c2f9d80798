-- What other crates cite of these definitions.
pub use Rattle.tc_judge.specs.{Check.{ChoosesEach, IsChecked, IsLegalBlock, IsMadeOfBlocks, IsMadeOfInput, IsSilent, IsUnreadIn, RefusesBlocks, are_named, counting, history_limit, is_chosen, legal_line}, Compared.{AreToRun, IsCheckedAgainst, IsReportedAgainst, RefusesAgainst, RefusesRun}, Report.{AnswersCases, IsReported, is_of_judged}}
