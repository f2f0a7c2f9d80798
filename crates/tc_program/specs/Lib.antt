-- The definitions that the contracts of this crate cite.
pub mod Alone
pub mod Answer
pub mod Cases
pub mod Explained
pub mod Explore
pub mod Limits
pub mod Made
pub mod Model
pub mod Program
pub mod Replay
pub mod Serve
pub mod WrittenHistories
pub mod Inside
pub mod Prelude
pub use Rattle.tc_stream.specs.Prelude as OfStream
pub use Rattle.tc_text.specs.Prelude as OfText
pub use Rattle.tc_rules.specs.Prelude as OfRules
pub use Rattle.tc_blocks.specs.Prelude as OfBlocks
pub use Rattle.tc_book.specs.Prelude as OfBook
pub use Rattle.tc_exec.specs.Prelude as OfExec
pub use Rattle.tc_command.specs.Prelude as OfCommand
pub use Rattle.tc_report.specs.Prelude as OfReport
pub use Rattle.tc_campaign.specs.Prelude as OfCampaign
pub use Rattle.tc_step.specs.Prelude as OfStep
pub use Rattle.tc_serve.specs.Prelude as OfServe
pub use Rattle.tc_reader.specs.Prelude as OfReader
pub use Rattle.tc_script.specs.Prelude as OfScript
pub use Rattle.tc_explain.specs.Prelude as OfExplain
pub use Rattle.tc_course.specs.Prelude as OfCourse
pub use Rattle.tc_explore.specs.Prelude as OfExplore
pub use Rattle.tc_explored.specs.Prelude as OfExplored
pub use Rattle.tc_answer.specs.Prelude as OfAnswer
pub use Rattle.tc_judge.specs.Prelude as OfJudge
pub use Rattle.tc_run.specs.Prelude as OfRun
pub use Rattle.tc_model.specs.Prelude as OfModel
