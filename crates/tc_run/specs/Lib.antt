-- The definitions that the contracts of this crate cite.
pub mod Output
pub mod Run
pub mod Inside
pub mod Prelude
pub use Rattle.tc_stream.specs.Prelude as OfStream
pub use Rattle.tc_exec.specs.Prelude as OfExec
pub use Rattle.tc_report.specs.Prelude as OfReport
pub use Rattle.tc_campaign.specs.Prelude as OfCampaign
pub use Rattle.tc_script.specs.Prelude as OfScript
pub use Rattle.tc_course.specs.Prelude as OfCourse
pub use Rattle.tc_answer.specs.Prelude as OfAnswer
