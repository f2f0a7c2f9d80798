-- What other crates cite of these definitions.
pub use Rattle.tc_model.specs.Models.{AreAttempts, AreModels, attempt_note, written}
