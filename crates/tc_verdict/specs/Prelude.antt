-- What other crates cite of these definitions.
pub use Rattle.tc_verdict.specs.{UserVerdict.given, Verdict.level_of, Verdict.name_of, Verdict.worse, Verdict.worst, Words.early_text, Words.memory_text}
