-- What other crates cite of these definitions, with the types and words of verdicts.
pub use Rattle.tc_verdict.specs.{Prelude.{given, level_of, memory_text, name_of, worse, worst}, declared.memory.NoMemory.NoMemory, declared.run.Run.Run, declared.user_verdict.UserVerdict.UserVerdict, declared.verdict.Verdict.Verdict}
pub use Rattle.tc_entry.specs.{Limits.{IsBehaviours, is_of}, Name.{IsName, IsPattern, is_name_byte, matches}, Shard.{IsShard, ShardView, has_place}, Reply.{fault_name, is_ended, is_fault, is_ok, is_parked, is_wake}}
unfoldable pub use Rattle.tc_entry.specs.Name.{is_name}
