-- What other crates cite of these definitions.
pub use Rattle.tc_book.specs.{Closing.{IsFitting, IsOneEach, IsWhole}, Passes.{IsCall, IsWait, LeftState, PassState, Waits, has_ended, reply_of, with_own_entry}, Inside.{entry_of, starts_with}, OpenCase.{start_of, started_with}, OneCase.all_started}
