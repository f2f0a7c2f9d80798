-- What other crates cite of these definitions.
pub use Rattle.tc_stream.specs.Streams.{AppendsPrefix, IsRead, input_text, write_text}
