-- What other crates cite of these definitions.
pub use Rattle.tc_serve.specs.Serve.{IsServiceEnd, refused_line_text}
