-- What other crates cite of these definitions.
unfoldable pub use Rattle.tc_explored.specs.Details.{details}
-- What they unfold is what `--locals` prints.
unfoldable pub use Rattle.tc_explored.specs.Line.{locals_text}
pub use Rattle.tc_explored.specs.Line.{explored_line, explored_status, witnesses_text}
