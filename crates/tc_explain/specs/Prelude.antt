-- What other crates cite of these definitions.
unfoldable pub use Rattle.tc_explain.specs.Explanation.{explanation}
