-- What other crates cite of these definitions.
pub use Rattle.tc_script.specs.Calls.{Acts, MakesItsCalls}
