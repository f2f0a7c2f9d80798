-- What other crates cite of these definitions.
pub use Rattle.tc_reader.specs.{Campaign.{CampaignView, IsCase, StartsOne}, Inside.signatures}
unfoldable pub use Rattle.tc_reader.specs.Campaign.{campaign}
pub use Rattle.tc_reader.specs.{ScriptKind.script_fault_text, Names.{Word, add, has_twice}}
unfoldable pub use Rattle.tc_reader.specs.Names.{among}
pub use Rattle.tc_reader.specs.Scope.{Head}
unfoldable pub use Rattle.tc_reader.specs.Text.{lines, words}
unfoldable pub use Rattle.tc_reader.specs.Words.{is_text, keyword}
