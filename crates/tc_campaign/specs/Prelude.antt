-- What other crates cite of these definitions.
pub use Rattle.tc_campaign.specs.{Campaign.{AreBack, AreFinished, IsCalled, IsCutShort, IsEnding, IsObserved, IsOfCase, IsRefusal, IsRunTo}, Outline.{HasNames, Outline, outline_of}}
