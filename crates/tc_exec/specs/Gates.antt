-- The questions that a gate was asked before the workers were made. A gate says by `asks` what one question does to it,
-- and how it is answered.
use Rattle.std.specs.Prelude.{ℕ, zero, suc, ◌≡◌, ◌+◌, ◌<◌, Bool, true}
use Rattle.tc_rules.specs.Prelude.{Run}

module _ {G : Type 0} (asks : G → Run → G → Bool → Type 0) where
  -- the gate was asked about each of the n runs from 1 on once, in their order, and allowed each
  abbrev pub IsPassed : ℕ → G → G → Type 0
  IsPassed zero before after = after ≡ before
  IsPassed (suc n) before after = (between : G) × IsPassed n before between × asks between (record { 0 = n + 1 }) after true

  -- Of the n runs from 1 on the gate was asked about the first, each once, in their order, and allowed each before the
  -- last. Its last answer is open, since the system can refuse a thread too.
  pub record IsStopped (n : ℕ) (before after : G) : Type 0 where
    pub allowed : ℕ
    pub fewer : allowed < n
    pub between : G
    pub passed : IsPassed allowed before between
    pub allowed_last : Bool
    pub at_last : asks between (record { 0 = allowed + 1 }) after allowed_last
