-- A shard of a campaign, as contracts see it.
use Rattle.std.specs.Prelude.{ℕ, ◌==◌, ◌<◌, ◌%◌, Bool}

-- one of that many shards, by its place among them, which counts from 0
pub record ShardView : Type 0 where
  pub place : ℕ
  pub shards : ℕ

-- there is such a shard
abbrev pub IsShard : ShardView → Type 0
IsShard s = s.place < s.shards

-- the shard has the test case at this place, which counts from 0
abbrev pub has_place : ShardView → ℕ → Bool
has_place s place = place % s.shards == s.place
