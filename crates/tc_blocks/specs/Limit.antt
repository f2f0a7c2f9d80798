-- How many bytes an input of blocks may have: all together, or each block.
use Rattle.std.specs.{Prelude.{ℕ, ◌≡◌, ◌≤◌, ◌<◌, ◌+◌, ◌==◌, ◌&&◌, ◌⊎◌, Bool, true, false, if◌then◌else◌, List, [], ◌∷◌, ◌++◌, Option, IfSome, codes, length, nat_eq, nat_lt, ◌^◌, ◌-◌}, List.starts_with}
use Rattle.tc_blocks.specs.declared.limit.Limit.{Limit}

-- After n bytes of a block, whose last line so far is given, these bytes may come: no block then has more than the most.
-- A block ends with a line that begins with `end `, or with the text.
abbrev pub may_come : ℕ → ℕ → List ℕ → List ℕ → Bool
may_come most n line [] = true
may_come most n line (b ∷ bs) =
    nat_lt n most && (if b == 10 then may_come most (if starts_with nat_eq line (codes "end ") then 0 else n + 1) [] bs else may_come most (n + 1) (line ++ b ∷ []) bs)

-- the text has no more bytes than it may have, all together or in each block, nor more than can be counted
abbrev pub IsInLimit : Limit → List ℕ → Type 0
IsInLimit (Limit.Whole most) text = length text ≤ most
IsInLimit (Limit.Blocks most) text = (length text < 2 ^ 64 - 1) × (may_come most 0 [] text ≡ true)

-- the input was read whole: a text of as many bytes as it may have, which is what the input holds if that is known; and this is so of it
abbrev pub IsReadIn : Limit → Option (List ℕ) → (List ℕ → Type 0) → Type 0
IsReadIn limit input Holds = (text : List ℕ) × IsInLimit limit text × IfSome input (λ given. text ≡ given) × Holds text
