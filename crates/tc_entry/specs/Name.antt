-- What a name of a test case or a behaviour is, and the patterns of names; the spelling is this project's own.
use Rattle.std.specs.{Prelude.{◌==◌, ◌||◌, ℕ, ◌≤◌, Bool, List, length, bytes_eq, codes, false, not, nat_le, IsTrue, All, slice_get, ◌⊎◌, ◌&&◌, if◌then◌else◌, [], ◌∷◌}, Char.{is_ascii_alphabetic, is_ascii_alphanumeric}, List.{list_all, list_any}, Option.option_map_or}

-- a byte that may be in a name: a letter, a digit or `_`
abbrev pub is_name_byte : ℕ → Bool
is_name_byte b = is_ascii_alphanumeric b || (b == 95)

-- the test for a name: a letter, and then letters, digits or `_`, 1 to 32 bytes, and no word that the grammars keep for themselves
unfoldable pub is_name : List ℕ → Bool
is_name bs =
    option_map_or is_ascii_alphabetic (slice_get bs 0) false && list_all is_name_byte bs && nat_le (length bs) 32
    && not (list_any (bytes_eq bs) (codes "all" ∷ codes "any" ∷ codes "mtc" ∷ codes "self" ∷ []))

-- the bytes are a name
abbrev pub IsName : List ℕ → Type 0
IsName bs = IsTrue (is_name bs)

-- 1 to 64 bytes of names and `*`, with a `*`
pub record IsWild (bs : List ℕ) : Type 0 where
  pub is_short : length bs ≤ 64
  pub allowed : All (λ b. IsTrue (is_name_byte b || (b == 42))) bs
  pub has_star : IsTrue (list_any (λ b. b == 42) bs)

-- a pattern: a name, or such bytes
abbrev pub IsPattern : List ℕ → Type 0
IsPattern bs = IsName bs ⊎ IsWild bs

-- the pattern matches the name: a `*` matches any bytes, or none; another byte itself
abbrev pub matches : List ℕ → List ℕ → Bool
matches [] name = length name == 0
matches (byte ∷ bytes) [] = (byte == 42) && matches bytes []
matches (byte ∷ bytes) (b ∷ bs) = if byte == 42 then matches bytes (b ∷ bs) || matches (byte ∷ bytes) bs else (byte == b) && matches bytes bs
