-- What somebody says in one line.
use Rattle.std.specs.Prelude.{ℕ, ◌≤◌, List, length, IsTrue, All}
use Rattle.tc_text.specs.Prelude.{is_plain}

-- a sentence: 1 to 200 bytes from 32 to 126
pub record IsSentence (bs : List ℕ) : Type 0 where
  pub some : 1 ≤ length bs
  pub short : length bs ≤ 200
  pub plain : All (λ b. IsTrue (is_plain b)) bs
