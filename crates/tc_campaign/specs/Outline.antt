-- Test cases without what their jobs do.
use Rattle.std.specs.{Prelude.{ℕ, ◌≡◌, List}, Vec.vec_len}
use Rattle.tc_exec.specs.declared.test_case.Case.{Case}

-- a case has as many names of behaviours as jobs
abbrev pub HasNames : {B : Type 0} → Case B → Type 0
HasNames c = vec_len c.names ≡ vec_len c.jobs

-- the names of a case, and how many jobs it has
pub record Outline : Type 0 where
  pub name : List ℕ
  pub names : List (List ℕ)
  pub jobs : ℕ

-- the outline of a case
abbrev pub outline_of : {B : Type 0} → Case B → Outline
outline_of c = record { name = c.name; names = c.names.items; jobs = vec_len c.jobs }
