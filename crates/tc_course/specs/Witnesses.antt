-- Complete courses and the verdicts with which they end.
use Rattle.std.specs.Prelude.{ℕ, ◌≡◌, ◌==◌, ◌≤◌, ◌+◌, ◌*◌, ◌++◌, Bool, true, false, List, length, reverse, slice_index_or, All}
use Rattle.std.specs.List.{AllZip, list_any}
use Rattle.tc_rules.specs.Prelude.{Verdict, level_of, Comp, Entry, Op, IsLegal, overall}
use Rattle.tc_step.specs.Prelude.{ScriptView}
use Rattle.tc_course.specs.{Course.{IsComplete, IsCourse}, declared.witness.Witness.Witness}

-- this list, the oldest entry first, is a complete course that ends with this verdict
pub record IsWitness (scripts : List ScriptView) (history : List Entry) (v : Verdict) : Type 0 where
  pub course : IsCourse scripts (reverse history)
  pub complete : IsComplete scripts (reverse history)
  pub verdict : v ≡ overall (reverse history)

-- an operation as it was noted: of a Start the last arguments may be left out
abbrev pub IsNoted : Op → Op → Type 0
IsNoted (Op.Start c run args) op = (more : List Comp) × (op ≡ Op.Start c run (args ++ more))
IsNoted noted op = op ≡ noted

-- an entry as it was noted
pub record IsNotedEntry (noted e : Entry) : Type 0 where
  pub caller : e.caller ≡ noted.caller
  pub op : IsNoted noted.op e.op
  pub reply : e.reply ≡ noted.reply

-- In a test case of that many behaviours, the first of which are these scripts, this was noted: with the arguments that were left out it is
-- a complete course that ends with this verdict.
pub record IsShown (scripts : List ScriptView) (behaviours : ℕ) (noted : List Entry) (v : Verdict) : Type 0 where
  pub some : 1 ≤ length scripts
  pub few : length scripts ≤ behaviours
  pub history : List Entry
  pub entries : AllZip IsNotedEntry noted history
  pub witness : IsWitness scripts history v

-- each of these is a witness
abbrev pub AreWitnesses : List ScriptView → List Witness → Type 0
AreWitnesses scripts found = All (λ w. IsWitness scripts w.history w.verdict) found

-- the verdict is that of some witness
abbrev pub is_found : List Witness → Verdict → Bool
is_found found v = list_any (λ w. level_of w.verdict == level_of v) found

-- the verdict of each complete course is found
abbrev pub AllFound : List ScriptView → List Witness → Type 0
AllFound scripts found = (history : List Entry) (v : Verdict) → IsWitness scripts history v → is_found found v ≡ true

-- each is a history in which each reply is the component table's
abbrev pub AreLegal : List ScriptView → List Witness → Type 0
AreLegal scripts found = All (λ w. IsLegal (length scripts) (reverse w.history)) found

-- in a list that has five places for each component, one for each verdict, component c is found with this one
abbrev pub is_local : List Bool → ℕ → Verdict → Bool
is_local found c v = slice_index_or found (c * 5 + level_of v) false
