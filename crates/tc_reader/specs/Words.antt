-- Single words of a script.
use Rattle.std.specs.{Prelude.{ℕ, nat_eq, Bool, Option, List, [], ◌∷◌, codes}, Cmp.Lexicographic.pointwise, List.find, Map.lookup}
use Rattle.tc_step.specs.declared.step.Status.{Status}
use Rattle.tc_entry.specs.Prelude.{UserVerdict, given, name_of}
use Rattle.tc_reader.specs.declared.line.Keyword.{Keyword}

-- two texts are one
unfoldable pub is_text : List ℕ → List ℕ → Bool
is_text word text = pointwise nat_eq word text

-- the keyword of this spelling
unfoldable pub keyword : List ℕ → Option Keyword
keyword word = lookup (is_text word) (
    (codes "testcase", Keyword.TestCase) ∷ (codes "behaviour", Keyword.Behaviour) ∷ (codes "end", Keyword.End) ∷ (codes "create", Keyword.Create)
    ∷ (codes "start", Keyword.Start) ∷ (codes "stop", Keyword.Stop) ∷ (codes "kill", Keyword.Kill) ∷ (codes "stopcase", Keyword.StopCase)
    ∷ (codes "running", Keyword.Ask Status.Running) ∷ (codes "alive", Keyword.Ask Status.Alive) ∷ (codes "done", Keyword.Ask Status.Done) ∷ (codes "killed", Keyword.Ask Status.Killed)
    ∷ (codes "wait", Keyword.Wait) ∷ (codes "setverdict", Keyword.SetVerdict) ∷ (codes "getverdict", Keyword.GetVerdict) ∷ [])

-- what setverdict may set
unfoldable pub verdict : List ℕ → Option UserVerdict
verdict word = find (λ v. is_text word (name_of (given v))) (UserVerdict.None ∷ UserVerdict.Pass ∷ UserVerdict.Inconc ∷ UserVerdict.Fail ∷ [])
