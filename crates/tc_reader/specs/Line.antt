-- What a line says.
use Rattle.std.specs.{Prelude.{ℕ, ◌≡◌, ◌==◌, ◌&&◌, nat_le, not, Bool, true, false, if◌then◌else◌, Some, None, Result, Ok, Err, List, [], ◌∷◌, codes, slice_index}, List.list_all, Map.lookup, Option.{ok_or, option_map_or}}
use Rattle.tc_entry.specs.Prelude.{is_name}
use Rattle.tc_step.specs.declared.place.{GroupPlace.GroupPlace, Place.Place, TargetPlace.TargetPlace}
use Rattle.tc_reader.specs.{Text.words, Words.{is_text, keyword, verdict}, declared.{kind.{LineFault.LineFault, ScriptKind.ScriptKind}, line.{Call.Call, Keyword.Keyword, Line.Line}}}

infixl 10 ◌>>=◌
-- what is made of a result, or its fault
abbrev pub ◌>>=◌ : {A B E : Type 0} → Result A E → (A → Result B E) → Result B E
(Ok x) >>= f = f x
(Err e) >>= f = Err e

-- all of them, or the first fault
abbrev pub each : {A B E : Type 0} → (A → Result B E) → List A → Result (List B) E
each f [] = Ok []
each f (x ∷ xs) = f x >>= λ y. each f xs >>= λ ys. Ok (y ∷ ys)

-- the word as a name
unfoldable pub word_name : List ℕ → Result (List ℕ) ScriptKind
word_name word = if is_name word then Ok word else Err ScriptKind.BadName

-- the component that a word names
unfoldable pub reference : List ℕ → Result (Place (List ℕ)) ScriptKind
reference word =
    option_map_or (λ p. Ok p) (lookup (is_text word) ((codes "mtc", Place.Main) ∷ (codes "self", Place.Own) ∷ [])) (word_name word >>= λ n. Ok (Place.Bound n))

-- the components that the word after stop or kill names
unfoldable pub group_named : List ℕ → Result (GroupPlace (Place (List ℕ))) ScriptKind
group_named word = if is_text word (codes "all") then Ok GroupPlace.All else reference word >>= λ r. Ok (GroupPlace.One r)

-- the components that the word after a question or a wait names
unfoldable pub target_named : List ℕ → Result (TargetPlace (Place (List ℕ))) ScriptKind
target_named word =
    option_map_or (λ t. Ok t) (lookup (is_text word) ((codes "any", TargetPlace.Any) ∷ (codes "all", TargetPlace.All) ∷ []))
    (reference word >>= λ r. Ok (TargetPlace.One r))

-- the line of a create that binds the word r; after it may come the name that the component is given
abbrev pub create : List ℕ → Bool → List (List ℕ) → Result Line ScriptKind
create r alive [] = word_name r >>= λ n. Ok (Line.Step (Call.Create n alive None))
create r alive (w ∷ l ∷ []) =
    if not (is_text w (codes "named")) then Err ScriptKind.BadLine
    else word_name r >>= λ n. word_name l >>= λ m. Ok (Line.Step (Call.Create n alive (Some m)))
create r alive _ = Err ScriptKind.BadLine

-- the line that a keyword and the words after it make
unfoldable pub form : Keyword → List (List ℕ) → Result Line ScriptKind
form Keyword.TestCase (n ∷ []) = word_name n >>= λ m. Ok (Line.TestCase m)
form Keyword.Behaviour (n ∷ ps) = word_name n >>= λ m. each word_name ps >>= λ qs. Ok (Line.Behaviour m qs)
form Keyword.End [] = Ok Line.End
form Keyword.Create (r ∷ []) = create r false []
form Keyword.Create (r ∷ w ∷ ws) = if is_text w (codes "alive") then create r true ws else create r false (w ∷ ws)
form Keyword.Start (x ∷ b ∷ as_given) =
    reference x >>= λ on. word_name b >>= λ m. each reference as_given >>= λ args. Ok (Line.Step (Call.Start on m args))
form Keyword.Stop (g ∷ []) = group_named g >>= λ h. Ok (Line.Step (Call.Stop h))
form Keyword.Kill (g ∷ []) = group_named g >>= λ h. Ok (Line.Step (Call.Kill h))
form Keyword.StopCase [] = Ok (Line.Step Call.StopCase)
form (Keyword.Ask s) (t ∷ []) = target_named t >>= λ u. Ok (Line.Step (Call.Ask s u))
form Keyword.Wait (w ∷ t ∷ []) =
    ok_or (lookup (is_text w) ((codes "done", false) ∷ (codes "killed", true) ∷ [])) ScriptKind.BadLine
    >>= λ killed. target_named t >>= λ u. Ok (Line.Step (Call.Wait killed u))
form Keyword.SetVerdict (v ∷ []) = ok_or (verdict v) ScriptKind.BadLine >>= λ u. Ok (Line.Step (Call.SetVerdict u))
form Keyword.GetVerdict [] = Ok (Line.Step Call.GetVerdict)
form _ _ = Err ScriptKind.BadLine

-- the line with these bytes and these words: a comment begins with `#`, 35, and in another line no byte is outside 32 to 126
abbrev pub line_with : List ℕ → List (List ℕ) → Result Line ScriptKind
line_with bytes [] = Ok Line.Skipped
line_with bytes (w ∷ ws) =
    if slice_index w 0 == 35 then Ok Line.Skipped
    else if not (list_all (λ b. nat_le 32 b && nat_le b 126) bytes) then Err ScriptKind.BadByte
    else ok_or (keyword w) ScriptKind.BadLine >>= λ k. form k ws

-- what a line says, or its first fault: BadByte, BadLine or BadName
unfoldable pub line_of : List ℕ → Result Line ScriptKind
line_of bytes = line_with bytes (words bytes)

-- what a function returned is what the line gives, unless memory ran out
abbrev pub Gives : {A : Type 0} → Result A LineFault → Result A ScriptKind → Type 0
Gives (Ok x) said = said ≡ Ok x
Gives (Err LineFault.NoMemory) said = Unit {0}
Gives (Err (LineFault.Kind kind)) said = said ≡ Err kind
