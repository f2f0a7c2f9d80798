-- The options among the words, as the matches hold them.
use Rattle.std.{proofs.{Common.{ℕ, ◌≡◌, ◌∙◌, ◌+◌, ◌<◌, ◌++◌, ◌∷◌, refl, All, ap, get_or, length, map, subst, sym, take, Option, Some, None, List, []}, lemmas.List.{Elements.{All-cons, All-nil, All-push}, get_or-map, length-map, map-append, take_more}}, specs.{Prelude.{option_map, option_and_then, unwrap_or, ◌&&◌, ◌||◌, Bool, false, if◌then◌else◌, is_none, is_some, true}, Borrow.Bor, Option.option_map_or}}
use Rattle.clap.{specs.{Facts.explicit_source, Matches.{first_value, matched_of, raw_values}, Takes.is_given, Walk.{Row, Text, all_of, first_of, rows_of, texts}, declared.{parser.matches.{Found.Found, MatchedArg.MatchedArg}, error.kind.ErrorKind.TheVariants.{ArgumentConflict, MissingRequiredArgument}}}, proofs.{TakesLemmas.present_row, WalkLemmas.{first_value-rows, raw_values-rows}}}
use Rattle.tc_entry.specs.Prelude.{IsPattern}
use Rattle.tc_command.specs.{Asked.{HasBadWord, IsGoodWord, lacks_script, option_faults, report_form_of}, Inside.IsBadInTurn, declared.{command.Subcommand.Subcommand, word.WordFault.{WordFault, TheVariants.{Only, Progress, Shard, States, StopOn, Suite}}}}

-- whether an option is given, by its value's source
pub given_of : (f : Found) (id : Text) → is_given id (rows_of f) ≡ (is_some (matched_of f id) && explicit_source (option_and_then (λ (a : MatchedArg). a.source) (matched_of f id)))
given_of f id = sym (present_row f id) ∙ go (matched_of f id)
  where
    go : (o : Option MatchedArg) → option_map_or (λ a. explicit_source a.source) o false ≡ (is_some o && explicit_source (option_and_then (λ a. a.source) o))
    go None = refl
    go (Some a) = refl

-- the values of an option, by its row
pub words_are : (f : Found) (id : Text) (ws : List (Bor Text)) → option_map raw_values (matched_of f id) ≡ Some (texts ws) → texts ws ≡ unwrap_or (all_of id (rows_of f)) []
words_are f id ws is = ap (λ o. unwrap_or o []) (sym is ∙ raw_values-rows f id)

-- without a row there is none
pub no_words : (f : Found) (id : Text) → option_map raw_values (matched_of f id) ≡ None → [] ≡ unwrap_or (all_of id (rows_of f)) []
no_words f id is = ap (λ o. unwrap_or o []) (sym is ∙ raw_values-rows f id)

-- the first value of an option, by its row
pub first_word : (f : Found) (id : Text) → first_value f id ≡ first_of id (rows_of f)
first_word f id = first_value-rows f id

-- one more word
pub words_more : (words : List (Bor Text)) (i : ℕ) (d : Bor Text) → i < length words
    → map (λ w. w.now) (take (i + 1) words) ≡ map (λ w. w.now) (take i words) ++ (get_or words i d).now ∷ []
words_more words i d within =
    ap (map (λ (w : Bor Text). w.now)) (take_more words i d within) ∙ map-append (λ (w : Bor Text). w.now) (take i words) (get_or words i d ∷ [])

-- one more word that is a name
pub names_more : (words : List (Bor Text)) (i : ℕ) (d : Bor Text) → i < length words → All IsPattern (map (λ w. w.now) (take i words)) → IsPattern (get_or words i d).now
    → All IsPattern (map (λ w. w.now) (take (i + 1) words))
names_more words i d within so one =
    subst (All IsPattern) (sym (words_more words i d within)) (All-push IsPattern (map (λ (w : Bor Text). w.now) (take i words)) (get_or words i d).now so one)

-- if all words are names, each is one
pub name_at : (words : List (Bor Text)) (i : ℕ) (d : Bor Text) → i < length words → All IsPattern (map (λ w. w.now) words) → IsPattern (get_or words i d).now
name_at words i d within all = subst IsPattern (get_or-map (λ (w : Bor Text). w.now) words i d d.now within) (all i d.now (subst (λ n. i < n) (sym (length-map words (λ (w : Bor Text). w.now))) within))

-- a report with no fault of its options has a form
pub has_form : (s : Subcommand) (rows : List Row) → s ≡ Subcommand.Report → option_faults (s, rows) ≡ [] → is_none (report_form_of rows) ≡ false
has_form s rows is none = go _ (lacks_script rows) (is_none (report_form_of rows)) _ (subst (λ t. option_faults (t, rows) ≡ []) is none)
  where
    go : (apart a b d : Bool) → (if apart then ArgumentConflict ∷ [] else (if a || (b || d) then MissingRequiredArgument ∷ [] else [])) ≡ [] → b ≡ false
    go true a b d h = absurd cc
    go false true b d h = absurd cc
    go false false true d h = absurd cc
    go false false false d h = refl

-- the value that was refused after others were read is the first in their order
module _ (rows : List Row) where
  abbrev Good : WordFault → Type 0
  Good = IsGoodWord rows

  pub first_bad : (fault : WordFault) → IsBadInTurn rows fault → HasBadWord rows fault
  first_bad Shard bad = ([], Only ∷ Suite ∷ StopOn ∷ Progress ∷ States ∷ [], refl, All-nil Good, bad)
  first_bad Only bad = (Shard ∷ [], Suite ∷ StopOn ∷ Progress ∷ States ∷ [], refl, All-cons Good Shard [] bad.0 (All-nil Good), bad.1)
  first_bad Suite bad = (Shard ∷ Only ∷ [], StopOn ∷ Progress ∷ States ∷ [], refl, All-cons Good Shard (Only ∷ []) bad.0 (All-cons Good Only [] bad.1 (All-nil Good)), bad.2)
  first_bad StopOn bad = (Shard ∷ Only ∷ Suite ∷ [], Progress ∷ States ∷ [], refl, All-cons Good Shard (Only ∷ Suite ∷ []) bad.0 (All-cons Good Only (Suite ∷ []) bad.1 (All-cons Good Suite [] bad.2 (All-nil Good))), bad.3)
  first_bad Progress bad = (Shard ∷ Only ∷ Suite ∷ StopOn ∷ [], States ∷ [], refl, All-cons Good Shard (Only ∷ Suite ∷ StopOn ∷ []) bad.0 (All-cons Good Only (Suite ∷ StopOn ∷ []) bad.1 (All-cons Good Suite (StopOn ∷ []) bad.2 (All-cons Good StopOn [] bad.3 (All-nil Good)))), bad.4)
  first_bad States bad = (Shard ∷ Only ∷ Suite ∷ StopOn ∷ Progress ∷ [], [], refl, All-cons Good Shard (Only ∷ Suite ∷ StopOn ∷ Progress ∷ []) bad.0 (All-cons Good Only (Suite ∷ StopOn ∷ Progress ∷ []) bad.1 (All-cons Good Suite (StopOn ∷ Progress ∷ []) bad.2 (All-cons Good StopOn (Progress ∷ []) bad.3 (All-cons Good Progress [] bad.4 (All-nil Good))))), bad.5)
