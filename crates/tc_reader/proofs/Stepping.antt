-- What the commonest lines say, and what the walk makes of them.
use Rattle.std.{proofs.{Common.{ℕ, ◌≡◌, ◌∙◌, get_or, Bool, true, false, Some, None, Ok, Err, List, [], ◌∷◌, ◌++◌, length, refl, sym, arith, codes, tests}, lemmas.{Bool.Decides.{Decides-by_and, nat_tests}, List.Splits.slice_split_none, Slice.Eq.{HasBytesAt, text_from_reads}}}, specs.{Prelude.{◌==◌, ◌&&◌, ◌||◌, nat_le, bytes_eq, if◌then◌else◌, is_some, IsTrue}, List.{AllByRecursion, list_all, list_any, slice_split}, Option.option_map_or}}
use Rattle.tc_entry.{specs.Prelude.{IsName, UserVerdict, given, is_name, is_name_byte, name_of}, proofs.Lemmas.Names.{name_parts}}
use Rattle.tc_step.specs.{declared.{place.{Place.Place, TargetPlace.TargetPlace}, step.{Status.Status, Step.Step}}, Prelude.{of_target, target_map}}
use Rattle.tc_reader.{specs.{Campaign.{place, step_of}, FirstPass.{argument_count, open_after}, Inside.{IsStepOf, IsTargetOf, Takes, WalkView, after, counted, counted_with, fault_in, if_bound, keyword_text, place_in, with_made_step}, Line.{form, line_of, reference, target_named, word_name}, Names.{Word, among, index_of}, SecondPass.is_unbound, Text.words, Words.{is_text, keyword, verdict}, declared.{counts.{Counts.Counts, Open.Open}, fault.ReadFault.ReadFault, kind.ScriptKind.ScriptKind, line.{Call.Call, Keyword.Keyword, Line.Line}}}, proofs.{Skipping.{comment_line, empty_line}}}

-- the word has the length and the bytes of the text
abbrev pub Spells : List ℕ → List ℕ → Type 0
Spells word text = (length word ≡ length text) × HasBytesAt word 0 text

same : (word text : List ℕ) → Spells word text → word ≡ text
same word text is = text_from_reads word text is.0 is.1

-- ---- verdict calls

gets : line_of (codes "getverdict") ≡ Ok (Line.Step Call.GetVerdict)
unfolding line_of words is_text keyword verdict form
gets = refl

sets : (v : UserVerdict) → line_of (codes "setverdict " ++ name_of (given v)) ≡ Ok (Line.Step (Call.SetVerdict v))
unfolding line_of words is_text keyword verdict form
sets UserVerdict.None = refl
sets _ = refl

pub get : (line : List ℕ) (ns : List Word) → Spells line (codes "getverdict") → IsStepOf ns line Step.GetVerdict
unfolding step_of
get line ns e = record { call = Call.GetVerdict; is = rw (same line (codes "getverdict") e) gets; is_made = refl; gives_none = refl; binds_none = λ _. refl; starts_none = λ _ _. refl }

pub set : (v : UserVerdict) (line : List ℕ) (ns : List Word) → Spells line (codes "setverdict " ++ name_of (given v)) → IsStepOf ns line (Step.SetVerdict v)
unfolding step_of
set v line ns e = record { call = Call.SetVerdict v; is = rw (same line (codes "setverdict " ++ name_of (given v)) e) (sets v); is_made = refl; gives_none = refl; binds_none = λ _. refl; starts_none = λ _ _. refl }

-- ---- status calls

-- one word of printable bytes
record IsOne (word : List ℕ) : Type 0 where
  is_some : (length word == 0) ≡ false
  is_one : slice_split (λ b. b == 32) word ≡ word ∷ []
  is_printable : list_all (λ b. nat_le 32 b && nat_le b 126) word ≡ true

asks : (s : Status) (word : List ℕ) (t : TargetPlace (Place Word)) → IsOne word → target_named word ≡ Ok t
    → line_of (keyword_text (Keyword.Ask s) ++ 32 ∷ word) ≡ Ok (Line.Step (Call.Ask s t))
unfolding line_of words is_text keyword form
asks Status.Running word t one is = rw (one.is_one, one.is_printable, one.is_some, is) refl
asks _ word t one is = rw (one.is_one, one.is_printable, one.is_some, is) refl

waits : (word : List ℕ) (t : TargetPlace (Place Word)) → IsOne word → target_named word ≡ Ok t → line_of (codes "wait done " ++ word) ≡ Ok (Line.Step (Call.Wait false t))
unfolding line_of words is_text keyword form
waits word t one is = rw (one.is_one, one.is_printable, one.is_some, is) refl

named_by : (ns : List Word) (word text : List ℕ) (t : TargetPlace (Place ℕ)) (named : TargetPlace (Place Word)) → Spells word text → IsOne text → target_named text ≡ Ok named
    → if_bound ns (of_target named) (target_map (place ns) named) ≡ Some t → IsTargetOf ns word t
named_by ns word text t named e one is bound =
    record { target = named; is = λ s. rw (same word text e) (asks s text named one is); is_wait = rw (same word text e) (waits text named one is); is_bound = bound }

pub own : (ns : List Word) (word : List ℕ) → Spells word (codes "self") → IsTargetOf ns word (TargetPlace.One Place.Own)
unfolding target_named reference is_text step_of
own ns word e = named_by ns word (codes "self") _ (TargetPlace.One Place.Own) e (record { is_some = refl; is_one = refl; is_printable = refl }) refl refl

pub main : (ns : List Word) (word : List ℕ) → Spells word (codes "mtc") → IsTargetOf ns word (TargetPlace.One Place.Main)
unfolding target_named reference is_text step_of
main ns word e = named_by ns word (codes "mtc") _ (TargetPlace.One Place.Main) e (record { is_some = refl; is_one = refl; is_printable = refl }) refl refl

pub any : (ns : List Word) (word : List ℕ) → Spells word (codes "any") → IsTargetOf ns word TargetPlace.Any
unfolding target_named is_text step_of
any ns word e = named_by ns word (codes "any") _ TargetPlace.Any e (record { is_some = refl; is_one = refl; is_printable = refl }) refl refl

pub all : (ns : List Word) (word : List ℕ) → Spells word (codes "all") → IsTargetOf ns word TargetPlace.All
unfolding target_named is_text step_of
all ns word e = named_by ns word (codes "all") _ TargetPlace.All e (record { is_some = refl; is_one = refl; is_printable = refl }) refl refl

allowed_byte : (b : ℕ) → IsTrue (is_name_byte b) → ((nat_le 32 b && nat_le b 126) ≡ true) × ((b == 32) ≡ false)
allowed_byte b h = (grind (arith, nat_tests, tests, h), grind (arith, nat_tests, tests, h))

one_name : (word : List ℕ) → IsName word → IsOne word
one_name word is = record {
  is_some = grind (arith, nat_tests, (name_parts word is).some);
  is_one = slice_split_none (λ b. b == 32) word (λ i d lt. (allowed_byte (get_or word i d) ((name_parts word is).allowed i d lt)).1);
  is_printable =
      (Decides-by_and (λ b. nat_le 32 b && nat_le b 126) (λ b. (nat_le 32 b && nat_le b 126) ≡ true) (list_all (λ b. nat_le 32 b && nat_le b 126)) (λ b. (λ e. e, λ e. e)) refl (λ _ _. refl) word).1
      (λ i d lt. (allowed_byte (get_or word i d) ((name_parts word is).allowed i d lt)).0);
}

neither : (a b : Bool) → (a || b) ≡ false → (a ≡ false) × (b ≡ false)
neither false b e = (refl, e)
neither true b e = absurd cc

others : (word : List ℕ) (texts : List (List ℕ)) → list_any (bytes_eq word) texts ≡ false → AllByRecursion (λ text. is_text word text ≡ false) texts
unfolding is_text
others word [] e = tt
others word (t ∷ texts) e = let two = neither (bytes_eq word t) (list_any (bytes_eq word) texts) e in (two.0, others word texts two.1)

target_of : (word : List ℕ) → is_name word ≡ true → target_named word ≡ Ok (TargetPlace.One (Place.Bound word))
unfolding target_named reference word_name
target_of word is =
    let no = others word (codes "all" ∷ codes "any" ∷ codes "mtc" ∷ codes "self" ∷ []) (name_parts word is).unreserved in
    rw (no.1.0, no.0, no.1.1.0, no.1.1.1.0, is) refl

bound_at : (ns : List Word) (word : Word) (i : ℕ) → place_in ns word ≡ Some i
    → if_bound ns (Place.Bound word ∷ []) (TargetPlace.One (Place.Bound (index_of word ns))) ≡ Some (TargetPlace.One (Place.Bound i))
bound_at ns word i at = by (among word ns) refl at
  where
    by : (b : Bool) → among word ns ≡ b → (if b then Some (index_of word ns) else None) ≡ Some i
        → if_bound ns (Place.Bound word ∷ []) (TargetPlace.One (Place.Bound (index_of word ns))) ≡ Some (TargetPlace.One (Place.Bound i))
    by true found e = let same : index_of word ns ≡ i = cc in rw (found, same) refl
    by false found e = absurd cc

pub bound_name : (ns : List Word) (word : List ℕ) (i : ℕ) → is_name word ≡ true → place_in ns word ≡ Some i → IsTargetOf ns word (TargetPlace.One (Place.Bound i))
bound_name ns word i is at =
    record { target = TargetPlace.One (Place.Bound word); is = λ s. asks s word _ (one_name word is) (target_of word is); is_wait = waits word _ (one_name word is) (target_of word is); is_bound = bound_at ns word i at }

pub ruleset target_rules = (own, main, any, all, bound_name)

-- what is made of a call that names bound components
made_of : (ns : List Word) (target : TargetPlace (Place Word)) (t : TargetPlace (Place ℕ)) (f : TargetPlace (Place ℕ) → Step) → if_bound ns (of_target target) (target_map (place ns) target) ≡ Some t
    → option_map_or (λ s. Ok s) (if_bound ns (of_target target) (f (target_map (place ns) target))) (Err ScriptKind.NoReference) ≡ Ok (f t)
made_of ns target t f e = by (list_any (is_unbound ns) (of_target target)) e
  where
    by : (b : Bool) → (if b then None else Some (target_map (place ns) target)) ≡ Some t
        → option_map_or (λ s. Ok s) (if b then None else Some (f (target_map (place ns) target))) (Err ScriptKind.NoReference) ≡ Ok (f t)
    by true e = absurd cc
    by false e = let same : target_map (place ns) target ≡ t = cc in rw same refl

pub ask : (ns : List Word) (line word : List ℕ) (s : Status) (t : TargetPlace (Place ℕ)) → line ≡ keyword_text (Keyword.Ask s) ++ 32 ∷ word → IsTargetOf ns word t
    → IsStepOf ns line (Step.Ask s t)
unfolding step_of
ask ns line word s t e is = record {
  call = Call.Ask s is.target;
  is = rw e (is.is s);
  is_made = made_of ns is.target t (Step.Ask s) is.is_bound;
  gives_none = refl;
  binds_none = λ _. refl;
  starts_none = λ _ _. refl;
}

pub wait : (ns : List Word) (line word : List ℕ) (t : TargetPlace (Place ℕ)) → line ≡ codes "wait done " ++ word → IsTargetOf ns word t → IsStepOf ns line (Step.Wait false t)
unfolding step_of
wait ns line word t e is = record {
  call = Call.Wait false is.target;
  is = rw e is.is_wait;
  is_made = made_of ns is.target t (Step.Wait false) is.is_bound;
  gives_none = refl;
  binds_none = λ _. refl;
  starts_none = λ _ _. refl;
}

pub ruleset ask_rules = (ask, wait, get, set)

-- ---- what the walk makes of it

counted_so : (counts : Counts) (o : Open) (call : Call) → argument_count call ≡ 0
    → option_map_or (λ o. counted_with (Line.Step call) o counts) (open_after (Line.Step call) o) (Err ScriptKind.BadPlace)
    ≡ option_map_or (λ o. counted_with (Line.Step Call.GetVerdict) o counts) (open_after (Line.Step Call.GetVerdict) o) (Err ScriptKind.BadPlace)
counted_so counts Open.Behaviour call few = rw few refl
counted_so counts _ call few = refl

after_step : (number : ℕ) (w : WalkView) (bytes : List ℕ) (s : Step) → (is : IsStepOf w.names.bound bytes s) → after number (Line.Step is.call) w ≡ with_made_step s w
after_step number w bytes s is = by (is_some w.fault) refl
  where
    by : (b : Bool) → is_some w.fault ≡ b → after number (Line.Step is.call) w ≡ with_made_step s w
    by true e = rw (is.is_made, is.binds_none w.names.bound, e) refl
    by false e = rw (is.is_made, is.binds_none w.names.bound, e, is.starts_none w.starts number) refl

pub stepped : (number : ℕ) (counts more : Counts) (w next : WalkView) (bytes : List ℕ) (s : Step) → IsStepOf w.names.bound bytes s
    → counted counts (Line.Step Call.GetVerdict) ≡ Ok more → next ≡ with_made_step s w → Takes number counts w next (Ok more) (line_of bytes)
stepped number counts more w next bytes s is count ends =
    (Line.Step is.call, is.is, counted_so counts counts.state is.call is.gives_none ∙ count, ends ∙ sym (after_step number w bytes s is))

pub refused : (number : ℕ) (counts : Counts) (w next : WalkView) (bytes : List ℕ) (s : Step) (kind : ScriptKind) → IsStepOf w.names.bound bytes s
    → counted counts (Line.Step Call.GetVerdict) ≡ Err kind → Takes number counts w next (Err (ReadFault.Script (fault_in number kind))) (line_of bytes)
refused number counts w next bytes s kind is count = (refl, rw is.is (counted_so counts counts.state is.call is.gives_none ∙ count))

pub skipped : (number : ℕ) (counts : Counts) (w : WalkView) (bytes : List ℕ) → line_of bytes ≡ Ok Line.Skipped → Takes number counts w w (Ok counts) (line_of bytes)
skipped number counts w bytes is = (Line.Skipped, is, refl, refl)

pub ruleset step_rules = (stepped, refused, skipped, empty_line, comment_line)
