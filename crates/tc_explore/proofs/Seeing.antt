-- What a search has seen and found stays so while its lists grow.
use Rattle.std.proofs.lemmas.Grind.{common_steps}
use Rattle.std.proofs.lemmas.Grind.{common_steps}
use Rattle.std.proofs.{Common.{ℕ, ◌≡◌, ◌<◌, true, Some, List, [], ◌∷◌, ◌++◌, length, get_or, slice_get, refl, ap, sym, ◌∙◌, arith, append-nil, length-append}, lemmas.{List.{append_assoc, Elements.All-push, get_or_append_left}, Option.{get_or_from_slice_get, slice_get-get_or, slice_get_within}}, Math.Seq.get_or-append_seam}
use Rattle.tc_rules.specs.Prelude.{Verdict, Entry, Case, past_of}
use Rattle.tc_step.specs.Prelude.{ScriptView}
use Rattle.tc_course.specs.{declared.witness.Witness.Witness, Prelude.is_found}
use Rattle.tc_explore.specs.{Inside.{Seen.{IsLonger, IsMetFurther, IsSeen, StandsOn}, Simulation.{IsClosedFor, IsCovered}}, declared.search.Met.Met}

get_more : (xs more : List Case) (i : ℕ) (t : Case) → slice_get xs i ≡ Some t → slice_get (xs ++ more) i ≡ Some t
get_more xs more i t h =
    let near : i < length xs = slice_get_within xs i t h in
    let far : i < length (xs ++ more) = omega (arith, length-append xs more) in
    slice_get-get_or (xs ++ more) i t far ∙ ap Some (get_or_append_left xs more t i near ∙ get_or_from_slice_get xs i t t h)

pub get_longer : (a b : List Case) (i : ℕ) (t : Case) → IsLonger a b → slice_get a i ≡ Some t → slice_get b i ≡ Some t
get_longer a b i t more h = ap (λ x. slice_get x i) more.1 ∙ get_more a more.0 i t h

pub get_last : (xs : List Case) (t : Case) → slice_get (xs ++ t ∷ []) (length xs) ≡ Some t
get_last xs t =
    let near : length xs < length (xs ++ t ∷ []) = omega (arith, length-append xs (t ∷ [])) in
    slice_get-get_or (xs ++ t ∷ []) (length xs) t near ∙ ap Some (get_or-append_seam xs t [] t)

-- a state that is there was there before
pub at_longer : (a b : List Case) (i : ℕ) (d t : Case) → IsLonger a b → i < length a → slice_get b i ≡ Some t → t ≡ get_or a i d
at_longer a b i d t more near here =
    let some : Some t ≡ Some (get_or a i d) = sym here ∙ get_longer a b i (get_or a i d) more (slice_get-get_or a i d near) in cc

pub longer_self : {A : Type 0} (xs : List A) → IsLonger xs xs
longer_self xs = ([], sym (append-nil xs))

pub longer_by : {A : Type 0} (xs : List A) (x : A) → IsLonger xs (xs ++ x ∷ [])
longer_by xs x = (x ∷ [], refl)

pub longer_then : {A : Type 0} (a b c : List A) → IsLonger a b → IsLonger b c → IsLonger a c
longer_then a b c h k = (h.0 ++ k.0, k.1 ∙ (ap (λ x. x ++ k.0) h.1 ∙ append_assoc a h.0 k.0))

pub met_self : (m : Met) → IsMetFurther m m
met_self m = record { scripts = refl; limit = refl; states = longer_self m.states.items; whole = λ h. h }

pub met_then : (a b c : Met) → IsMetFurther a b → IsMetFurther b c → IsMetFurther a c
met_then a b c h k = grind (arith, common_steps)

seen_further : (a b : Met) (r : List Entry) → IsMetFurther a b → IsSeen a r → IsSeen b r
seen_further a b r h seen = λ w. let s = seen (h.whole w) in (s.0, s.1, get_longer a.states.items b.states.items s.0 s.1 h.states s.2, s.3)

pub found_longer : (a b : List Witness) (v : Verdict) → IsLonger a b → is_found a v ≡ true → is_found b v ≡ true
found_longer a b v more h = grind (arith, common_steps)

pub covered_further : {aim : Verdict} (scripts : List ScriptView) (a b : Met) (q : List Entry) → IsMetFurther a b → IsCovered aim scripts (IsSeen a) q → IsCovered aim scripts (IsSeen b) q
covered_further scripts a b q h cov = λ p cp f. let c = cov p cp f in (c.0, seen_further a b c.0 h c.1, c.2)

-- what a state of the list is on
pub covered_by : {aim : Verdict} (scripts : List ScriptView) (met : Met) (t u : Case) → StandsOn aim scripts t u → IsSeen met (past_of u) → IsCovered aim scripts (IsSeen met) (past_of t)
covered_by scripts met t u stands seen = λ p cp f. (past_of u, seen, stands.stands p cp f)

pub closed_for_further : {aim : Verdict} (scripts : List ScriptView) (a b : Met) (f g : List Witness) (q : List Entry) (e : Entry) → IsMetFurther a b → IsLonger f g →
    IsClosedFor aim scripts (IsSeen a) f q e → IsClosedFor aim scripts (IsSeen b) g q e
closed_for_further scripts a b f g q e h found c = record {
  loud = c.loud;
  over = λ o. found_longer f g _ found (c.over o);
  more = λ o within. covered_further scripts a b (e ∷ q) h (c.more o within);
}

pub ruleset seeing_rules = (longer_self, longer_by, All-push)
