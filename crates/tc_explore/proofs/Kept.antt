-- The states that a search keeps, and how many calls it counts.
use Rattle.std.proofs.lemmas.Grind.{common_steps}
use Rattle.std.proofs.lemmas.Grind.{common_steps}
use Rattle.std.{proofs.{Common.{ℕ, ◌≡◌, ◌<◌, List, [], length, get_or, replicate, set, refl, ap, sym, ◌∙◌, arith, ◌+◌, ◌≤◌, inl, inr, max, nat_eq, All, ◌∷◌, ◌++◌, map, reverse, rules, nat_cmp, subst, append-nil, ⊎_elim, Bool, true, false, Result, Ok, Err, OnOk}, lemmas.{List.{Elements.{All-map, All-nil, All-push, All-same, All-weaker}, get_or-map, get_or-set_other, get_or-set_same, length-map, length-set}, Bool.{cases_eq}, Option.slice_get-get_or}}, specs.{Cmp.Lexicographic.pointwise, List.IsDistinct, Ordering.ord_max}}
use Rattle.tc_entry.specs.declared.limits.TheConstants.{BEHAVIOURS}
use Rattle.tc_step.specs.Prelude.{ScriptView}
use Rattle.tc_rules.specs.Prelude.{Case, past_of, Entry}
use Rattle.tc_course.specs.{Prelude.{carried_on, IsOn, IsCourse}, declared.witness.Witness.Witness}
use Rattle.tc_explore.{specs.{Found.{AreAllMet, AreCourses, AreCovered, AreReached, Covers}, Inside.{Seen.{AreMet, IsCountedTo, IsFurther, IsLonger, IsMetFurther, IsNoLess, IsNoted, IsPlaced, IsSameCase, IsSearch, IsSeen, IsState, IsWith, Reaches}, Twins.{AreKeyed, key_of}}, declared.{findings.Findings.Findings, search.{Met.Met, Search.Search}}}, proofs.{Keeping.state_same, Keys.{AreApart, keys_apart, seen_by_key}, Seeing.{longer_self, met_self}}}

-- nothing was called at the opening
pub reached_none : (scripts : List ScriptView) → AreReached scripts (replicate (length scripts) 0)
reached_none scripts = grind (arith, common_steps)

-- a course reaches as far as it came
pub reaches : (scripts : List ScriptView) (t : Case) (b k : ℕ) → IsOn scripts t → k ≡ carried_on (past_of t) b → Reaches scripts b k
reaches scripts t b k on is = (past_of t, on.course, sym is)

-- one number is another
pub reached_set : (scripts : List ScriptView) (reached : List ℕ) (i k : ℕ) → AreReached scripts reached → i < length reached → Reaches scripts i k
    → AreReached scripts (set reached i k)
reached_set scripts reached i k are near one = record {
  as_many = length-set reached i k ∙ are.as_many;
  each = λ b inside.
      ⊎_elim (λ (same : b ≡ i). rw same (rw (get_or-set_same reached i k 0 near) one)) (λ other. rw (get_or-set_other reached i b k 0 other) (are.each b (omega (arith, inside, length-set reached i k)))) (cases_eq b i);
}

pub ruleset reaching_rules = (reached_none, reaches, reached_set)

-- ---- numbers of calls

pub no_less_self : (a : List ℕ) → IsNoLess a a
no_less_self a = record { as_many = refl; each = λ b near. omega arith }

pub covers_more : (before after : List ℕ) (past : List Entry) → IsNoLess before after → Covers before past → Covers after past
covers_more before after past more covers b near = grind (arith, common_steps)

-- nor any witness
pub covered_more : (before after : List ℕ) (found : List Witness) → IsNoLess before after → AreCovered before found → AreCovered after found
covered_more before after found more covered = grind (arith, common_steps)

pub no_less_then : (a b c : List ℕ) → IsNoLess a b → IsNoLess b c → IsNoLess a c
no_less_then a b c h k = record { as_many = k.as_many ∙ h.as_many; each = λ n near. omega (arith, h.each n near, k.each n (omega (arith, h.as_many, near))) }

pub ruleset covering_rules = (covers_more, covered_more, no_less_then)

-- no run is counted yet
pub counted_none : (scripts : List ScriptView) (reached : List ℕ) (past : List Entry) → AreReached scripts reached → IsCountedTo scripts reached reached past 0
counted_none scripts reached past are = record { reached = are; more = no_less_self reached; covers = λ b near. absurd (omega arith) }

-- the greater of two numbers is one of them
max_by : (P : ℕ → Type 0) (m n : ℕ) → P m → P n → P (max m n)
max_by P m n one other = grind (arith, common_steps)

-- one run more
pub counted_more : (scripts : List ScriptView) (before reached : List ℕ) (t : Case) (n k : ℕ) → IsOn scripts t → n < length reached → k ≡ carried_on (past_of t) n →
    IsCountedTo scripts before reached (past_of t) n → IsCountedTo scripts before (set reached n (max (get_or reached n 0) k)) (past_of t) (n + 1)
counted_more scripts before reached t n k on near is c = record {
  reached = reached_set scripts reached n (max (get_or reached n 0) k) c.reached near (max_by (Reaches scripts n) (get_or reached n 0) k (c.reached.each n near) (reaches scripts t n k on is));
  more = record {
    as_many = length-set reached n (max (get_or reached n 0) k) ∙ c.more.as_many;
    each = λ b inside.
        ⊎_elim (λ (same : b ≡ n). omega (arith, c.more.each b inside, here b same, ap (λ m. get_or reached m 0) same)) (λ other. rw (get_or-set_other reached n b (max (get_or reached n 0) k) 0 other) (c.more.each b inside)) (cases_eq b n);
  };
  covers = λ b below.
      ⊎_elim (λ (same : b ≡ n). omega (arith, ap (carried_on (past_of t)) same ∙ sym is, here b same))
      (λ other. rw (get_or-set_other reached n b (max (get_or reached n 0) k) 0 other) (c.covers b (omega (arith, below, other)))) (cases_eq b n);
}
  where
    here : (b : ℕ) → b ≡ n → get_or (set reached n (max (get_or reached n 0) k)) b 0 ≡ max (get_or reached n 0) k
    here b same = ap (λ m. get_or (set reached n (max (get_or reached n 0) k)) m 0) same ∙ get_or-set_same reached n (max (get_or reached n 0) k) 0 near

-- each run
pub counted_all : (scripts : List ScriptView) (before reached : List ℕ) (past : List Entry) (n : ℕ) → length scripts ≤ n → IsCountedTo scripts before reached past n → Covers reached past
counted_all scripts before reached past n whole c b near = c.covers b (omega (arith, c.reached.as_many, near))

pub ruleset counting_rules = (counted_none, counted_more, counted_all)

-- ---- states

pub on_ok : {A E P Q : Type 0} (r : Result A E) → (P → Q) → OnOk r P → OnOk r Q
on_ok (Ok x) f h = f h
on_ok (Err e) f h = tt

pub with_one : (before after : List Case) (t u : Case) → u.behaviours ≡ t.behaviours → u.history ≡ t.history → after ≡ before ++ u ∷ [] → IsWith before t after
with_one before after t u behaviours entries is = inr (u, record { behaviours = behaviours; entries = entries }, is)

pub longer_with : (before after : List Case) (t : Case) → IsWith before t after → IsLonger before after
longer_with before after t (inl same) = ([], same ∙ sym (append-nil before))
longer_with before after t (inr more) = (more.0 ∷ [], more.2)

-- there is a key for each state
pub as_many_keys : (of : List Entry → List ℕ) (met : Met) → AreKeyed of met → length met.keys.keys ≡ length met.states.items
as_many_keys of met keyed = sym (length-map met.keys.keys (λ k. k.items)) ∙ (ap length keyed ∙ length-map met.states.items (λ t. of (past_of t)))

pub all_with : (P : Case → Type 0) (before after : List Case) (t : Case) → ((u : Case) → IsSameCase t u → P t → P u) → IsWith before t after → All P before → P t → All P after
all_with P before after t keeps (inl same) all one = All-same P after before same all
all_with P before after t keeps (inr more) all one = All-same P after (before ++ more.0 ∷ []) more.2 (All-push P before more.0 all (keeps more.0 more.1 one))

-- none is met yet
pub are_none : (all : Bool) (Fits : Case → Type 0) (met : Met) → 1 ≤ length met.scripts.now → length met.scripts.now ≤ BEHAVIOURS → met.states.items ≡ [] → met.keys.keys ≡ [] → met.is_whole ≡ true → AreMet all Fits met
are_none all Fits met some few none no_key whole = grind (arith, common_steps)

pub placed_further : (all : Bool) (t : Case) (before after : Met) → IsPlaced all t before after → IsMetFurther before after
placed_further all t before after p = record { scripts = p.scripts; limit = p.limit; states = longer_with before.states.items after.states.items t p.states; whole = p.whole }

-- one state more
pub placed_met : (all : Bool) (Fits : List ScriptView → Case → Type 0) (t : Case) (before after : Met) → ((u : Case) → IsSameCase t u → Fits before.scripts.now t → Fits before.scripts.now u) →
    AreMet all (Fits before.scripts.now) before → Fits before.scripts.now t → IsPlaced all t before after → AreMet all (Fits after.scripts.now) after
placed_met all Fits t before after keeps are fits p = grind (arith, common_steps)

-- at most the limit
pub met_within : (all : Bool) (Fits : Case → Type 0) (met : Met) → AreMet all Fits met → length met.keys.keys ≤ met.limit
met_within all Fits met are = omega (arith, as_many_keys (key_of all (length met.scripts.now)) met are.keyed, are.within)

-- as many, if one was left out
pub met_full : (all : Bool) (Fits : Case → Type 0) (met : Met) → AreMet all Fits met → met.is_whole ≡ false → length met.keys.keys ≡ met.limit
met_full all Fits met are part = let full = are.full part in omega (arith, as_many_keys (key_of all (length met.scripts.now)) met are.keyed, are.within, full)

-- ---- a search for verdicts

pub search_none : (s : Search) → 1 ≤ length s.met.scripts.now → length s.met.scripts.now ≤ BEHAVIOURS → s.met.states.items ≡ [] → s.met.keys.keys ≡ [] → s.met.is_whole ≡ true → IsNoted s.met.scripts.now s.found → IsSearch s
search_none s some few none no_key whole noted = grind (arith, common_steps)

pub further_self : (s : Search) → IsSearch s → IsFurther s s
further_self s is = record { search = is; aim = refl; met = met_self s.met; witnesses = longer_self s.found.witnesses.items; reached = no_less_self s.found.reached.items }

pub further_then : (a b c : Search) → IsFurther a b → IsFurther b c → IsFurther a c
further_then a b c h k = grind (arith, common_steps)

-- more is found
pub noted_further : (s : Search) (g : Findings) → IsSearch s → IsNoted s.met.scripts.now g → IsLonger s.found.witnesses.items g.witnesses.items → IsNoLess s.found.reached.items g.reached.items →
    IsFurther s (record { aim = s.aim; met = s.met; found = g })
noted_further s g is noted longer more = grind (arith, common_steps)

same_state : (s : Search) (t u : Case) → IsSameCase t u → IsState s.aim s.met.scripts.now t → IsState s.aim s.met.scripts.now u
same_state s t u one = state_same s.met.scripts.now t u one.behaviours one.entries

-- one state more, that is counted
pub kept_further : (s : Search) (t : Case) (after : Met) → IsSearch s → IsState s.aim s.met.scripts.now t → Covers s.found.reached.items (past_of t) → IsPlaced false t s.met after →
    IsFurther s (record { aim = s.aim; met = after; found = s.found })
kept_further s t after is state covers p = record {
  search = record {
    met = placed_met false (IsState s.aim) t s.met after (same_state s t) is.met state p;
    found = subst (λ sc. IsNoted sc s.found) (sym p.scripts) is.found;
    counted = all_with (λ u. Covers s.found.reached.items (past_of u)) s.met.states.items after.states.items t (λ u one. subst (λ h. Covers s.found.reached.items (reverse h)) (sym one.entries)) p.states is.counted covers;
  };
  aim = refl;
  met = placed_further false t s.met after p;
  witnesses = longer_self s.found.witnesses.items;
  reached = no_less_self s.found.reached.items;
}

-- and seen
pub placed_seen : (s : Search) (t : Case) (after : Met) → IsSearch s → IsState s.aim s.met.scripts.now t → IsPlaced false t s.met after → IsSeen after (past_of t)
placed_seen s t after is state p =
    seen_by_key s.met.scripts.now after t is.met.some state (all_with (IsState s.aim s.met.scripts.now) s.met.states.items after.states.items t (same_state s t) p.states is.met.each state) (p.known is.met.keyed)

-- ---- what is told

once_of : (states : List Case) → AreApart states → (i j : ℕ) (d : List Entry) → i < length (map past_of states) → j < length (map past_of states) → get_or (map past_of states) i d ≡ get_or (map past_of states) j d → i ≡ j
once_of states apart i j d near_i near_j same =
    let t : Case = record { behaviours = 0; history = []; room = 0 } in
    let in_i : i < length states = omega (arith, near_i, length-map states past_of) in
    let in_j : j < length states = omega (arith, near_j, length-map states past_of) in
    apart i j (get_or states i t) (get_or states j t) (slice_get-get_or states i t in_i) (slice_get-get_or states j t in_j)
    (sym (get_or-map past_of states i t d in_i) ∙ (same ∙ get_or-map past_of states j t d in_j))

pub no_courses : (scripts : List ScriptView) → AreCourses scripts 0 []
no_courses scripts = record { as_many = refl; each = All-nil (IsCourse scripts); once = λ i j d near_i near_j same. absurd (omega arith) }

-- the courses of states with distinct keys
pub courses_of : (scripts : List ScriptView) (key : List Entry → List ℕ) (met : Met) → AreKeyed key met
    → IsDistinct (λ x y. pointwise nat_eq x.items y.items) met.keys.keys → All (λ t. IsCourse scripts (past_of t)) met.states.items
    → AreCourses scripts (length met.keys.keys) (map past_of met.states.items)
courses_of scripts key met keyed distinct each = record {
  as_many = length-map met.states.items past_of ∙ sym (as_many_keys key met keyed);
  each = All-map (IsCourse scripts) past_of met.states.items each;
  once = once_of met.states.items (keys_apart (λ k. k.items) key met.keys.keys met.states.items keyed distinct);
}

pub met_none : (scripts : List ScriptView) (reached : List ℕ) → AreAllMet scripts reached 0
met_none scripts reached = record { courses = []; are = no_courses scripts; counted = All-nil (Covers reached) }

-- they are met still where more is counted
pub met_more : (scripts : List ScriptView) (before after : List ℕ) (n : ℕ) → IsNoLess before after → AreAllMet scripts before n → AreAllMet scripts after n
met_more scripts before after n more met = grind (arith, common_steps)

-- the answer is the greater of two numbers
pub most_of : (m n k : ℕ) → k ≡ ord_max nat_cmp m n → k ≡ max m n
most_of m n k is = search rules

-- the greater of two such numbers is one of them
pub met_max : (scripts : List ScriptView) (before after : List ℕ) (m n k : ℕ) → k ≡ max m n → IsNoLess before after → AreAllMet scripts before m → AreAllMet scripts after n → AreAllMet scripts after k
met_max scripts before after m n k most more one other = subst (AreAllMet scripts after) (sym most) (max_by (AreAllMet scripts after) m n (met_more scripts before after m more one) other)

pub met_of : (s : Search) → IsSearch s → IsDistinct (λ x y. pointwise nat_eq x.items y.items) s.met.keys.keys → AreAllMet s.met.scripts.now s.found.reached.items (length s.met.keys.keys)
met_of s is distinct = record {
  courses = map past_of s.met.states.items;
  are = courses_of s.met.scripts.now (key_of false (length s.met.scripts.now)) s.met is.met.keyed distinct
      (All-weaker (λ t. IsState s.aim s.met.scripts.now t) (λ t. IsCourse s.met.scripts.now (past_of t)) (λ t u. u.opened.on.course) s.met.states.items is.met.each);
  counted = All-map (Covers s.found.reached.items) past_of s.met.states.items is.counted;
}
