-- What the deciding entry says of the overall verdict.
use Rattle.std.{proofs.{Common.{ℕ, ◌≡◌, ◌+◌, ◌<◌, ◌≤◌, ◌↔◌, ◌==◌, ◌||◌, ◌&&◌, if◌then◌else◌, nat_lt, Bool, true, false, Option, Some, None, List, [], ◌∷◌, ◌++◌, IfSome, length, map, take, get_or, reverse, refl, ap, subst, sym, ◌∙◌, arith, length-append}, lemmas.{Bool.Decides.nat_tests, List.{length-reverse, length-take-le, map-append, reverse-append, take_all, take_more}}}, specs.{List.flat_map, Option.MatchOption}}
use Rattle.tc_entry.specs.{Prelude.{Verdict, level_of, worse, worst, is_ended, is_fault, is_ok}, declared.comp.Comp.Comp, declared.entry.Entry.Entry, declared.op.Op.Op, declared.reply.Reply.Reply}
use Rattle.tc_verdict.proofs.Lemmas.Order.{none_no_worse, worse_later, worse_left, worse_swap, worst-more}
use Rattle.tc_rules.{specs.{Deciding.{deciding, worst_given}, History.{add_new, comp_of, comps, created, exists, is_comp, is_in, is_stop_case}, Inside.Step.next_local, Legal.IsLegal, Local.{gives, local, overall, verdicts_of}}, proofs.{Lemmas.Deciding.{equal_if, gives_nothing, if_same}, Lemmas.Differing.later_legal, Lemmas.LawsOfHistories.answered_is_running, Elsewhere.local_le, Lemmas.Over.{on_existing, stays}, Lemmas.Steps.worst-append, Lemmas.Stuck.is_in_comps, Named.map_same}}

-- a verdict after more that are given

given_more : (e : Entry) (past : List Entry) → worst_given (e ∷ past) ≡ next_local (gives e.op e.reply) (worst_given past)
unfolding worst_given
given_more e past = worst-append (gives e.op e.reply) (flat_map (λ (x : Entry). gives x.op x.reply) past)

pub none_given : worst_given [] ≡ Verdict.None
unfolding worst_given
none_given = refl

pub no_better : (vs : List Verdict) (w : Verdict) → level_of w ≤ level_of (next_local vs w)
no_better [] w = omega arith
no_better (v ∷ vs) w = omega (arith, no_better vs w, worse_left (next_local vs w) v)

same_if_no_worse : (vs : List Verdict) (w : Verdict) → nat_lt (level_of w) (level_of (next_local vs w)) ≡ false → next_local vs w ≡ w
same_if_no_worse [] w h = refl
same_if_no_worse (v ∷ vs) w h =
    let up = local_le vs w in
    let more = worse_left (next_local vs w) v in
    let k : nat_lt (level_of w) (level_of (next_local vs w)) ≡ false = grind (arith, nat_tests) in
    let same : next_local vs w ≡ w = same_if_no_worse vs w k in
    ap (λ x. worse x v) same ∙ by_test (nat_lt (level_of w) (level_of v)) refl (ap (λ x. nat_lt (level_of w) (level_of (worse x v))) (sym same) ∙ h)
  where
    by_test : (t : Bool) → nat_lt (level_of w) (level_of v) ≡ t → nat_lt (level_of w) (level_of (if t then v else w)) ≡ false → (if t then v else w) ≡ w
    by_test true k h = absurd cc
    by_test false k h = refl

given_no_better : (later earlier : List Entry) → level_of (worst_given earlier) ≤ level_of (worst_given (later ++ earlier))
given_no_better [] earlier = omega arith
given_no_better (e ∷ later) earlier =
    let one = local_le (gives e.op e.reply) (worst_given (later ++ earlier)) in
    let next : level_of (worst_given (e ∷ (later ++ earlier))) ≡ level_of (next_local (gives e.op e.reply) (worst_given (later ++ earlier))) = ap level_of (given_more e (later ++ earlier)) in
    omega (arith, given_no_better later earlier)

-- the last that gave a worse verdict is the first after which the worst is what it is at the end

abbrev IsLastWorse : List Entry → ℕ → Type 0
IsLastWorse past at =
    (later earlier : List Entry) → past ≡ later ++ earlier → (worst_given earlier ≡ worst_given past) ↔ (at < length earlier)

newest : (e : Entry) (past : List Entry) → nat_lt (level_of (worst_given past)) (level_of (worst_given (e ∷ past))) ≡ true → IsLastWorse (e ∷ past) (length past)
newest e past worse [] earlier is = (λ _. let k = ap length is in omega arith, λ _. ap worst_given (sym is))
newest e past worse (l ∷ later) earlier is =
    let rest : past ≡ later ++ earlier = cc in
    let below : level_of (worst_given earlier) ≤ level_of (worst_given past) = rw rest (given_no_better later earlier) in
    let more : level_of (worst_given past) < level_of (worst_given (e ∷ past)) = grind (arith, nat_tests) in
    let k : length past ≡ length later + length earlier = ap length rest ∙ length-append later earlier in (
      λ same. let s : level_of (worst_given earlier) ≡ level_of (worst_given (e ∷ past)) = ap level_of same in absurd (omega arith),
      λ within. absurd (omega arith),
    )

older : (e : Entry) (past : List Entry) (at : ℕ) → worst_given (e ∷ past) ≡ worst_given past → IsLastWorse past at → IsLastWorse (e ∷ past) at
older e past at same last [] earlier is =
    let within : at < length past = (last [] past refl).0 refl in
    (λ _. let k = ap length is in omega arith, λ _. ap worst_given (sym is))
older e past at same last (l ∷ later) earlier is =
    let rest : past ≡ later ++ earlier = cc in
    let before = last later earlier rest in
    (λ equal. before.0 (equal ∙ same), λ within. before.1 within ∙ sym same)

last_worse : (past : List Entry) → MatchOption (deciding past) (worst_given past ≡ Verdict.None) (IsLastWorse past)
last_worse [] = none_given
last_worse (e ∷ past) = by_test (nat_lt (level_of (worst_given past)) (level_of (worst_given (e ∷ past)))) refl (last_worse past)
  where
    still : nat_lt (level_of (worst_given past)) (level_of (worst_given (e ∷ past))) ≡ false → worst_given (e ∷ past) ≡ worst_given past
    still h =
        given_more e past
        ∙ same_if_no_worse (gives e.op e.reply) (worst_given past) (ap (λ w. nat_lt (level_of (worst_given past)) (level_of w)) (sym (given_more e past)) ∙ h)

    by_place : (o : Option ℕ) → worst_given (e ∷ past) ≡ worst_given past → MatchOption o (worst_given past ≡ Verdict.None) (IsLastWorse past) → MatchOption o (worst_given (e ∷ past) ≡ Verdict.None) (IsLastWorse (e ∷ past))
    by_place None same none = same ∙ none
    by_place (Some at) same last = older e past at same last

    by_test : (t : Bool) → nat_lt (level_of (worst_given past)) (level_of (worst_given (e ∷ past))) ≡ t → MatchOption (deciding past) (worst_given past ≡ Verdict.None) (IsLastWorse past) →
        MatchOption (if t then Some (length past) else deciding past) (worst_given (e ∷ past) ≡ Verdict.None) (IsLastWorse (e ∷ past))
    by_test true h before = newest e past h
    by_test false h before = by_place (deciding past) (still h) before

-- the worst over components, one of which is given one more

worse_both : (w a v : Verdict) → worse w (worse a v) ≡ worse (worse w a) v
worse_both w a v = by_test (nat_lt (level_of a) (level_of v)) refl
  where
    by_test : (t : Bool) → nat_lt (level_of a) (level_of v) ≡ t → worse w (if t then v else a) ≡ worse (worse w a) v
    by_test true h = worse_later w a v (grind (arith, nat_tests))
    by_test false h = worse_later w v a (grind (arith, nat_tests)) ∙ worse_swap w a v

worse_twice : (w a v : Verdict) → worse (worse w v) (worse a v) ≡ worse (worse w a) v
worse_twice w a v =
    worse_both (worse w v) a v ∙ (ap (λ x. worse x v) (worse_swap w a v) ∙ sym (worse_later (worse w a) v v (omega arith)))

worst_at : (f : ℕ → Verdict) (d : ℕ) (v : Verdict) (cs : List ℕ) → worst (map (λ c. if d == c then worse (f c) v else f c) cs) ≡ (if is_in d cs then worse (worst (map f cs)) v else worst (map f cs))
worst_at f d v [] = refl
worst_at f d v (c ∷ cs) = by_tests (d == c) (is_in d cs) (worst (map (λ c. if d == c then worse (f c) v else f c) cs)) (worst (map f cs)) (f c) (worst_at f d v cs)
  where
    by_tests : (t u : Bool) (w' w a : Verdict) → w' ≡ (if u then worse w v else w) → worse w' (if t then worse a v else a) ≡ (if t || u then worse (worse w a) v else worse w a)
    by_tests true true w' w a h = rw h (worse_twice w a v)
    by_tests true false w' w a h = rw h (worse_both w a v)
    by_tests false true w' w a h = rw h (worse_swap w a v)
    by_tests false false w' w a h = rw h refl

-- a component that is not made has the verdict none

pub not_on : (n : ℕ) (past : List Entry) (b c : ℕ) → IsLegal n past → exists past c ≡ false → is_comp (comp_of past b) c ≡ false
not_on n past b c legal h = by_comp (comp_of past b) refl
  where
    by_test : (d : Comp) (t : Bool) → (d.0 == c) ≡ t → exists past d.0 ≡ true → t ≡ false
    by_test d true e there = let k : d.0 ≡ c = equal_if d.0 c e in let x : exists past c ≡ true = ap (exists past) (sym k) ∙ there in absurd cc
    by_test d false e there = refl

    by_comp : (o : Option Comp) → comp_of past b ≡ o → is_comp o c ≡ false
    by_comp None on = refl
    by_comp (Some d) on = by_test d (d.0 == c) refl (on_existing n past b d legal on)

pub not_before : (past : List Entry) (e : Entry) (c : ℕ) → exists (e ∷ past) c ≡ false → exists past c ≡ false
not_before past e c h = by_test (exists past c) refl
  where
    by_test : (t : Bool) → exists past c ≡ t → t ≡ false
    by_test true k = let x = stays past e c k in absurd cc
    by_test false k = refl

unmade : (n : ℕ) (past : List Entry) (c : ℕ) → IsLegal n past → exists past c ≡ false → local past c ≡ Verdict.None
unfolding local
unmade n [] c legal h = refl
unmade n (e ∷ past) c legal h =
    let k : exists past c ≡ false = not_before past e c h in
    rw (not_on n past e.caller.0 c legal.1 k) (unmade n past c legal.1 k)

-- the overall verdict after one more entry

local_same : (past : List Entry) (e : Entry) (c : ℕ) → gives e.op e.reply ≡ [] → local (e ∷ past) c ≡ local past c
unfolding local
local_same past e c none = rw none (ap (λ vs. worst (vs ++ verdicts_of past c)) (if_same (is_comp (comp_of past e.caller.0) c) []))

unchanged : (n : ℕ) (past : List Entry) (e : Entry) → IsLegal n (e ∷ past) → gives e.op e.reply ≡ [] → overall (e ∷ past) ≡ overall past
unfolding overall exists
unchanged n past e legal none = by_made (created e.op e.reply)
  where
    same : (cs : List ℕ) → worst (map (local (e ∷ past)) cs) ≡ worst (map (local past) cs)
    same cs = ap worst (map_same (local (e ∷ past)) (local past) cs (λ c. local_same past e c none))

    by_test : (d : Comp) (t : Bool) → is_in d.0 (comps past) ≡ t → worst (map (local (e ∷ past)) (if t then comps past else comps past ++ d.0 ∷ [])) ≡ worst (map (local past) (comps past))
    by_test d true k = same (comps past)
    by_test d false k =
        same (comps past ++ d.0 ∷ [])
        ∙ (ap worst (map-append (local past) (comps past) (d.0 ∷ []))
        ∙ (worst-more (map (local past) (comps past)) (local past d.0)
        ∙ (ap (λ v. worse (worst (map (local past) (comps past))) v) (unmade n past d.0 legal.1 k) ∙ none_no_worse (worst (map (local past) (comps past))))))

    by_made : (o : Option Comp) → worst (map (local (e ∷ past)) (add_new o (comps past))) ≡ worst (map (local past) (comps past))
    by_made None = same (comps past)
    by_made (Some d) = by_test d (is_in d.0 (comps past)) refl

-- an entry that gives a verdict makes no component, gives only one, and its reply is not Ended

makes_none : (op : Op) (reply : Reply) (v : Verdict) (vs : List Verdict) → gives op reply ≡ v ∷ vs → created op reply ≡ None
makes_none (Op.Create alive name) (Reply.Made c) v vs h = absurd cc
makes_none (Op.Create alive name) _ v vs h = refl
makes_none _ reply v vs h = refl

not_ended : (op : Op) (reply : Reply) (v : Verdict) (vs : List Verdict) → gives op reply ≡ v ∷ vs → is_ended reply ≡ false
not_ended op Reply.Ended v vs h = let none = gives_nothing op Reply.Ended refl refl in absurd cc
not_ended op _ v vs h = refl

alone : (op : Op) (reply : Reply) (v : Verdict) (vs : List Verdict) → gives op reply ≡ v ∷ vs → vs ≡ []
alone (Op.SetVerdict u) Reply.Ok v vs h = cc
alone op reply v vs h = by_test (is_fault reply || (is_stop_case op && is_ok reply)) h
  where
    by_test : (t : Bool) → (if t then Verdict.Error ∷ [] else []) ≡ v ∷ vs → vs ≡ []
    by_test true h = cc
    by_test false h = absurd cc

local_worse : (past : List Entry) (e : Entry) (d : Comp) (v : Verdict) (c : ℕ) → comp_of past e.caller.0 ≡ Some d → gives e.op e.reply ≡ v ∷ [] →
    local (e ∷ past) c ≡ (if d.0 == c then worse (local past c) v else local past c)
unfolding local
local_worse past e d v c on one = rw (on, one) (by_test (d.0 == c))
  where
    by_test : (t : Bool) → worst ((if t then v ∷ [] else []) ++ verdicts_of past c) ≡ (if t then worse (worst (verdicts_of past c)) v else worst (verdicts_of past c))
    by_test true = refl
    by_test false = refl

changed : (n : ℕ) (past : List Entry) (e : Entry) (v : Verdict) → IsLegal n (e ∷ past) → gives e.op e.reply ≡ v ∷ [] → overall (e ∷ past) ≡ worse (overall past) v
unfolding overall
changed n past e v legal one =
    let on = answered_is_running n past e legal (not_ended e.op e.reply v [] one) in
    let d : Comp = on.0 in
    let none : created e.op e.reply ≡ None = makes_none e.op e.reply v [] one in
    let there : is_in d.0 (comps past) ≡ true = is_in_comps past d.0 (on_existing n past e.caller.0 d legal.1 on.1.0) in
    let each = map_same (local (e ∷ past)) (λ c. if d.0 == c then worse (local past c) v else local past c) (comps past) (λ c. local_worse past e d v c on.1.0 one) in
    ap (λ o. worst (map (local (e ∷ past)) (add_new o (comps past)))) none
    ∙ (ap worst each
    ∙ (worst_at (local past) d.0 v (comps past)
    ∙ ap (λ t. if t then worse (worst (map (local past) (comps past))) v else worst (map (local past) (comps past))) there))

pub overall_more : (n : ℕ) (past : List Entry) (e : Entry) → IsLegal n (e ∷ past) → overall (e ∷ past) ≡ next_local (gives e.op e.reply) (overall past)
overall_more n past e legal = by_given (gives e.op e.reply) refl
  where
    by_given : (vs : List Verdict) → gives e.op e.reply ≡ vs → overall (e ∷ past) ≡ next_local vs (overall past)
    by_given [] h = unchanged n past e legal h
    by_given (v ∷ vs) h =
        let one : vs ≡ [] = alone e.op e.reply v vs h in
        rw one (changed n past e v legal (h ∙ ap (λ ws. v ∷ ws) one))

opening_overall : overall [] ≡ Verdict.None
unfolding overall local
opening_overall = refl

-- in a legal history the overall verdict is the worst that entries gave
overall_given : (n : ℕ) (past : List Entry) → IsLegal n past → overall past ≡ worst_given past
overall_given n [] legal = opening_overall ∙ sym none_given
overall_given n (e ∷ past) legal =
    overall_more n past e legal ∙ (ap (next_local (gives e.op e.reply)) (overall_given n past legal.1) ∙ sym (given_more e past))

-- the entry at this place decides: the overall verdict is the reported one from this entry on, and not before
abbrev IsDeciding : List Entry → ℕ → Type 0
IsDeciding past at =
    (later earlier : List Entry) → past ≡ later ++ earlier → (overall earlier ≡ overall past) ↔ (at < length earlier)

decides_at : (n : ℕ) (past : List Entry) (at : ℕ) → IsLegal n past → IsLastWorse past at → IsDeciding past at
decides_at n past at legal last later earlier is =
    let whole : overall past ≡ worst_given past = overall_given n past legal in
    let part : overall earlier ≡ worst_given earlier = overall_given n earlier (later_legal n later earlier (rw is at legal)) in
    let before = last later earlier is in
    (λ same. before.0 (sym part ∙ (same ∙ whole)), λ within. part ∙ (before.1 within ∙ sym whole))

-- in a legal history the entry at this place decides; there is none exactly if the overall verdict is none
abbrev pub DecidesIfLegal : List Entry → Option ℕ → Type 0
DecidesIfLegal past at = (n : ℕ) → IsLegal n past → MatchOption at (overall past ≡ Verdict.None) (IsDeciding past)

decides_if_legal : (past : List Entry) → DecidesIfLegal past (deciding past)
decides_if_legal past n legal = by_place (deciding past) (last_worse past)
  where
    by_place : (o : Option ℕ) → MatchOption o (worst_given past ≡ Verdict.None) (IsLastWorse past) → MatchOption o (overall past ≡ Verdict.None) (IsDeciding past)
    by_place None none = overall_given n past legal ∙ none
    by_place (Some at) last = decides_at n past at legal last

-- the entries of a list one by one

next_past : (xs : List Entry) (i : ℕ) (x : Entry) → i < length xs → x ≡ get_or xs i x → reverse (take (i + 1) xs) ≡ x ∷ reverse (take i xs)
next_past xs i x h is =
    ap reverse (take_more xs i x h) ∙ (reverse-append (take i xs) (get_or xs i x ∷ []) ∙ ap (λ y. y ∷ reverse (take i xs)) (sym is))

within_more : (t : Bool) (i : ℕ) (o : Option ℕ) → IfSome o (λ at. at < i) → IfSome (if t then Some i else o) (λ at. at < i + 1)
within_more true i o h = omega arith
within_more false i (Some at) h = omega arith
within_more false i None h = h

-- what is known of the deciding place, one entry more
pub decided_more : (xs : List Entry) (i : ℕ) (x : Entry) (w w' : Verdict) (o o' : Option ℕ) → i < length xs → x ≡ get_or xs i x →
    w ≡ worst_given (reverse (take i xs)) → o ≡ deciding (reverse (take i xs)) → IfSome o (λ at. at < i) →
    w' ≡ next_local (gives x.op x.reply) w → o' ≡ (if nat_lt (level_of w) (level_of w') then Some i else o) →
    (w' ≡ worst_given (reverse (take (i + 1) xs))) × (o' ≡ deciding (reverse (take (i + 1) xs))) × IfSome o' (λ at. at < i + 1)
decided_more xs i x w w' o o' h is before place within step choice =
    let past : List Entry = reverse (take i xs) in
    let next : reverse (take (i + 1) xs) ≡ x ∷ past = next_past xs i x h is in
    let worst_is : w' ≡ worst_given (x ∷ past) = step ∙ (ap (next_local (gives x.op x.reply)) before ∙ sym (given_more x past)) in
    let long : length past ≡ i = length-reverse (take i xs) ∙ length-take-le i xs (omega arith) in
    let same : o' ≡ deciding (x ∷ past) =
    choice ∙ (ap (λ u. if nat_lt (level_of u) (level_of w') then Some i else o) before
    ∙ (ap (λ u. if nat_lt (level_of (worst_given past)) (level_of u) then Some i else o) worst_is
    ∙ (ap (λ k. if nat_lt (level_of (worst_given past)) (level_of (worst_given (x ∷ past))) then Some k else o) (sym long)
    ∙ ap (λ p. if nat_lt (level_of (worst_given past)) (level_of (worst_given (x ∷ past))) then Some (length past) else p) place))) in (
      worst_is ∙ ap worst_given (sym next),
      same ∙ ap deciding (sym next),
      subst (λ p. IfSome p (λ at. at < i + 1)) (sym choice) (within_more (nat_lt (level_of w) (level_of w')) i o within),
    )

-- and after the last
pub decided_all : (xs : List Entry) (i : ℕ) (o : Option ℕ) → length xs ≤ i → o ≡ deciding (reverse (take i xs)) → DecidesIfLegal (reverse xs) o
decided_all xs i o h place =
    subst (λ p. DecidesIfLegal (reverse xs) p) (sym (place ∙ ap (λ l. deciding (reverse l)) (take_all i xs h))) (decides_if_legal (reverse xs))
