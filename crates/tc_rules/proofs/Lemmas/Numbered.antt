-- The components of a legal history are numbered from 0 on.
use Rattle.std.{proofs.{Common.{ℕ, zero, suc, ◌≡◌, ◌+◌, ◌<◌, ◌&&◌, nat_lt, nat_le, false, Option, Some, None, List, [], ◌∷◌, ◌++◌, length, map, refl, ap, sym, ◌∙◌, arith}, lemmas.{Bool.{Decides.nat_tests, lt-ltb}, List.FromFn.{length-range_with_len, map-range_with_len_more}}}, specs.List.range_with_len}
use Rattle.tc_entry.specs.declared.{comp.Comp.Comp, entry.Entry.Entry}
use Rattle.tc_rules.{specs.{Faults.components, History.{add_new, comps, created, exists, is_in}, Legal.IsLegal, Local.{local, local_if_any}}, proofs.Lemmas.Sound.next}

is_in-range : (c a n : ℕ) → is_in c (range_with_len a n) ≡ (nat_le a c && nat_lt c (a + n))
is_in-range c a zero = grind (arith, nat_tests)
is_in-range c a (suc n) = grind (arith, nat_tests, is_in-range c (a + 1) n)

range-more : (a n : ℕ) → range_with_len a (suc n) ≡ range_with_len a n ++ (a + n) ∷ []
range-more a zero = grind arith
range-more a (suc n) = grind (arith, range-more (a + 1) n)

range-next : (m : ℕ) → range_with_len 0 (suc m) ≡ range_with_len 0 m ++ m ∷ []
range-next m = let k : 0 + m ≡ m = omega arith in range-more 0 m ∙ ap (λ x. range_with_len 0 m ++ x ∷ []) k

-- one component more
with_next : (ns : List ℕ) (m : ℕ) (d : Comp) → ns ≡ range_with_len 0 m → d.0 ≡ m → add_new (Some d) ns ≡ range_with_len 0 (suc m)
with_next ns m d ranged number =
    let out : is_in d.0 ns ≡ false = rw ranged (is_in-range d.0 0 m ∙ grind (arith, nat_tests)) in
    rw out (rw ranged (rw number (sym (range-next m))))

lengths : (ns : List ℕ) (m : ℕ) → ns ≡ range_with_len 0 m → ns ≡ range_with_len 0 (length ns)
lengths ns m h = let k : length ns ≡ m = ap length h ∙ length-range_with_len 0 m in rw k h

pub numbered : (n : ℕ) (past : List Entry) → IsLegal n past → comps past ≡ range_with_len 0 (length (comps past))
unfolding components
numbered n [] legal = refl
numbered n (e ∷ past) legal = by_case (created e.op e.reply) refl (numbered n past legal.1)
  where
    by_case : (o : Option Comp) → created e.op e.reply ≡ o → comps past ≡ range_with_len 0 (length (comps past)) → add_new o (comps past) ≡ range_with_len 0 (length (add_new o (comps past)))
    by_case None h before = before
    by_case (Some d) h before =
        let k = (next n past e d legal.0 h).number in
        lengths (add_new (Some d) (comps past)) (suc (length (comps past))) (with_next (comps past) (length (comps past)) d before k)

pub comps_numbered : (n : ℕ) (past : List Entry) → IsLegal n past → comps past ≡ range_with_len 0 (components past)
unfolding components
comps_numbered n past legal = numbered n past legal

pub exists_below : (n : ℕ) (past : List Entry) (c : ℕ) → IsLegal n past → exists past c ≡ nat_lt c (components past)
unfolding exists
exists_below n past c legal = rw (comps_numbered n past legal) (is_in-range c 0 (components past) ∙ grind (arith, nat_tests))

pub local_there : (n : ℕ) (past : List Entry) (c : ℕ) → IsLegal n past → c < components past → local_if_any past c ≡ Some (local past c)
unfolding local_if_any
local_there n past c legal below = rw (exists_below n past c legal ∙ lt-ltb c (components past) below)

pub local_more : (past : List Entry) (c : ℕ) → map (local past) (range_with_len 0 (c + 1)) ≡ map (local past) (range_with_len 0 c) ++ local past c ∷ []
local_more past c = map-range_with_len_more (local past) 0 c c (omega arith)
