-- The lines of runs that wait, one after another, and the first call that is replied to so.
use Rattle.std.{proofs.{Common.{ℕ, zero, suc, ◌≡◌, ◌∙◌, ◌+◌, ◌<◌, true, false, if◌then◌else◌, refl, List, [], ◌∷◌, ◌++◌, length, get_or, take, drop, reverse, sym, ap, arith}, lemmas.List.{flat_map_more, reverse-append}}, specs.{Prelude.{◌||◌}, List.{flat_map, range_with_len}}}
use Rattle.tc_rules.{specs.Prelude.{Entry, answer, entry_made}, proofs.Lemmas.Differing.parted}
use Rattle.tc_report.specs.{Inside.is_cut, Waits.{played, says_stuck}}

range-more : (a n : ℕ) → range_with_len a (suc n) ≡ range_with_len a n ++ (a + n) ∷ []
range-more a zero = grind arith
range-more a (suc n) = grind (arith, range-more (a + 1) n)

-- what is made of each number, and of one more
pub next_of : (f : ℕ → List ℕ) (n : ℕ) (a b : List ℕ) → a ≡ flat_map f (range_with_len 0 n) → b ≡ a ++ f n → b ≡ flat_map f (range_with_len 0 (n + 1))
next_of f n a b so more =
    let one : n + 1 ≡ suc n = omega arith in
    let same : 0 + n ≡ n = omega arith in
    let next = ap (range_with_len 0) one ∙ (range-more 0 n ∙ ap (λ x. range_with_len 0 n ++ x ∷ []) same) in
    more ∙ (ap (λ l. l ++ f n) so ∙ (flat_map_more f [] (range_with_len 0 n) n ∙ ap (flat_map f) (sym next)))

-- nothing is played after a call that is replied to so
stays_played : (n : ℕ) (newer past : List Entry) → is_cut (played n past) ≡ true → played n (newer ++ past) ≡ played n past
stays_played n [] past cut = refl
stays_played n (e ∷ newer) past cut =
    let more = played n (newer ++ past) in
    let same : more ≡ played n past = stays_played n newer past cut in
    ap (λ b. if b then more else entry_made n more e.caller e.op ∷ more) (ap is_cut same ∙ cut) ∙ same

-- a call that is replied to so, if none before it is, is the last that is played
pub cut_at : (n : ℕ) (list : List Entry) (at : ℕ) (d : Entry) → at < length list → is_cut (played n (reverse (take at list))) ≡ false
    → says_stuck (answer n (played n (reverse (take at list))) (get_or list at d).caller.0 (get_or list at d).op) ≡ true
    → played n (reverse list) ≡ entry_made n (played n (reverse (take at list))) (get_or list at d).caller (get_or list at d).op ∷ played n (reverse (take at list))
cut_at n list at d within none stuck =
    let e : Entry = get_or list at d in
    let past = reverse (take at list) in
    let s : reverse list ≡ reverse (drop (at + 1) list) ++ (e ∷ past) =
    ap reverse (parted list at d within) ∙ (reverse-append (take at list ++ (e ∷ [])) (drop (at + 1) list)
    ∙ ap (λ l. reverse (drop (at + 1) list) ++ l) (reverse-append (take at list) (e ∷ []))) in
    let one : played n (e ∷ past) ≡ entry_made n (played n past) e.caller e.op ∷ played n past =
    ap (λ b. if b then played n past else entry_made n (played n past) e.caller e.op ∷ played n past) none in
    ap (played n) s ∙ (stays_played n (reverse (drop (at + 1) list)) (e ∷ past) (ap is_cut one ∙ ap (λ b. b || is_cut (played n past)) stuck) ∙ one)
