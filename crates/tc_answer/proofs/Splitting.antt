-- The end of the script of a text, byte by byte.
use Rattle.std.proofs.{Common.{ℕ, suc, ◌≡◌, ◌∙◌, ◌+◌, ◌<◌, ◌≤◌, ◌==◌, ◌&&◌, Bool, true, false, if◌then◌else◌, List, ◌∷◌, length, get_or, drop, sym, ap}, lemmas.List.{drop_more, drop_all}}
use Rattle.tc_answer.specs.Input.{begins_block, script_bytes}

first_by : (begins : Bool) (b : ℕ) (bs : List ℕ) → (begins && begins_block (b ∷ bs)) ≡ true → script_bytes begins (b ∷ bs) ≡ 0
unfolding script_bytes
first_by begins b bs e = ap (λ t. if t then 0 else suc (script_bytes (b == 10) bs)) e

later_by : (begins : Bool) (b : ℕ) (bs : List ℕ) → (begins && begins_block (b ∷ bs)) ≡ false → script_bytes begins (b ∷ bs) ≡ suc (script_bytes (b == 10) bs)
unfolding script_bytes
later_by begins b bs e = ap (λ t. if t then 0 else suc (script_bytes (b == 10) bs)) e

-- no byte of the script is left where a block begins
pub ends_here : (text : List ℕ) (at d : ℕ) (begins : Bool) → at < length text → (begins && begins_block (drop at text)) ≡ true → script_bytes begins (drop at text) ≡ 0
ends_here text at d begins within e =
    let next = drop_more text at d within in
    ap (script_bytes begins) next ∙ first_by begins (get_or text at d) (drop (at + 1) text) (ap (λ t. begins && begins_block t) (sym next) ∙ e)

-- otherwise there is one more
pub goes_on : (text : List ℕ) (at d : ℕ) (begins : Bool) → at < length text → (begins && begins_block (drop at text)) ≡ false →
    script_bytes begins (drop at text) ≡ suc (script_bytes (get_or text at d == 10) (drop (at + 1) text))
goes_on text at d begins within e =
    let next = drop_more text at d within in
    ap (script_bytes begins) next ∙ later_by begins (get_or text at d) (drop (at + 1) text) (ap (λ t. begins && begins_block t) (sym next) ∙ e)

-- at the end none is left
pub at_end : (text : List ℕ) (at : ℕ) (begins : Bool) → length text ≤ at → script_bytes begins (drop at text) ≡ 0
unfolding script_bytes
at_end text at begins over = ap (script_bytes begins) (drop_all at text over)

pub ruleset splitting_rules = (ends_here, goes_on, at_end)
