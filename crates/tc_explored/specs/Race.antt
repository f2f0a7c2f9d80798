-- Two witnesses from where they part: side by side, or run by run.
use Rattle.std.specs.{Prelude.{ℕ, ◌+◌, ◌==◌, ◌&&◌, ◌||◌, nat_lt, not, max, if◌then◌else◌, Bool, false, Option, Some, None, List, [], ◌∷◌, ◌++◌, bytes_eq, codes, drop, filter, length, reverse, slice_get}, Fmt.decimal, List.{common_prefix_len, flat_map, range_with_len}, Option.{option_map_or, option_or}}
use Rattle.tc_rules.specs.Prelude.{Entry, comp_of, halts, is_by, is_ended, is_parked, name_of}
use Rattle.tc_blocks.specs.Prelude.{entry_text}
use Rattle.tc_report.specs.{Prelude.{named_call, names_in, namings_of, no_names, run_in}, declared.naming.Names.Names}
use Rattle.tc_course.specs.declared.witness.Witness.{Witness}
use Rattle.tc_text.specs.Prelude.{shown_line}
use Rattle.tc_explored.specs.declared.parting.Difference.{Difference}

-- two entries are of the same run, with the same call and reply, by numbers only; a Wake is as its Wait
abbrev pub is_alike : Entry → Entry → Bool
is_alike x y = (x.caller.0 == y.caller.0) && bytes_eq (named_call no_names x.op x.reply) (named_call no_names y.op y.reply)

-- a line of two columns, of which the left one has 36 letters or more
abbrev pub row : List ℕ → List ℕ → List ℕ
row left right = shown_line (32 ∷ (left ++ (drop (length left) (codes "                                    ") ++ (codes " |" ++ (32 ∷ right)))))

-- the text of the entry at a place, if there is one
abbrev pub text_at : List Entry → ℕ → List ℕ
text_at history at = option_map_or entry_text (slice_get history at) []

-- the entries of both side by side
abbrev pub rows : List Entry → List Entry → List ℕ
rows left right = flat_map (λ at. row (text_at left at) (text_at right at)) (range_with_len 0 (max (length left) (length right)))

-- the entry that ended run b: the first after the run was started that halts its component, and is no end of another run's
-- behaviour
abbrev pub run_ended_by : List Entry → ℕ → Option Entry
run_ended_by [] b = None
run_ended_by (e ∷ past) b = option_or (run_ended_by past b) (if option_map_or (λ c. halts (if is_by b e then Some c else None) e c.0) (comp_of past b) false then Some e else None)

-- the calls of run b, without those that were parked
abbrev pub calls : List Entry → ℕ → List Entry
calls history b = filter (λ e. is_by b e && not (is_parked e.reply)) history

-- the first calls of run b that differ in two histories, if some do
abbrev pub difference : List Entry → List Entry → ℕ → Option Difference
difference left right b =
    let one = calls left b in
    let other = calls right b in
    let at = common_prefix_len is_alike one other in
    if nat_lt at (length one) || nat_lt at (length other)
    then Some (record { run = b; call = at + 1; left = slice_get one at; right = slice_get other at })
    else None

-- a call in a test case with these names, or that it is not made
abbrev pub side_text : Names → Option Entry → List ℕ
side_text names call = option_map_or (λ e. named_call names e.op e.reply) call (codes "not made")

-- what ended run b in this history, after these words, if the call is replied so
abbrev pub before_text : List ℕ → List Entry → ℕ → Option Entry → List ℕ
before_text words history b call = option_map_or (λ e. words ++ entry_text e) (if option_map_or (λ e. is_ended e.reply) call false then run_ended_by (reverse history) b else None) []

-- where the calls of a run differ in two histories with these names: which call of which run it is, and the call of each
unfoldable pub sides_text : Names → Names → Difference → List ℕ
sides_text left right d =
    codes " run " ++ (run_in left d.run ++ (codes ": call " ++ (decimal d.call ++ (codes ": " ++ (side_text left d.left ++ (codes " | " ++ side_text right d.right))))))

-- the line that says so, with what ended the run before it on each side
abbrev pub parting_line : List (List ℕ) → List Entry → List Entry → Difference → List ℕ
parting_line names left right d =
    shown_line (sides_text (names_in left (namings_of names)) (names_in right (namings_of names)) d
    ++ (before_text (codes "; left: before it ") left d.run d.left ++ before_text (codes "; right: before it ") right d.run d.right))

-- the line of run b, if its calls differ
abbrev pub parting : List (List ℕ) → List Entry → List Entry → ℕ → List ℕ
parting names left right b = option_map_or (parting_line names left right) (difference left right b) []

-- the verdicts of two witnesses, and that they are alike for that many entries
abbrev pub alike_line : Witness → Witness → ℕ → List ℕ
alike_line v w count =
    shown_line ((32 ∷ (name_of v.verdict ++ (codes " and " ++ name_of w.verdict))) ++ (codes ": alike for " ++ (decimal count ++ codes " entries")))

-- how far two witnesses of n behaviours with these names are alike, and where they part: run by run if one of them has more
-- than twelve entries after that, otherwise side by side
abbrev pub race : List (List ℕ) → ℕ → Witness → Witness → List ℕ
race names n v w =
    let count = common_prefix_len is_alike v.history w.history in
    let left = drop count v.history in
    let right = drop count w.history in
    alike_line v w count
    ++ (if nat_lt 12 (length left) || nat_lt 12 (length right)
    then flat_map (parting names v.history w.history) (range_with_len 0 n)
    else row (name_of v.verdict) (name_of w.verdict) ++ rows left right)

-- the first witness next to each other one
abbrev pub races : List (List ℕ) → ℕ → List Witness → List ℕ
races names n [] = []
races names n (v ∷ found) = flat_map (race names n v) found
