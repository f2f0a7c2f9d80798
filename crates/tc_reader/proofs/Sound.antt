-- Lines without a fault make scripts.
use Rattle.std.proofs.{Common.{All, ℕ, ◌≡◌, ◌+◌, ◌<◌, ◌≤◌, Ok, None, List, [], ◌∷◌, length, arith, rules}, lemmas.List.Elements.All-cons}
use Rattle.tc_entry.specs.declared.limits.TheConstants.{ARGUMENTS, BEHAVIOURS}
use Rattle.tc_step.specs.{declared.limits.TheConstants.STEPS, Prelude.ScriptView}
use Rattle.tc_reader.{specs.{Campaign.{behaviours, cases, steps}, FirstPass.{placed, steps_in}, Inside.{AreCases, AreScripts, MakesScript, add_head, heads}, Names.{Word, all_of}, Scope.{Head, behaviours_before, heads_with, with_bound}, SecondPass.misnamed, declared.line.Line.Line}, proofs.{Binding.{head_more, named_next, one_longer, places_bound}, Placed.{AllPlaced, few_given, few_more, within_limits}}}

-- each line is in its place, and within the limits
abbrev pub ArePlaced : List Line → List Line → Type 0
ArePlaced past [] = Unit {0}
ArePlaced past (l ∷ rest) = (placed past l ≡ Ok l) × ArePlaced (l ∷ past) rest

-- with these lines before those that follow
abbrev pub onto : List Line → List Line → List Line
onto [] rest = rest
onto (l ∷ past) rest = onto past (l ∷ rest)

pub are_placed : (past rest : List Line) → AllPlaced past → ArePlaced past rest → ArePlaced [] (onto past rest)
are_placed [] rest before are = are
are_placed (l ∷ past) rest before are = are_placed past (l ∷ rest) before.1 (before.0, are)

-- ---- the limits of a behaviour and of a test case

few_steps : (hs : List Head) (ns : List (List ℕ)) (past rest : List Line) → ArePlaced past rest → steps_in past ≤ STEPS → steps_in past + length (steps hs ns rest) ≤ STEPS
unfolding steps_in
few_steps hs ns past [] are few = grind arith
few_steps hs ns past (Line.Step call ∷ rest) are few =
    let low : steps_in past < STEPS = (few_given past call (within_limits past (Line.Step call) are.0)).0 in
    let more : steps_in (Line.Step call ∷ past) ≤ STEPS = omega (arith, low) in
    let long = few_steps hs (with_bound call ns) (Line.Step call ∷ past) rest are.1 more in
    omega (arith, long)
few_steps hs ns past (Line.Skipped ∷ rest) are few = few_steps hs ns (Line.Skipped ∷ past) rest are.1 few
few_steps hs ns past (_ ∷ rest) are few = grind arith

few_heads : (hs : List Head) (past rest : List Line) → ArePlaced past rest → length hs ≤ length (behaviours_before past) → length (behaviours_before past) ≤ BEHAVIOURS → length (heads_with hs rest) ≤ BEHAVIOURS
few_heads hs past [] are le few = omega (arith, le, few)
few_heads hs past (Line.TestCase n ∷ rest) are le few = omega (arith, le, few)
few_heads hs past (Line.Behaviour n ps ∷ rest) are le few =
    let low : length (behaviours_before past) < BEHAVIOURS = (few_more past n ps (within_limits past (Line.Behaviour n ps) are.0)).0 in
    let grown : length (add_head n (length ps) hs) ≤ length hs + 1 = head_more n (length ps) hs in
    let long = one_longer n (behaviours_before past) in
    few_heads (add_head n (length ps) hs) (Line.Behaviour n ps ∷ past) rest are.1 (omega (arith, le, grown, long)) (omega (arith, low, long))
few_heads hs past (l ∷ rest) are le few = few_heads hs (l ∷ past) rest are.1 le few

-- ---- scripts

few_parameters : (past : List Line) (n : List ℕ) (ps : List (List ℕ)) → placed past (Line.Behaviour n ps) ≡ Ok (Line.Behaviour n ps) → length ps ≤ ARGUMENTS
few_parameters past n ps is = (few_more past n ps (within_limits past (Line.Behaviour n ps) is)).1

are_scripts : (hs : List Head) (past ls : List Line) → ArePlaced past ls → misnamed past ls ≡ None → AreScripts hs ls
unfolding steps_in
are_scripts hs past [] are named = tt
are_scripts hs past (Line.Behaviour n ps ∷ rest) are named =
    let two = named_next past (Line.Behaviour n ps) rest named in
    let long = few_steps hs (all_of [] ps) (Line.Behaviour n ps ∷ past) rest are.1 (omega arith) in (
      record {
        few_parameters = few_parameters past n ps are.0;
        few_steps = omega (arith, long);
        bound = places_bound hs past n ps rest two.0 two.1;
      },
      are_scripts hs (Line.Behaviour n ps ∷ past) rest are.1 two.1,
    )
are_scripts hs past (l ∷ rest) are named = are_scripts hs (l ∷ past) rest are.1 (named_next past l rest named).1

pub are_cases : (past ls : List Line) → ArePlaced past ls → misnamed past ls ≡ None → AreCases ls
are_cases past [] are named = tt
are_cases past (Line.TestCase n ∷ rest) are named =
    let two = named_next past (Line.TestCase n) rest named in
    (few_heads [] (Line.TestCase n ∷ past) rest are.1 (omega arith) (omega arith), are_scripts (heads rest) (Line.TestCase n ∷ past) rest are.1 two.1, are_cases (Line.TestCase n ∷ past) rest are.1 two.1)
are_cases past (l ∷ rest) are named = are_cases (l ∷ past) rest are.1 (named_next past l rest named).1

each_is : (hs : List Head) (ls : List Line) → AreScripts hs ls → All MakesScript (behaviours hs ls)
each_is hs [] are = search rules
each_is hs (Line.TestCase n ∷ rest) are = search rules
each_is hs (Line.Behaviour n ps ∷ rest) are = All-cons MakesScript (n, record { parameters = length ps; steps = steps hs (all_of [] ps) rest }) (behaviours hs rest) are.0 (each_is hs rest are.1)
each_is hs (_ ∷ rest) are = each_is hs rest are

abbrev pub MakesScripts : Word × List (Word × ScriptView) → Type 0
MakesScripts t = All MakesScript t.1

-- what is made of each test case
pub scripts_are : (ls : List Line) → AreCases ls → All MakesScripts (cases ls)
scripts_are [] are = search rules
scripts_are (Line.TestCase n ∷ rest) are = All-cons MakesScripts (n, behaviours (heads rest) rest) (cases rest) (each_is (heads rest) rest are.1) (scripts_are rest are.2)
scripts_are (_ ∷ rest) are = scripts_are rest are
