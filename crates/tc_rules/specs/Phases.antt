-- What a component is doing.
use Rattle.std.specs.{Prelude.{ℕ, ◌==◌, ◌&&◌, ◌||◌, not, if◌then◌else◌, Bool, false, Option, Some, None, is_some, List, [], ◌∷◌}, Option.{option_and_then, option_map_or, option_or}}
use Rattle.tc_entry.specs.{Prelude.{Run, is_ok}, declared.comp.Comp.Comp, declared.entry.Entry.Entry, declared.phase.Phase.Phase}
use Rattle.tc_rules.specs.History.{exists, is_alive_type, comp_of, start, is_comp, is_stop_of, is_kill_of, halts, kills}

-- an entry after its creation killed component c
abbrev pub was_killed : List Entry → ℕ → Bool
was_killed [] c = false
was_killed (e ∷ past) c = (exists past c && kills e c) || was_killed past c

-- the run that the entry starts on component c
abbrev pub start_in : Entry → ℕ → Option Run
start_in e c = if is_ok e.reply then option_and_then (λ s. if s.1.0 == c then Some s.0 else None) (start e.op) else None

-- the run of the last start of component c; the main component runs run 0 from the opening
abbrev pub last_run : List Entry → ℕ → Option Run
last_run [] c = if c == 0 then Some (record { 0 = 0 }) else None
last_run (e ∷ past) c = option_or (start_in e c) (last_run past c)

-- since its last start an entry halted component c
abbrev pub was_halted : List Entry → ℕ → Bool
was_halted [] c = false
was_halted (e ∷ past) c = not (is_some (start_in e c)) && (halts (comp_of past e.caller.0) e c || was_halted past c)

-- the entry, whose caller is on component own, halts component c, as a Stop or Kill by a run on another component
abbrev pub halts_from_outside : Option Comp → Entry → ℕ → Bool
halts_from_outside own e c = halts own e c && (is_stop_of e.op c || is_kill_of e.op c) && not (is_comp own c)

-- the first entry that halted component c since its last start halted it from outside
abbrev pub is_excused : List Entry → ℕ → Bool
is_excused [] c = false
is_excused (e ∷ past) c =
    not (is_some (start_in e c)) && (if was_halted past c then is_excused past c else halts_from_outside (comp_of past e.caller.0) e c)

-- what component c is doing
unfoldable pub phase : List Entry → ℕ → Phase
phase past c =
    if was_killed past c then Phase.Killed
    else option_map_or
    (λ run. if not (was_halted past c) then Phase.Running run else if is_alive_type past c then Phase.Stopped else Phase.Killed)
    (last_run past c) Phase.Inactive

-- the same, if the component exists
unfoldable pub phase_if_any : List Entry → ℕ → Option Phase
phase_if_any past c = if exists past c then Some (phase past c) else None
