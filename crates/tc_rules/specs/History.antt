-- What the past entries of a test case say of its components and runs.
-- Here and in the files next to it, `past` lists the entries so far, the newest first, and components and runs are
-- numbers.
use Rattle.std.specs.{Prelude.{ℕ, ◌==◌, ◌&&◌, ◌||◌, not, if◌then◌else◌, Bool, true, false, Option, Some, None, List, [], ◌∷◌, ◌++◌, drop}, List.list_any, Option.{option_and_then, option_map, option_map_or, option_or}}
use Rattle.tc_entry.specs.{Prelude.{Run, is_of, is_ended, is_fault, is_ok}, declared.comp.Comp.Comp, declared.entry.Entry.Entry, declared.op.Op.Op, declared.reply.Reply.Reply}

-- a number is in a list
abbrev pub is_in : ℕ → List ℕ → Bool
is_in x ys = list_any (λ y. x == y) ys

-- this is component c
abbrev pub is_comp : Option Comp → ℕ → Bool
is_comp comp c = option_map_or (λ d. d.0 == c) comp false

-- the component that a Create made
abbrev pub created : Op → Reply → Option Comp
created (Op.Create alive name) (Reply.Made c) = Some c
created _ _ = None

-- what an operation creates: a component, alive-type or not, with the name that it gives
abbrev pub creation : Op → Option (Bool × Option (List ℕ))
creation (Op.Create alive name) = Some (alive, name)
creation _ = None

-- what an operation starts: a run, on a component, with arguments
abbrev pub start : Op → Option (Run × Comp × List Comp)
start (Op.Start c run args) = Some (run, c, args)
start _ = None

-- the component on which the entry starts run b: a Start that was carried out
abbrev pub started_on : Entry → ℕ → Option Comp
started_on e b = if is_ok e.reply then option_and_then (λ s. if s.0.0 == b then Some s.1 else None) (start e.op) else None

-- the run that the entry starts: of a Start that was carried out
abbrev pub started : Entry → Option Run
started e = if is_ok e.reply then option_map (λ s. s.0) (start e.op) else None

-- the operation is the end of a behaviour
abbrev pub is_finish : Op → Bool
is_finish Op.Finish = true
is_finish _ = false

-- the operation stops the test case
abbrev pub is_stop_case : Op → Bool
is_stop_case Op.StopCase = true
is_stop_case _ = false

-- the operation is a Stop of component c
abbrev pub is_stop_of : Op → ℕ → Bool
is_stop_of (Op.Stop group) c = is_of group c
is_stop_of _ c = false

-- the operation is a Kill of component c
abbrev pub is_kill_of : Op → ℕ → Bool
is_kill_of (Op.Kill group) c = is_of group c
is_kill_of _ c = false

-- the components with one more
abbrev pub add_new : Option Comp → List ℕ → List ℕ
add_new None cs = cs
add_new (Some c) cs = if is_in c.0 cs then cs else cs ++ c.0 ∷ []

-- the components that exist, in the order of their creation: the main one, and those that a Create made
abbrev pub comps : List Entry → List ℕ
comps [] = 0 ∷ []
comps (e ∷ past) = add_new (created e.op e.reply) (comps past)

-- the parallel ones among them
abbrev pub ptcs : List Entry → List ℕ
ptcs past = drop 1 (comps past)

-- component c exists
unfoldable pub exists : List Entry → ℕ → Bool
exists past c = is_in c (comps past)

-- component c is alive-type: its creation, the first Create that made it, says so
abbrev pub is_alive_type : List Entry → ℕ → Bool
is_alive_type [] c = false
is_alive_type (e ∷ past) c =
    if exists past c then is_alive_type past c else is_comp (created e.op e.reply) c && option_map_or (λ m. m.0) (creation e.op) false

-- the component that run b is on: that of the first Start of the run
abbrev pub comp_of : List Entry → ℕ → Option Comp
comp_of [] b = if b == 0 then Some (record { 0 = 0 }) else None
comp_of (e ∷ past) b = option_or (comp_of past b) (started_on e b)

-- the entry ends the test case: a dynamic error, a StopCase, the main component's Finish, its Stop or its Kill
abbrev pub ends_case : Entry → Bool
ends_case e =
    not (is_ended e.reply)
    && (is_fault e.reply || is_stop_case e.op || (is_finish e.op && (e.caller.0 == 0)) || is_stop_of e.op 0 || is_kill_of e.op 0)

-- the entry kills component c
abbrev pub kills : Entry → ℕ → Bool
kills e c = ends_case e || (not (is_ended e.reply) && is_kill_of e.op c)

-- the entry, whose caller is on component own, halts component c: it kills it, or is its Stop or the end of a run on it
abbrev pub halts : Option Comp → Entry → ℕ → Bool
halts own e c = kills e c || (not (is_ended e.reply) && ((is_finish e.op && is_comp own c) || is_stop_of e.op c))

-- the entry ends the pass of its caller, on component own: it is replied Ended, or halts that component
unfoldable pub ends_pass : Comp → Entry → Bool
ends_pass own e = is_ended e.reply || halts (Some own) e own.0

-- some entry ended the test case
abbrev pub is_over : List Entry → Bool
is_over past = list_any ends_case past
