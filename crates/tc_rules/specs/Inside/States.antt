-- Tests on what is kept of components.
use Rattle.std.specs.{Prelude.{ℕ, ◌&&◌, ◌||◌, not, nat_lt, Bool, is_some, List, map}, List.{list_any, list_all}}
use Rattle.tc_entry.specs.{Prelude.{Verdict, worst}, declared.comp.Comp.Comp, declared.entry.Entry.Entry}
use Rattle.tc_rules.specs.{Answers.is_active, Status.is_done, Status.is_killed, Status.is_running, Waiting.waiting, Inside.Words.waits_in_vain, declared.component_state.ComponentState.ComponentState}

unfoldable pub none_running : List ComponentState → Bool
none_running states = list_all (λ s. not (is_running s.phase)) states

unfoldable pub any_killed : List ComponentState → Bool
any_killed states = list_any (λ s. is_killed s.phase) states

unfoldable pub all_killed : List ComponentState → Bool
all_killed states = list_all (λ s. is_killed s.phase) states

unfoldable pub any_done : List ComponentState → Bool
any_done states = list_any (λ s. is_done s.phase) states

unfoldable pub none_lapsed : List ComponentState → Bool
none_lapsed states = list_all (λ s. not (is_some s.last) || is_running s.phase || s.excused) states

unfoldable pub all_below : List Comp → ℕ → Bool
all_below cs count = list_all (λ c. nat_lt c.0 count) cs

-- run b is active, and does not wait in vain
unfoldable pub goes_on : List Entry → ℕ → Bool
goes_on past b = is_active past b && not (waits_in_vain past (waiting past b))

unfoldable pub worst_local : List ComponentState → Verdict
worst_local states = worst (map (λ s. s.local) states)
