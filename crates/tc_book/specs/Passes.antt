-- What contracts see of a pass and of what it leaves, and what its calls add to its log.
use Rattle.std.specs.{Prelude.{◌≡◌, ◌++◌, ◌∷◌, [], ◌⊎◌, Bool, true, false, Option, Some, None, MatchOption, List, Result, Ok, Err, ℕ, codes}, List.list_any}
use Rattle.tc_rules.specs.Prelude.{Run, Comp, Entry, Op, Target, Reply, memory_text, fault_name, ends_pass}
use Rattle.tc_book.specs.declared.halt.Halt.{Halt}

-- a pass: its run, the component and the arguments that the run was started with, and its entries, the oldest first
pub record PassState : Type 0 where
  pub run : Run
  pub me : Comp
  pub args : List Comp
  pub log : List Entry

-- what is left of a run: its entries, and what its pass was started with, if there was one
pub record LeftState : Type 0 where
  pub run : Run
  pub log : List Entry
  pub started : Option (Comp × List Comp)

-- some entry of its log ended the pass
abbrev pub has_ended : PassState → Bool
has_ended p = list_any (ends_pass p.me) p.log

-- the pass with one more entry of its own in its log
abbrev pub with_own_entry : PassState → Op → Reply → PassState
with_own_entry p op reply = record p { log = p.log ++ record { caller = p.run; op = op; reply = reply } ∷ [] }

-- the reply that a call got, by its answer; none if memory ran out
abbrev pub reply_of : {A : Type 0} → (A → Reply) → Result A Halt → Option Reply
reply_of said (Ok a) = Some (said a)
reply_of said (Err Halt.Ended) = Some Reply.Ended
reply_of said (Err (Halt.Fault f)) = Some (Reply.Fault f)
reply_of said (Err Halt.NoMemory) = None

-- a call adds its entry with the reply, or nothing if there is none; an ended pass answers Ended, and stays as it is
pub record IsCall {A : Type 0} (said : A → Reply) (op : Op) (before after : PassState) (result : Result A Halt) : Type 0 where
  pub ended : has_ended before ≡ true → (after ≡ before) × (result ≡ Err Halt.Ended)
  pub replied : has_ended before ≡ false → MatchOption (reply_of said result) (after ≡ before) (λ r. after ≡ with_own_entry before op r)

-- a wait adds its Wait with the reply, or, if that is parked, the Wait and one Wake with the reply
abbrev pub Waits : Bool → Target → PassState → PassState → Reply → Type 0
Waits killed target p q r =
    (q ≡ with_own_entry p (Op.Wait killed target) r) ⊎ (q ≡ with_own_entry (with_own_entry p (Op.Wait killed target) Reply.Parked) (Op.Wake killed target) r)

-- a wait is answered if its target holds, and is otherwise as a call
pub record IsWait (killed : Bool) (target : Target) (before after : PassState) (result : Result (Unit {0}) Halt) : Type 0 where
  pub ended : has_ended before ≡ true → (after ≡ before) × (result ≡ Err Halt.Ended)
  pub replied : has_ended before ≡ false → MatchOption (reply_of (λ _. Reply.Matched) result) (after ≡ before) (Waits killed target before after)

-- why a call was not answered by its value: in the words of its reply, if there is one
abbrev pub halt_text : Halt → List ℕ
halt_text Halt.Ended = codes "ended"
halt_text (Halt.Fault fault) = codes "error " ++ fault_name fault
halt_text Halt.NoMemory = memory_text
