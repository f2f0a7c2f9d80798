-- Why there is no input of a task, and the two parts of a text: a script, and the blocks after it.
use Rattle.std.specs.{Prelude.{ℕ, ◌<◌, List, Option, IfSome, length, suc, ◌==◌, ◌&&◌, ◌||◌, Bool, true, if◌then◌else◌, [], ◌∷◌, codes, drop, take, nat_eq}, List.starts_with}
use Rattle.tc_answer.specs.declared.fault.RunFault.{RunFault}

-- the input was not read whole: it has more bytes, or the device failed, or memory ran out
abbrev pub IsUnread : ℕ → Option (List ℕ) → RunFault → Type 0
IsUnread limit input RunFault.TooLong = IfSome input (λ given. limit < length given)
IsUnread limit input RunFault.Read = Unit {0}
IsUnread limit input RunFault.NoMemory = Unit {0}
IsUnread limit input fault = ⊥

-- a block begins here
abbrev pub begins_block : List ℕ → Bool
begins_block text = starts_with nat_eq text (codes "history ") || starts_with nat_eq text (codes "evidence ")

-- how many bytes are before the first line that begins a block, by whether a line begins here
unfoldable pub script_bytes : Bool → List ℕ → ℕ
script_bytes begins [] = 0
script_bytes begins (b ∷ bs) = if begins && begins_block (b ∷ bs) then 0 else suc (script_bytes (b == 10) bs)

-- the script
abbrev pub script_part : List ℕ → List ℕ
script_part text = take (script_bytes true text) text

-- the blocks after it
abbrev pub blocks_part : List ℕ → List ℕ
blocks_part text = drop (script_bytes true text) text
