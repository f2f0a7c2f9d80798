-- What only the reading of the arguments needs: no public clause rests on a word of this file.
use Rattle.std.specs.{Prelude.{◌≡◌, ◌<◌, ◌+◌, ◌^◌, ◌∷◌, ◌++◌, [], Bool, List, None, Some, codes, if◌then◌else◌, map, option_map}, Borrow.Bor, Fmt.decimal}
use Rattle.tc_entry.specs.Prelude.{IsShard, ShardView, name_of}
use Rattle.clap.specs.{Words.{App, Row, Text, app_of, first_of}, declared.{builder.command.Command.{Command, TheViews.out-Command}}}
use Rattle.tc_command.specs.{Asked.{Asks, Chooses, IsGoodWord, option_faults}, Command.{IsStatesOf, with_options}, declared.{command.Subcommand.Subcommand, read.Values.Values, refusal.Refusal.Refusal, task.Task.Task, word.WordFault.{WordFault, TheVariants.{Only, Progress, Shard, States, StopOn, Suite}}}}

-- a value names nothing, and those that are read before it name something
abbrev pub IsBadInTurn : List Row → WordFault → Type 0
IsBadInTurn rows Shard = IsGoodWord rows Shard → ⊥
IsBadInTurn rows Only = IsGoodWord rows Shard × (IsGoodWord rows Only → ⊥)
IsBadInTurn rows Suite = IsGoodWord rows Shard × IsGoodWord rows Only × (IsGoodWord rows Suite → ⊥)
IsBadInTurn rows StopOn = IsGoodWord rows Shard × IsGoodWord rows Only × IsGoodWord rows Suite × (IsGoodWord rows StopOn → ⊥)
IsBadInTurn rows Progress = IsGoodWord rows Shard × IsGoodWord rows Only × IsGoodWord rows Suite × IsGoodWord rows StopOn × (IsGoodWord rows Progress → ⊥)
IsBadInTurn rows States =
    IsGoodWord rows Shard × IsGoodWord rows Only × IsGoodWord rows Suite × IsGoodWord rows StopOn × IsGoodWord rows Progress × (IsGoodWord rows States → ⊥)

-- options are refused for this reason; if memory runs out, nothing is said about them
abbrev pub IsRefusedBy : Subcommand × List Row → Refusal → Type 0
IsRefusedBy line (Refusal.Options kind text) = option_faults line ≡ kind ∷ []
IsRefusedBy line (Refusal.Word fault) = (option_faults line ≡ []) × IsBadInTurn line.1 fault
IsRefusedBy line Refusal.NoMemory = Unit {0}

-- a value is refused for this reason, or memory ran out
abbrev pub IsBadWord : Type 0 → WordFault → Refusal → Type 0
IsBadWord Why fault (Refusal.Word f) = (f ≡ fault) × Why
IsBadWord Why fault Refusal.NoMemory = Unit {0}
IsBadWord Why fault refusal = ⊥

-- the first value that names nothing is refused, or memory ran out
abbrev pub IsWordRefused : List Row → Refusal → Type 0
IsWordRefused rows (Refusal.Word fault) = IsBadInTurn rows fault
IsWordRefused rows Refusal.NoMemory = Unit {0}
IsWordRefused rows refusal = ⊥

-- the values of the options name this, and they choose these test cases
pub record AreValues (rows : List Row) (v : Values) : Type 0 where
  pub choice : Chooses rows v.choice
  pub suite : v.suite ≡ first_of (codes "suite") rows
  pub stop_on : first_of (codes "stop-on") rows ≡ option_map name_of v.stop_on
  pub failures : first_of (codes "progress") rows ≡ (if v.failures then Some (codes "failures") else None)
  pub states : IsStatesOf (first_of (codes "states") rows) v.states

-- options are taken, and ask for this task
abbrev pub IsTaken : Bool → Subcommand × List Row → Task → Type 0
IsTaken at_terminal line task = (option_faults line ≡ []) × Asks at_terminal line task

-- the value names this shard
abbrev pub IsShardWord : Text → ShardView → Type 0
IsShardWord word s = (word ≡ decimal (s.place + 1) ++ (47 ∷ decimal s.shards)) × IsShard s × (s.shards < 2 ^ 32)

-- a command with the options of these names more, in their order
abbrev pub with_named : List (Bor Text) → App → App
with_named names app = with_options app (map (λ name. name.now) names)

-- the new command is the old one with so much more, none of it for the subcommands below
pub record GrowsBy (more : App → App) (old : Command) (new : Command) : Type 0 where
  pub options : app_of new ≡ more (app_of old)
  pub local : (out-Command new).has_globals ≡ (out-Command old).has_globals
