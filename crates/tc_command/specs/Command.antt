-- The program's command as a command line reads it: its subcommands, their options, and the values of these.
use Rattle.std.specs.{Prelude.{List, [], ◌∷◌, ◌++◌, Some, true, codes, fold, map, option_map, ℕ, ◌≡◌, ◌≤◌, ◌<◌, ◌+◌, ◌^◌, if◌then◌else◌, IfSome, MatchOption, Option}, Fmt.decimal, List.list_any, Str.bytes_eq}
use Prim.Native.String.{String}
use Rattle.clap.specs.{Words.{App, Rule, Text, new_app, new_rule, with_rule, with_subcommand}, declared.builder.action.ArgAction.TheVariants.{Append, Set, SetTrue}}
use Rattle.tc_entry.specs.Prelude.{IsShard, ShardView}
use Rattle.tc_command.specs.declared.{command.Subcommand.{Subcommand, TheVariants.{Check, Explore, Model, Replay, Report, Run, Serve}}, word.WordFault.WordFault}

-- an option of this name: --only takes one value each time, --progress one or none, and the four one; any other takes none
abbrev pub option_rule : Text → Rule
option_rule name =
    let flag = record (new_rule name) { long = Some name; action = Some SetTrue } in
    let word = record flag { action = Some Set; value_names = 1 } in
    if bytes_eq name (codes "only") then record word { action = Some Append }
    else (if bytes_eq name (codes "progress") then record word { range = Some (record { start_inclusive = 0; end_inclusive = 1 }) }
    else (if list_any (bytes_eq name) (map codes ("suite" ∷ "stop-on" ∷ "states" ∷ "shard" ∷ [])) then word else flag))

-- the command with the options of these names more, in their order
abbrev pub with_options : App → List Text → App
with_options = fold (λ app name. with_rule app (option_rule name))

-- the options of each command that reads histories: their script, which of them, and whether they may be long
abbrev pub choosing : List String
choosing = "script" ∷ "only" ∷ "shard" ∷ "failed" ∷ "last" ∷ "long" ∷ []

-- those of a run of test cases: its forms, as it finishes, how it is stopped, and which test cases
abbrev pub run_options : List String
run_options = "csv" ∷ "history" ∷ "evidence" ∷ "junit" ∷ "suite" ∷ "times" ∷ "live" ∷ "progress" ∷ "stop-on" ∷ "list" ∷ "only" ∷ "shard" ∷ []

-- the name of a subcommand, and its options without those of explanations
abbrev pub offer_of : Subcommand → Text × List String
offer_of Run = (codes "run", run_options ++ "failed" ∷ "last" ∷ [])
offer_of Serve = (codes "serve", [])
offer_of Explore = (codes "explore", "history" ∷ "evidence" ∷ "details" ∷ "locals" ∷ "states" ∷ "only" ∷ "shard" ∷ "failed" ∷ "last" ∷ [])
offer_of Check = (codes "check", choosing)
offer_of Report = (codes "report", "text" ∷ "csv" ∷ "junit" ∷ "suite" ∷ "html" ∷ "summary" ∷ choosing)
offer_of Model = (codes "model", "only" ∷ "failed" ∷ "last" ∷ "long" ∷ [])
offer_of Replay = (codes "replay", [])

-- the command of a subcommand: each but `serve` has also the options that say whether a fault is explained
abbrev pub app_of_subcommand : Subcommand → App
app_of_subcommand Serve = new_app (codes "serve")
app_of_subcommand s = with_options (new_app (offer_of s).0) (map codes ((offer_of s).1 ++ "explain" ∷ "no-explain" ∷ []))

-- the subcommands, in the order of the help
abbrev pub subcommands : List Subcommand
subcommands = Run ∷ Serve ∷ Explore ∷ Check ∷ Report ∷ Model ∷ Replay ∷ []

-- a command that prints its version
abbrev pub with_version : App → App
with_version app = record app { top = record app.top { has_version = true } }

-- the program's command prints its version, and has these subcommands
abbrev pub ttrun : App
ttrun = fold (λ app s. with_subcommand app (app_of_subcommand s).top) (with_version (new_app (codes "ttrun"))) subcommands

-- the command of a program with test cases of its own prints its version too, and has the options of their run
abbrev pub cases_app : App
cases_app = with_options (with_version (new_app (codes "program"))) (map codes run_options)

-- the shard is that of the value, K/N in decimal: the K-th of N, and K is from 1 to N
abbrev pub IsShardOf : Option Text → Option ShardView → Type 0
IsShardOf word shard =
    (word ≡ option_map (λ s. decimal (s.place + 1) ++ (47 ∷ decimal s.shards)) shard) × IfSome shard (λ s. IsShard s × (s.shards < 2 ^ 32))

-- that many states are looked at: those that the value names, from 1 to a million; without a value a hundred thousand
abbrev pub IsStatesOf : Option Text → ℕ → Type 0
IsStatesOf word n = MatchOption word (n ≡ 100000) (λ w. (1 ≤ n) × (n ≤ 1000000) × (w ≡ decimal n))

-- what is said of a value that names nothing
abbrev pub word_fault_text : WordFault → List ℕ
word_fault_text WordFault.StopOn = codes "--stop-on takes none, pass, inconc, fail or error"
word_fault_text WordFault.States = codes "--states takes a number from 1 to 1000000"
word_fault_text WordFault.Shard = codes "--shard takes K/N, with K from 1 to N"
word_fault_text WordFault.Only = codes "--only takes the name of one of the test cases"
word_fault_text WordFault.Suite = codes "--suite takes 1 to 32 letters, digits or _, a letter first"
word_fault_text WordFault.Progress = codes "--progress takes failures, or no value"
