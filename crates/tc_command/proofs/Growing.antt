-- A command that grows by one option or subcommand after the other.
use Rattle.std.{proofs.{Common.{◌≡◌, ◌∙◌, ◌+◌, ◌<◌, ◌||◌, List, ap, codes, false, get_or, length, map, sym, take, ℕ}, Math.Bool.or-false, lemmas.List.Sums.{fold_more, fold_push}}, specs.{Borrow.Bor, List.fold}}
use Rattle.clap.specs.{Words.{AddsArg, AddsSubcommand, App, Rule, Text, app_of, new_app, rule_of, with_rule, with_subcommand}, declared.builder.{arg.Arg.Arg, command.Command.{Command, TheViews.out-Command}}}
use Rattle.tc_command.{specs.{Command.{app_of_subcommand, option_rule, with_options, with_version}, Inside.{GrowsBy, with_named}, declared.command.Subcommand.Subcommand}, proofs.Options.words_more}

-- an option of this rule more
pub grows_by_one : {old new : Command} {a : Arg} {rule : Rule} → AddsArg old a new → a.global ≡ false → rule_of a ≡ rule
    → GrowsBy (λ app. with_rule app rule) old new
grows_by_one {old} adds local is =
    record {
      options = adds.shape local ∙ ap (with_rule (app_of old)) is;
      local = adds.globals ∙ (ap (λ b. (out-Command old).has_globals || b) local ∙ or-false (out-Command old).has_globals);
    }

-- one more of the names
pub named_more : (names : List (Bor Text)) (i : ℕ) (d : Bor Text) (app : App) → i < length names
    → with_named (take (i + 1) names) app ≡ with_rule (with_named (take i names) app) (option_rule (get_or names i d).now)
named_more names i d app within =
    ap (with_options app) (words_more names i d within) ∙ fold_push (λ a name. with_rule a (option_rule name)) app (map (λ (n : Bor Text). n.now) (take i names)) (get_or names i d).now

-- the program's command with the first subcommands
abbrev pub with_each : List Subcommand → App
with_each = fold (λ app s. with_subcommand app (app_of_subcommand s).top) (with_version (new_app (codes "ttrun")))

-- one more of the subcommands
pub each_more : {old sub new : Command} (subs : List Subcommand) (i : ℕ) (d : Subcommand) → i < length subs → AddsSubcommand old sub new
    → (out-Command sub).has_globals ≡ false → app_of sub ≡ app_of_subcommand (get_or subs i d) → app_of old ≡ with_each (take i subs) → app_of new ≡ with_each (take (i + 1) subs)
each_more {old} subs i d within adds local is so_far =
    let more = fold_more (λ app s. with_subcommand app (app_of_subcommand s).top) (with_version (new_app (codes "ttrun"))) subs i d within in
    adds.shape local ∙ (ap (λ (a : App). with_subcommand (app_of old) a.top) is
    ∙ (ap (λ app. with_subcommand app (app_of_subcommand (get_or subs i d)).top) so_far ∙ sym more))

-- what a command of this application has grown to
pub grown : {more : App → App} {old new : Command} {app : App} → GrowsBy more old new → app_of old ≡ app → app_of new ≡ more app
grown {more} grows is = grows.options ∙ ap more is
