-- What the words are read as, by what the parse answered and what the options ask for.
use Rattle.std.{proofs.Common.{◌≡◌, ◌∙◌, ◌⊎◌, refl, true, sym, ap, subst, Bool, List, [], Result, Ok, Err, Option, None, Some, Box, Global}, specs.{Prelude.{codes, find, option_map, unwrap_or}, Borrow.Bor, Box.box_value, Result.IsErrAnd, Str.bytes_eq}}
use Rattle.clap.{specs.{Kinds.{Kinds}, Words.{App, HasKind, HasMatchesOf, IsAmong, Row, Text, fault_of, found_of, is_simple, is_simple_and_free, kind_of, matches_of, rows_of, subcommand_name_of, subcommand_of, subcommand_rows, subcommand_rows_of}, declared.{error.{Error.Error, kind.ErrorKind.TheVariants.OutOfMemory}, parser.matches.{ArgMatches.{ArgMatches, TheViews.{out-ArgMatches, out-SubCommand}}, SubCommand.SubCommand}}}, proofs.FaultLemmas.{first_fails}}
use Rattle.tc_command.specs.{Asked.{IsReadAs, command_line_of}, Command.{cases_app, offer_of, subcommands, ttrun}, declared.{command.Subcommand.Subcommand, read.Refused.Refused, task.Task.Task}}

-- what a command reads is what the application that it is reads
carried : {T : Type 0} {x : T} (read : App → T) (fits : App → Bool) {command app : App} → command ≡ app → fits app ≡ true
    → (fits command ≡ true → x ≡ read command) → x ≡ read app
carried read fits is fit same = same (ap fits is ∙ fit) ∙ ap read is

-- what the parse takes has no fault
pub no_fault : {command app : App} (words : List Text) → command ≡ app → is_simple_and_free app ≡ true → (is_simple_and_free command ≡ true → fault_of command words ≡ [])
    → [] ≡ fault_of app words
no_fault words is fit none = carried (λ app. fault_of app words) is_simple_and_free is fit (λ f. sym (none f))

-- the subcommand and its options are those of the words
pub line_found : {command : App} (words : List Text) (m : ArgMatches) → command ≡ ttrun → HasMatchesOf command words m
    → command_line_of (rows_of (found_of m)) (subcommand_rows_of m) ≡ command_line_of (matches_of ttrun words) (subcommand_of ttrun words)
line_found words m is found =
    ap (λ rows. command_line_of rows (subcommand_rows_of m)) (carried (λ app. matches_of app words) is_simple is refl (λ f. (found f).0))
    ∙ ap (command_line_of (matches_of ttrun words)) (carried (λ app. subcommand_of app words) is_simple is refl (λ f. (found f).1))

-- the name of a subcommand and its options, in a pair
abbrev pub named : Bor Text × Bor ArgMatches → Text × List Row
named p = (p.0.now, rows_of (found_of p.1.now))

-- the line of a name and its options
abbrev pub line_of : Text × List Row → Subcommand × List Row
line_of p = (unwrap_or (find (λ s. bytes_eq (offer_of s).0 p.0) subcommands) Subcommand.Run, p.1)

-- the subcommand of the matches and its options, by their parts
pub line_named : (m : ArgMatches) (o : Option (Bor Text × Bor ArgMatches)) (d p : Bor Text × Bor ArgMatches) (s : Subcommand) → named d ≡ (codes "run", rows_of (found_of m))
    → option_map (λ p. p.0.now) o ≡ subcommand_name_of m → option_map (λ p. rows_of (found_of p.1.now)) o ≡ option_map (λ p. p.1) (subcommand_rows_of m) → p ≡ unwrap_or o d
    → s ≡ (line_of (named p)).0 → (s, (named p).1) ≡ command_line_of (rows_of (found_of m)) (subcommand_rows_of m)
line_named m o d p s default name rows taken is = ap (λ s. (s, (named p).1)) is ∙ ap line_of (ap named taken ∙ go o (out-ArgMatches m).subcommand name rows)
  where
    go : (o : Option (Bor Text × Bor ArgMatches)) (sub : Option (Box SubCommand Global)) → option_map (λ p. p.0.now) o ≡ option_map (λ b. (out-SubCommand (box_value b)).name.now) sub
        → option_map (λ p. rows_of (found_of p.1.now)) o ≡ option_map (λ p. p.1) (subcommand_rows sub)
        → named (unwrap_or o d) ≡ unwrap_or (subcommand_rows sub) (codes "run", rows_of (found_of m))
    go None None name rows = default
    go None (Some b) name rows = cc
    go (Some p) None name rows = cc
    go (Some p) (Some b) name rows = cc

-- the options of a program with test cases of its own are those of the words
pub rows_found : {command : App} (words : List Text) (m : ArgMatches) → command ≡ cases_app → HasMatchesOf command words m
    → ◌≡◌ {A = Subcommand × List Row} (Subcommand.Run, rows_of (found_of m)) (Subcommand.Run, matches_of cases_app words)
rows_found words m is found = ap (λ rows. (Subcommand.Run, rows)) (carried (λ app. matches_of app words) is_simple is refl (λ f. (found f).0))

-- what the parse refuses is refused, by an error of the same kind
pub parse_refuses : (at : Bool) {command app : App} (words : List Text) (line : Subcommand × List Row) (e told : Error) → command ≡ app → is_simple_and_free app ≡ true
    → (is_simple_and_free command ≡ true → HasKind (fault_of command words) e) → kind_of told ≡ kind_of e → IsReadAs at (fault_of app words) line (Err (Refused.Line told))
parse_refuses at {command} {app} words line e told is fit kinds same =
    first_fails (fault_of app words) _ (kind_of told) (subst (λ k. (k ≡ OutOfMemory) ⊎ IsAmong k (fault_of app words)) (sym same) (subst (λ a. HasKind (fault_of a words) e) is (kinds (ap is_simple_and_free is ∙ fit))))

-- what has no fault is read as its options are
pub read_on : (at : Bool) (found : Kinds) (line given : Subcommand × List Row) (r : Result Task Refused) → [] ≡ found → line ≡ given
    → IsReadAs at [] line r → IsReadAs at found given r
read_on at found line given r none is reads = subst (λ l. IsReadAs at found l r) is (subst (λ f. IsReadAs at f line r) none reads)

-- an answer that is this error is read as it is
pub fails_so : (at : Bool) (found : Kinds) (line : Subcommand × List Row) (r : Result Task Refused) (e : Error) → IsErrAnd r (λ x. x ≡ Refused.Line e)
    → IsReadAs at found line (Err (Refused.Line e)) → IsReadAs at found line r
fails_so at found line (Ok x) e is reads = absurd is
fails_so at found line (Err x) e is reads = subst (λ r. IsReadAs at found line (Err r)) (sym is) reads
