-- The subcommand that a parse found.
use Rattle.std.proofs.Common.{◌≡◌, List, Option, Some, None, sym, subst, option_map, unwrap_or}
use Rattle.std.specs.Box.{box_value}
use Rattle.std.specs.Option.{IfSome, IfNone}
use Rattle.clap.specs.Matches.{first_value, found_of, subcommand_name_of}
use Rattle.clap.specs.Simple.{subcommand_rows_of}
use Rattle.clap.specs.Walk.{Row, Text, first_of, rows_of}
use Rattle.clap.specs.declared.parser.matches.ArgMatches.{ArgMatches}
use Rattle.clap.specs.declared.parser.matches.ArgMatches.TheViews.{out-ArgMatches, out-SubCommand}
use Rattle.clap.specs.declared.parser.matches.Found.{Found}
use Rattle.clap.proofs.WalkLemmas.{first_value-rows}
use Rattle.command_words.specs.declared.command.Command.{Command}
use Rattle.command_words.specs.Reading.{IsFoundIn, IsGiven}

pairs : {X : Type 0} (name : X → Text) (rows : X → List Row) (o : Option X) (n : Text) (r : List Row) → Some n ≡ option_map name o
    → Some r ≡ option_map (λ (p : Text × List Row). p.1) (option_map {U = Text × List Row} (λ x. (name x, rows x)) o) → option_map {U = Text × List Row} (λ x. (name x, rows x)) o ≡ Some (n, r)
pairs name rows None n r e f = absurd (cc e)
pairs name rows (Some x) n r e f = λ i. Some (unwrap_or (sym e i) n, unwrap_or (sym f i) r)

-- the name and the rows of the subcommand, which are told one by one
rows_found : (m : ArgMatches) (name : Text) (rows : List Row) → Some name ≡ subcommand_name_of m → Some rows ≡ option_map (λ (p : Text × List Row). p.1) (subcommand_rows_of m)
    → subcommand_rows_of m ≡ Some (name, rows)
rows_found m name rows e f = pairs (λ b. (out-SubCommand (box_value b)).name.now) (λ b. rows_of (found_of (out-SubCommand (box_value b)).matches)) (out-ArgMatches m).subcommand name rows e f

-- the values of the matches are those of their rows
same_values : (values : Found) → first_value values ≡ (λ id. first_of id (rows_of values))
same_values values = λ i id. first_value-rows values id i

pub given_found : (m : ArgMatches) (name : Text) (values : Found) → Some name ≡ subcommand_name_of m → Some (rows_of values) ≡ option_map (λ (p : Text × List Row). p.1) (subcommand_rows_of m)
    → (c : Command) → IsGiven c name (first_value values) → IsFoundIn c (subcommand_rows_of m)
given_found m name values e f c given =
    subst (λ (o : Option (Text × List Row)). IsFoundIn c o) (sym (rows_found m name (rows_of values) e f)) (subst (λ (value : Text → Option Text). IsGiven c name value) (same_values values) given)

pub found_given : (m : ArgMatches) (name : Text) (values : Found) → Some name ≡ subcommand_name_of m → Some (rows_of values) ≡ option_map (λ (p : Text × List Row). p.1) (subcommand_rows_of m)
    → (c : Command) → IsFoundIn c (subcommand_rows_of m) → IsGiven c name (first_value values)
found_given m name values e f c found =
    subst (λ (value : Text → Option Text). IsGiven c name value) (sym (same_values values)) (subst (λ (o : Option (Text × List Row)). IsFoundIn c o) (rows_found m name (rows_of values) e f) found)

pub some_weaker : {X : Type 0} (o : Option X) (P Q : X → Type 0) → ((x : X) → P x → Q x) → IfSome o P → IfSome o Q
some_weaker None P Q f h = tt
some_weaker (Some x) P Q f h = f x h

pub none_weaker : {X P Q : Type 0} (o : Option X) → (P → Q) → IfNone o P → IfNone o Q
none_weaker None f h = f h
none_weaker (Some x) f h = tt
