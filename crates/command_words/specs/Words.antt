-- The words of the program's command line.
use Rattle.std.specs.Prelude.{◌≡◌, ◌≤◌, ◌<◌, ◌^◌, ℕ, List, [], ◌∷◌, Option, Some, None, true, codes, decimal}
use Rattle.setoff_model.specs.declared.limits.TheConstants.{LAST_DAY, MOST_CLAIMS, MOST_ENTRIES, MOST_FIRMS}
use Rattle.setoff_model.specs.Names.{is_name}
use Rattle.setoff_model.specs.Texts.{kind_text}
use Rattle.request_text.specs.claim_history.specs.Days.{day_text}
use Rattle.request_text.specs.claim_history.specs.Pools.{main_pool}
use Rattle.request_text.specs.Lanes.{IsLane}
use Rattle.request_text.specs.Pools.{IsOtherPool}
use Rattle.command_words.specs.declared.command.Command.{Command}
use Rattle.command_words.specs.declared.command.Command.TheVariants as commands
use Rattle.command_words.specs.declared.input_report.InputReport.TheVariants as inputs
use Rattle.command_words.specs.declared.journal_report.JournalReport.{JournalReport}
use Rattle.command_words.specs.declared.journal_report.JournalReport.TheVariants as journals

-- the pool has a name, where one is given
abbrev pub IsPool : Option (List ℕ) → Type 0
IsPool None = Unit {0}
IsPool (Some pool) = is_name pool ≡ true

-- the pool is another than MAIN, where one is given
abbrev pub NamesOther : Option (List ℕ) → Type 0
NamesOther None = Unit {0}
NamesOther (Some pool) = IsOtherPool pool

-- the number of acts is one that a journal may have, where one is given
abbrev pub AreActs : Option ℕ → Type 0
AreActs None = Unit {0}
AreActs (Some acts) = acts ≤ MOST_ENTRIES

-- its text, where one is given
abbrev pub acts_text : Option ℕ → Option (List ℕ)
acts_text None = None
acts_text (Some acts) = Some (decimal acts)

-- the values of a command are in their ranges
abbrev pub IsCommand : Command → Type 0
IsCommand commands.Run = Unit {0}
IsCommand commands.Live = Unit {0}
IsCommand (commands.OnInput inputs.Check) = Unit {0}
IsCommand (commands.OnInput inputs.Explain) = Unit {0}
IsCommand (commands.OnInput (inputs.Import lane)) = IsLane lane
IsCommand (commands.OnJournal journals.Audit) = Unit {0}
IsCommand (commands.OnJournal (journals.Positions pool)) = NamesOther pool
IsCommand (commands.OnJournal (journals.Notices today pool)) = (today ≤ LAST_DAY) × NamesOther pool
IsCommand (commands.OnJournal (journals.Weigh kind today)) = today ≤ LAST_DAY
IsCommand (commands.OnJournal (journals.History pool)) = IsPool pool
IsCommand (commands.OnJournal (journals.Statement round pool)) = (1 ≤ round) × (round < 2 ^ 32) × NamesOther pool
IsCommand (commands.OnJournal journals.Pools) = Unit {0}
IsCommand (commands.OnJournal (journals.Since acts pool)) = (acts ≤ MOST_ENTRIES) × IsPool pool
IsCommand (commands.OnJournal (journals.Seal acts)) = AreActs acts
IsCommand (commands.OnJournal (journals.Account firm pool)) = (is_name firm ≡ true) × IsPool pool
IsCommand (commands.OnJournal (journals.Parts round pool)) = (1 ≤ round) × (round < 2 ^ 32) × IsPool pool
IsCommand (commands.OnJournal (journals.Forecast kind horizon pool)) = (horizon ≤ LAST_DAY) × IsPool pool
IsCommand (commands.Trial firms claims seed) = (2 ≤ firms) × (firms ≤ MOST_FIRMS) × (1 ≤ claims) × (claims ≤ MOST_CLAIMS) × (seed < 2 ^ 32)

-- the first word of a command
abbrev pub name_of : Command → List ℕ
name_of commands.Run = codes "run"
name_of commands.Live = codes "live"
name_of (commands.OnInput inputs.Check) = codes "check"
name_of (commands.OnInput inputs.Explain) = codes "explain"
name_of (commands.OnInput (inputs.Import lane)) = codes "import"
name_of (commands.OnJournal journals.Audit) = codes "audit"
name_of (commands.OnJournal (journals.Positions pool)) = codes "positions"
name_of (commands.OnJournal (journals.Notices today pool)) = codes "notices"
name_of (commands.OnJournal (journals.Weigh kind today)) = codes "weigh"
name_of (commands.OnJournal (journals.History pool)) = codes "history"
name_of (commands.OnJournal (journals.Statement round pool)) = codes "statement"
name_of (commands.OnJournal journals.Pools) = codes "pools"
name_of (commands.OnJournal (journals.Since acts pool)) = codes "since"
name_of (commands.OnJournal (journals.Seal acts)) = codes "seal"
name_of (commands.OnJournal (journals.Account firm pool)) = codes "account"
name_of (commands.OnJournal (journals.Parts round pool)) = codes "parts"
name_of (commands.OnJournal (journals.Forecast kind horizon pool)) = codes "forecast"
name_of (commands.Trial firms claims seed) = codes "trial"

-- a last value that may be left out, where one is given
abbrev pub last_values : Option (List ℕ) → List (List ℕ)
last_values None = []
last_values (Some value) = value ∷ []

-- the values of a command, as they are spelled
abbrev pub values_of : Command → List (List ℕ)
values_of commands.Run = []
values_of commands.Live = []
values_of (commands.OnInput inputs.Check) = []
values_of (commands.OnInput inputs.Explain) = []
values_of (commands.OnInput (inputs.Import lane)) = decimal lane ∷ []
values_of (commands.OnJournal journals.Audit) = []
values_of (commands.OnJournal (journals.Positions pool)) = last_values pool
values_of (commands.OnJournal (journals.Notices today pool)) = day_text today ∷ last_values pool
values_of (commands.OnJournal (journals.Weigh kind today)) = kind_text kind ∷ day_text today ∷ []
values_of (commands.OnJournal (journals.History pool)) = last_values pool
values_of (commands.OnJournal (journals.Statement round pool)) = decimal round ∷ last_values pool
values_of (commands.OnJournal journals.Pools) = []
values_of (commands.OnJournal (journals.Since acts pool)) = decimal acts ∷ last_values pool
values_of (commands.OnJournal (journals.Seal acts)) = last_values (acts_text acts)
values_of (commands.OnJournal (journals.Account firm pool)) = firm ∷ last_values pool
values_of (commands.OnJournal (journals.Parts round pool)) = decimal round ∷ last_values pool
values_of (commands.OnJournal (journals.Forecast kind horizon pool)) = kind_text kind ∷ day_text horizon ∷ last_values pool
values_of (commands.Trial firms claims seed) = decimal firms ∷ decimal claims ∷ decimal seed ∷ []

-- the words of a command
abbrev pub words_of : Command → List (List ℕ)
words_of command = name_of command ∷ values_of command

-- the words are those of the command
abbrev pub AreWordsOf : Command → List (List ℕ) → Type 0
AreWordsOf command words = IsCommand command × (words ≡ words_of command)

-- no command has these words
abbrev pub AreNoWords : List (List ℕ) → Type 0
AreNoWords words = (command : Command) → AreWordsOf command words → ⊥

-- two commands with the same words are one
abbrev pub OneCommandLaw : Type 0
OneCommandLaw = (words : List (List ℕ)) (command other : Command) → AreWordsOf command words → AreWordsOf other words → command ≡ other

-- the pool that is named, else MAIN
abbrev pub named_or_main : Option (List ℕ) → List ℕ
named_or_main None = main_pool
named_or_main (Some pool) = pool

-- the pool of which a report speaks
abbrev pub pool_of : JournalReport → List ℕ
pool_of journals.Audit = main_pool
pool_of (journals.Positions pool) = named_or_main pool
pool_of (journals.Notices today pool) = named_or_main pool
pool_of (journals.Weigh kind today) = main_pool
pool_of (journals.History pool) = named_or_main pool
pool_of (journals.Statement round pool) = named_or_main pool
pool_of journals.Pools = main_pool
pool_of (journals.Since acts pool) = named_or_main pool
pool_of (journals.Seal acts) = main_pool
pool_of (journals.Account firm pool) = named_or_main pool
pool_of (journals.Parts round pool) = named_or_main pool
pool_of (journals.Forecast kind horizon pool) = named_or_main pool
