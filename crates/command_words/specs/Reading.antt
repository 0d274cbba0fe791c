-- How words are read.
use Rattle.std.specs.Prelude.{◌≡◌, ◌==◌, ℕ, Bool, false, List, [], ◌∷◌, Option, Some, codes, decimal}
use Rattle.std.specs.Option.{IsSomeAnd}
use Rattle.clap.specs.Walk.{Row, first_of}
use Rattle.setoff_model.specs.Texts.{kind_text}
use Rattle.request_text.specs.claim_history.specs.Days.{day_text}
use Rattle.command_words.specs.declared.command.Command.{Command}
use Rattle.command_words.specs.declared.command.Command.TheVariants as commands
use Rattle.command_words.specs.declared.input_report.InputReport.TheVariants as inputs
use Rattle.command_words.specs.declared.journal_report.JournalReport.TheVariants as journals
use Rattle.command_words.specs.Words.{acts_text, name_of}

-- the word begins with a hyphen
abbrev pub is_option : List ℕ → Bool
is_option [] = false
is_option (byte ∷ rest) = byte == 45

-- the values that are told by their names are those of the command
abbrev pub AreGiven : Command → (List ℕ → Option (List ℕ)) → Type 0
AreGiven commands.Run value = Unit {0}
AreGiven commands.Live value = Unit {0}
AreGiven (commands.OnInput inputs.Check) value = Unit {0}
AreGiven (commands.OnInput inputs.Explain) value = Unit {0}
AreGiven (commands.OnInput (inputs.Import lane)) value = value (codes "LANE") ≡ Some (decimal lane)
AreGiven (commands.OnJournal journals.Audit) value = Unit {0}
AreGiven (commands.OnJournal (journals.Positions pool)) value = value (codes "POOL") ≡ pool
AreGiven (commands.OnJournal (journals.Notices today pool)) value = (value (codes "DATE") ≡ Some (day_text today))
    × (value (codes "POOL") ≡ pool)
AreGiven (commands.OnJournal (journals.Weigh kind today)) value = (value (codes "KIND") ≡ Some (kind_text kind))
    × (value (codes "DATE") ≡ Some (day_text today))
AreGiven (commands.OnJournal (journals.History pool)) value = value (codes "POOL") ≡ pool
AreGiven (commands.OnJournal (journals.Statement round pool)) value = (value (codes "ROUND") ≡ Some (decimal round))
    × (value (codes "POOL") ≡ pool)
AreGiven (commands.OnJournal journals.Pools) value = Unit {0}
AreGiven (commands.OnJournal (journals.Since acts pool)) value = (value (codes "ACTS") ≡ Some (decimal acts))
    × (value (codes "POOL") ≡ pool)
AreGiven (commands.OnJournal (journals.Seal acts)) value = value (codes "ACTS") ≡ acts_text acts
AreGiven (commands.OnJournal (journals.Account firm pool)) value = (value (codes "FIRM") ≡ Some firm) × (value (codes "POOL") ≡ pool)
AreGiven (commands.OnJournal (journals.Parts round pool)) value = (value (codes "ROUND") ≡ Some (decimal round))
    × (value (codes "POOL") ≡ pool)
AreGiven (commands.OnJournal (journals.Forecast kind horizon pool)) value = (value (codes "KIND") ≡ Some (kind_text kind))
    × (value (codes "DATE") ≡ Some (day_text horizon)) × (value (codes "POOL") ≡ pool)
AreGiven (commands.Trial firms claims seed) value = (value (codes "FIRMS") ≡ Some (decimal firms))
    × (value (codes "CLAIMS") ≡ Some (decimal claims)) × (value (codes "SEED") ≡ Some (decimal seed))

-- the name and the values are those of the command
abbrev pub IsGiven : Command → List ℕ → (List ℕ → Option (List ℕ)) → Type 0
IsGiven command name value = (name ≡ name_of command) × AreGiven command value

-- the name and the rows that a parse found are those of the command
abbrev pub IsFoundIn : Command → Option (List ℕ × List Row) → Type 0
IsFoundIn command found = IsSomeAnd found (λ p. IsGiven command p.0 (λ id. first_of id p.1))
