-- The program as `clap` sees it.
use Rattle.std.specs.Prelude.{ℕ, List, [], ◌∷◌, Bool, true, false, codes}
use Rattle.clap.specs.Simple.{App, Shape, new_rule, new_shape, with_subcommand}
use Rattle.clap.specs.Walk.{Rule}

-- a value of a command, which it may ask for
abbrev pub value_of : List ℕ → Bool → Rule
value_of id asked = record (new_rule id) { required = asked }

-- one that it asks for, and one that may be left out
abbrev pub value : List ℕ → Rule
value id = value_of id true

abbrev pub choice : List ℕ → Rule
choice id = value_of id false

-- the program without its commands: its first word is no name of a program, and it has no help
abbrev pub bare : App
bare = record {
  top = record (new_shape (codes "bureau")) {
    no_binary_name = true;
    disable_help_flag = true;
    disable_help_subcommand = true;
    subcommand_required = true;
  };
  subs = [];
}

-- a command with the values that it asks for
abbrev pub shape_of : List ℕ → List Rule → Shape
shape_of name rules = record (new_shape name) { rules = rules }

-- the program with one more command
abbrev pub knowing : List ℕ → List Rule → App → App
knowing name rules app = with_subcommand app (shape_of name rules)

-- the program with the commands that take no value
abbrev pub plain : App
plain = knowing (codes "audit") [] (knowing (codes "explain") [] (knowing (codes "check") []
    (knowing (codes "live") [] (knowing (codes "run") [] bare))))

-- the values of the table of claims
abbrev pub notices_values : List Rule
notices_values = value (codes "DATE") ∷ choice (codes "POOL") ∷ []

-- the values of a weighing
abbrev pub weigh_values : List Rule
weigh_values = value (codes "KIND") ∷ value (codes "DATE") ∷ []

-- the values of a statement, and of its pages
abbrev pub statement_values : List Rule
statement_values = value (codes "ROUND") ∷ choice (codes "POOL") ∷ []

-- the values of what came since
abbrev pub since_values : List Rule
since_values = value (codes "ACTS") ∷ choice (codes "POOL") ∷ []

-- the values of a register
abbrev pub account_values : List Rule
account_values = value (codes "FIRM") ∷ choice (codes "POOL") ∷ []

-- the values of a forecast
abbrev pub forecast_values : List Rule
forecast_values = value (codes "KIND") ∷ value (codes "DATE") ∷ choice (codes "POOL") ∷ []

-- the values of a trial
abbrev pub trial_values : List Rule
trial_values = value (codes "FIRMS") ∷ value (codes "CLAIMS") ∷ value (codes "SEED") ∷ []

-- the program with its commands
abbrev pub program : App
program = knowing (codes "trial") trial_values
    (knowing (codes "forecast") forecast_values
    (knowing (codes "parts") statement_values
    (knowing (codes "account") account_values
    (knowing (codes "seal") (choice (codes "ACTS") ∷ [])
    (knowing (codes "since") since_values
    (knowing (codes "pools") []
    (knowing (codes "statement") statement_values
    (knowing (codes "history") (choice (codes "POOL") ∷ [])
    (knowing (codes "weigh") weigh_values
    (knowing (codes "import") (value (codes "LANE") ∷ [])
    (knowing (codes "notices") notices_values
    (knowing (codes "positions") (choice (codes "POOL") ∷ []) plain))))))))))))
