-- What `clap` makes of the program's words.
use Rattle.std.proofs.Common.{true≢false, unwrap_or, ◌≡◌, ◌∙◌, ◌||◌, Bool, true, false, List, [], ◌∷◌, Option, Some, None, refl, ap, ap₂, sym, subst, codes, option_map}
use Rattle.std.specs.Prelude.{find, is_some}
use Rattle.std.specs.List.{fold, list_any}
use Rattle.std.specs.Str.{bytes_eq}
use Rattle.std.proofs.lemmas.Slice.Eq.{bytes_eq-Decides}
use Rattle.clap.specs.Lexer.{long_of, short_of}
use Rattle.clap.specs.Walk.{Names, Row, Rule, Text, Walk, answers_to, first_of, finished, nothing_held, settled, walk, walk_from, walked}
use Rattle.clap.specs.Simple.{App, Shape, built, built_leaf, inherited, entered, label_of, names_of, new_shape, rows_at, subcommand_of}
use Rattle.clap.specs.Kinds.{Kinds, or_else}
use Rattle.clap.specs.declared.error.kind.ErrorKind.{ErrorKind}
use Rattle.clap.specs.Faults.{check_fault, defaults_fault, entered_fault, fault_of, is_simple_and_free, level_fault, settle_fault, turn_fault, walk_fault}
use Rattle.clap.proofs.OnLiterals.{clap_on_literals}
use Rattle.clap.proofs.WalkLemmas.{walk_stopped}
use Rattle.clap.proofs.FaultLemmas.{stopped_fault}
use Rattle.command_words.specs.Program.{bare, choice, program, value}
use Rattle.command_words.specs.Words.{last_values}
use Rattle.command_words.specs.Reading.{is_option}

pub is_free : is_simple_and_free program ≡ true
is_free = refl

-- the word is no flag to `clap`
pub record IsPlain (word : Text) : Type 0 where
  pub dashes : bytes_eq word (45 ∷ 45 ∷ []) ≡ false
  pub long : long_of word ≡ None
  pub short : short_of word ≡ None

pub plain_of : (word : Text) → is_option word ≡ false → IsPlain word
plain_of [] e = record { dashes = refl; long = refl; short = refl }
plain_of (byte ∷ rest) e = record { dashes = rw e refl; long = rw e refl; short = rw e refl }

-- ---- the first word

abbrev pub whole : App
whole = built program

abbrev pub names : Names
names = names_of whole

abbrev pub start : Walk
start = walk_from nothing_held

-- the walk at a command's name, with the words after it
abbrev pub stopped_at : Text → List Text → Walk
stopped_at name rest = record start { stopped = Some (name, rest) }

-- the command of a name
abbrev pub named : Text → Option Shape
named name = find (λ s. answers_to name (label_of s)) whole.subs

-- the faults of the program by those of its first level and its walk
abbrev fault_by : Walk → Kinds → Kinds
fault_by w first = or_else first (or_else (entered_fault whole w.stopped) (or_else (settle_fault [] false w.held)
    (or_else (defaults_fault (settled [] w.held).rows []) (check_fault whole.top (finished [] w.held) (is_some (entered whole w.stopped))))))

-- the first word is the name of the command
pub record IsEntered (name : Text) (s : Shape) : Type 0 where
  pub walked_to : walked [] names start name ≡ stopped_at name []
  pub no_fault : turn_fault whole.top names start name ≡ []
  pub found : named name ≡ Some s

walk_is : (name : Text) (s : Shape) → IsEntered name s → (rest : List Text) → walk [] names nothing_held (name ∷ rest) ≡ stopped_at name rest
walk_is name s e rest = ap (λ (w : Walk). fold (walked [] names) w rest) e.walked_to ∙ sym (walk_stopped [] names start name [] rest)

walk_passes : (name : Text) (s : Shape) → IsEntered name s → (rest : List Text) → walk_fault whole.top names start (name ∷ rest) ≡ []
unfolding walk_fault
walk_passes name s e rest = ap₂ (λ (k : Kinds) (w : Walk). or_else k (walk_fault whole.top names w rest)) e.no_fault e.walked_to ∙ stopped_fault whole.top names start (name, []) rest

below_is : (name : Text) (s : Shape) → IsEntered name s → (rest : List Text) → fault_of program (name ∷ rest) ≡ or_else (level_fault s [] nothing_held rest false []) []
unfolding defaults_fault
below_is name s e rest = ap₂ fault_by (walk_is name s e rest) (walk_passes name s e rest) ∙ rw e.found refl

or_left : (first next : Kinds) → or_else first next ≡ [] → first ≡ []
or_left [] next e = refl
or_left (k ∷ ks) next e = e

taken_below : (name : Text) (s : Shape) → IsEntered name s → (rest : List Text) → fault_of program (name ∷ rest) ≡ [] → level_fault s [] nothing_held rest false [] ≡ []
taken_below name s e rest none = or_left _ [] (sym (below_is name s e rest) ∙ none)

-- ---- values

pub or_false : (a b : Bool) → (a || b) ≡ false → (a ≡ false) × (b ≡ false)
or_false true b e = absurd (true≢false e)
or_false false b e = (refl, e)

some_kind : {P : Type 0} (k : ErrorKind) (ks : Kinds) → k ∷ ks ≡ [] → P
some_kind k ks e = absurd (cc)

-- a command with its values, as it is built
abbrev pub leaf : Text → List Rule → Shape
leaf name rules = built_leaf (inherited bare.top (record (new_shape name) { rules = rules }))

no_values : (name : Text) (rest : List Text) → list_any is_option rest ≡ false → level_fault (leaf name []) [] nothing_held rest false [] ≡ [] → rest ≡ []
unfolding clap_on_literals
no_values name [] plain e = refl
no_values name (x ∷ xs) plain e =
    let p = plain_of x (or_false (is_option x) (list_any is_option xs) plain).0 in
    some_kind _ _ (rw (p.dashes, p.long, p.short) at e)

-- the one value of a command
one_value : (name id : Text) (rest : List Text) → list_any is_option rest ≡ false → level_fault (leaf name (value id ∷ [])) [] nothing_held rest false [] ≡ []
    → (x : Text) × (rest ≡ x ∷ [])
unfolding clap_on_literals
one_value name id [] plain e = some_kind _ _ e
one_value name id (x ∷ []) plain e = (x, refl)
one_value name id (x ∷ y ∷ xs) plain e =
    let first = or_false (is_option x) (list_any is_option (y ∷ xs)) plain in
    let p = plain_of x first.0 in
    let q = plain_of y (or_false (is_option y) (list_any is_option xs) first.1).0 in
    some_kind _ _ (rw (p.dashes, p.long, p.short, q.dashes, q.long, q.short) at e)

-- the one value of a command that may be left out
one_choice : (name id : Text) (rest : List Text) → list_any is_option rest ≡ false → level_fault (leaf name (choice id ∷ [])) [] nothing_held rest false [] ≡ []
    → (x : Option Text) × (rest ≡ last_values x)
unfolding clap_on_literals
one_choice name id [] plain e = (None, refl)
one_choice name id (x ∷ []) plain e = (Some x, refl)
one_choice name id (x ∷ y ∷ xs) plain e =
    let first = or_false (is_option x) (list_any is_option (y ∷ xs)) plain in
    let p = plain_of x first.0 in
    let q = plain_of y (or_false (is_option y) (list_any is_option xs) first.1).0 in
    some_kind _ _ (rw (p.dashes, p.long, p.short, q.dashes, q.long, q.short) at e)

-- a value, and a pool that may be left out
abbrev pub pool_leaf : Text → Text → Shape
pool_leaf name id = leaf name (value id ∷ choice (codes "POOL") ∷ [])

-- the name of the value that is asked for
pub data IsAsked : Text → Type 0 where
  date : IsAsked (codes "DATE")
  round : IsAsked (codes "ROUND")
  acts : IsAsked (codes "ACTS")
  firm : IsAsked (codes "FIRM")

too_many_values : {P : Type 0} (name id : Text) → IsAsked id → (x y other : Text) (xs : List Text) → IsPlain x → IsPlain y → IsPlain other
    → level_fault (pool_leaf name id) [] nothing_held (x ∷ y ∷ other ∷ xs) false [] ≡ [] → P
unfolding clap_on_literals
too_many_values name id date x y other xs p q r e = some_kind _ _ (rw (p.dashes, p.long, p.short, q.dashes, q.long, q.short, r.dashes, r.long, r.short) at e)
too_many_values name id round x y other xs p q r e = some_kind _ _ (rw (p.dashes, p.long, p.short, q.dashes, q.long, q.short, r.dashes, r.long, r.short) at e)
too_many_values name id acts x y other xs p q r e = some_kind _ _ (rw (p.dashes, p.long, p.short, q.dashes, q.long, q.short, r.dashes, r.long, r.short) at e)
too_many_values name id firm x y other xs p q r e = some_kind _ _ (rw (p.dashes, p.long, p.short, q.dashes, q.long, q.short, r.dashes, r.long, r.short) at e)

one_or_two_values : (name id : Text) → IsAsked id → (rest : List Text) → list_any is_option rest ≡ false → level_fault (pool_leaf name id) [] nothing_held rest false [] ≡ []
    → (x : Text) × ((y : Option Text) × (rest ≡ x ∷ last_values y))
unfolding clap_on_literals
one_or_two_values name id asked [] plain e = some_kind _ _ e
one_or_two_values name id asked (x ∷ []) plain e = (x, (None, refl))
one_or_two_values name id asked (x ∷ y ∷ []) plain e = (x, (Some y, refl))
one_or_two_values name id asked (x ∷ y ∷ other ∷ xs) plain e =
    let first = or_false (is_option x) (list_any is_option (y ∷ other ∷ xs)) plain in
    let second = or_false (is_option y) (list_any is_option (other ∷ xs)) first.1 in
    let third = or_false (is_option other) (list_any is_option xs) second.1 in
    too_many_values name id asked x y other xs (plain_of x first.0) (plain_of y second.0) (plain_of other third.0) e

-- the values of a weighing
abbrev weigh_leaf : Shape
weigh_leaf = leaf (codes "weigh") (value (codes "KIND") ∷ value (codes "DATE") ∷ [])

two_values : (rest : List Text) → list_any is_option rest ≡ false → level_fault weigh_leaf [] nothing_held rest false [] ≡ []
    → (x y : Text) × (rest ≡ x ∷ y ∷ [])
unfolding clap_on_literals
two_values [] plain e = some_kind _ _ e
two_values (x ∷ []) plain e =
    let p = plain_of x (or_false (is_option x) false plain).0 in
    some_kind _ _ (rw (p.dashes, p.long, p.short) at e)
two_values (x ∷ y ∷ []) plain e = (x, y, refl)
two_values (x ∷ y ∷ other ∷ xs) plain e =
    let first = or_false (is_option x) (list_any is_option (y ∷ other ∷ xs)) plain in
    let second = or_false (is_option y) (list_any is_option (other ∷ xs)) first.1 in
    let p = plain_of x first.0 in
    let q = plain_of y second.0 in
    let r = plain_of other (or_false (is_option other) (list_any is_option xs) second.1).0 in
    some_kind _ _ (rw (p.dashes, p.long, p.short, q.dashes, q.long, q.short, r.dashes, r.long, r.short) at e)

-- the values of a forecast, the last of which may be left out
abbrev forecast_leaf : Shape
forecast_leaf = leaf (codes "forecast") (value (codes "KIND") ∷ value (codes "DATE") ∷ choice (codes "POOL") ∷ [])

two_or_three_values : (rest : List Text) → list_any is_option rest ≡ false → level_fault forecast_leaf [] nothing_held rest false [] ≡ []
    → (x y : Text) × ((z : Option Text) × (rest ≡ x ∷ y ∷ last_values z))
unfolding clap_on_literals
two_or_three_values [] plain e = some_kind _ _ e
two_or_three_values (x ∷ []) plain e =
    let p = plain_of x (or_false (is_option x) false plain).0 in
    some_kind _ _ (rw (p.dashes, p.long, p.short) at e)
two_or_three_values (x ∷ y ∷ []) plain e = (x, y, (None, refl))
two_or_three_values (x ∷ y ∷ z ∷ []) plain e = (x, y, (Some z, refl))
two_or_three_values (x ∷ y ∷ z ∷ other ∷ xs) plain e =
    let first = or_false (is_option x) (list_any is_option (y ∷ z ∷ other ∷ xs)) plain in
    let second = or_false (is_option y) (list_any is_option (z ∷ other ∷ xs)) first.1 in
    let third = or_false (is_option z) (list_any is_option (other ∷ xs)) second.1 in
    let p = plain_of x first.0 in
    let q = plain_of y second.0 in
    let r = plain_of z third.0 in
    let s = plain_of other (or_false (is_option other) (list_any is_option xs) third.1).0 in
    some_kind _ _ (rw (p.dashes, p.long, p.short, q.dashes, q.long, q.short, r.dashes, r.long, r.short, s.dashes, s.long, s.short) at e)

-- the values of a trial
abbrev trial_leaf : Shape
trial_leaf = leaf (codes "trial") (value (codes "FIRMS") ∷ value (codes "CLAIMS") ∷ value (codes "SEED") ∷ [])

three_values : (rest : List Text) → list_any is_option rest ≡ false → level_fault trial_leaf [] nothing_held rest false [] ≡ []
    → (x y z : Text) × (rest ≡ x ∷ y ∷ z ∷ [])
unfolding clap_on_literals
three_values [] plain e = some_kind _ _ e
three_values (x ∷ []) plain e =
    let p = plain_of x (or_false (is_option x) false plain).0 in
    some_kind _ _ (rw (p.dashes, p.long, p.short) at e)
three_values (x ∷ y ∷ []) plain e =
    let first = or_false (is_option x) (list_any is_option (y ∷ [])) plain in
    let p = plain_of x first.0 in
    let q = plain_of y (or_false (is_option y) false first.1).0 in
    some_kind _ _ (rw (p.dashes, p.long, p.short, q.dashes, q.long, q.short) at e)
three_values (x ∷ y ∷ z ∷ []) plain e = (x, y, z, refl)
three_values (x ∷ y ∷ z ∷ other ∷ xs) plain e =
    let first = or_false (is_option x) (list_any is_option (y ∷ z ∷ other ∷ xs)) plain in
    let second = or_false (is_option y) (list_any is_option (z ∷ other ∷ xs)) first.1 in
    let third = or_false (is_option z) (list_any is_option (other ∷ xs)) second.1 in
    let p = plain_of x first.0 in
    let q = plain_of y second.0 in
    let r = plain_of z third.0 in
    let s = plain_of other (or_false (is_option other) (list_any is_option xs) third.1).0 in
    some_kind _ _ (rw (p.dashes, p.long, p.short, q.dashes, q.long, q.short, r.dashes, r.long, r.short, s.dashes, s.long, s.short) at e)

-- ---- the commands

pub run_entered : IsEntered (codes "run") (leaf (codes "run") [])
unfolding clap_on_literals
run_entered = record { walked_to = refl; no_fault = refl; found = refl }

pub live_entered : IsEntered (codes "live") (leaf (codes "live") [])
unfolding clap_on_literals
live_entered = record { walked_to = refl; no_fault = refl; found = refl }

pub check_entered : IsEntered (codes "check") (leaf (codes "check") [])
unfolding clap_on_literals
check_entered = record { walked_to = refl; no_fault = refl; found = refl }

pub explain_entered : IsEntered (codes "explain") (leaf (codes "explain") [])
unfolding clap_on_literals
explain_entered = record { walked_to = refl; no_fault = refl; found = refl }

pub audit_entered : IsEntered (codes "audit") (leaf (codes "audit") [])
unfolding clap_on_literals
audit_entered = record { walked_to = refl; no_fault = refl; found = refl }

pub positions_entered : IsEntered (codes "positions") (leaf (codes "positions") (choice (codes "POOL") ∷ []))
unfolding clap_on_literals
positions_entered = record { walked_to = refl; no_fault = refl; found = refl }

pub notices_entered : IsEntered (codes "notices") (pool_leaf (codes "notices") (codes "DATE"))
unfolding clap_on_literals
notices_entered = record { walked_to = refl; no_fault = refl; found = refl }

pub import_entered : IsEntered (codes "import") (leaf (codes "import") (value (codes "LANE") ∷ []))
unfolding clap_on_literals
import_entered = record { walked_to = refl; no_fault = refl; found = refl }

pub weigh_entered : IsEntered (codes "weigh") weigh_leaf
unfolding clap_on_literals
weigh_entered = record { walked_to = refl; no_fault = refl; found = refl }

pub history_entered : IsEntered (codes "history") (leaf (codes "history") (choice (codes "POOL") ∷ []))
unfolding clap_on_literals
history_entered = record { walked_to = refl; no_fault = refl; found = refl }

pub statement_entered : IsEntered (codes "statement") (pool_leaf (codes "statement") (codes "ROUND"))
unfolding clap_on_literals
statement_entered = record { walked_to = refl; no_fault = refl; found = refl }

pub pools_entered : IsEntered (codes "pools") (leaf (codes "pools") [])
unfolding clap_on_literals
pools_entered = record { walked_to = refl; no_fault = refl; found = refl }

pub since_entered : IsEntered (codes "since") (pool_leaf (codes "since") (codes "ACTS"))
unfolding clap_on_literals
since_entered = record { walked_to = refl; no_fault = refl; found = refl }

pub seal_entered : IsEntered (codes "seal") (leaf (codes "seal") (choice (codes "ACTS") ∷ []))
unfolding clap_on_literals
seal_entered = record { walked_to = refl; no_fault = refl; found = refl }

pub account_entered : IsEntered (codes "account") (pool_leaf (codes "account") (codes "FIRM"))
unfolding clap_on_literals
account_entered = record { walked_to = refl; no_fault = refl; found = refl }

pub parts_entered : IsEntered (codes "parts") (pool_leaf (codes "parts") (codes "ROUND"))
unfolding clap_on_literals
parts_entered = record { walked_to = refl; no_fault = refl; found = refl }

pub forecast_entered : IsEntered (codes "forecast") forecast_leaf
unfolding clap_on_literals
forecast_entered = record { walked_to = refl; no_fault = refl; found = refl }

pub trial_entered : IsEntered (codes "trial") trial_leaf
unfolding clap_on_literals
trial_entered = record { walked_to = refl; no_fault = refl; found = refl }

-- the word is no command's name
record IsUnknown (w : Text) : Type 0 where
  pub run : bytes_eq (codes "run") w ≡ false
  pub live : bytes_eq (codes "live") w ≡ false
  pub check : bytes_eq (codes "check") w ≡ false
  pub explain : bytes_eq (codes "explain") w ≡ false
  pub audit : bytes_eq (codes "audit") w ≡ false
  pub positions : bytes_eq (codes "positions") w ≡ false
  pub notices : bytes_eq (codes "notices") w ≡ false
  pub import_ : bytes_eq (codes "import") w ≡ false
  pub weigh : bytes_eq (codes "weigh") w ≡ false
  pub history : bytes_eq (codes "history") w ≡ false
  pub statement : bytes_eq (codes "statement") w ≡ false
  pub pools : bytes_eq (codes "pools") w ≡ false
  pub since : bytes_eq (codes "since") w ≡ false
  pub seal : bytes_eq (codes "seal") w ≡ false
  pub account : bytes_eq (codes "account") w ≡ false
  pub parts : bytes_eq (codes "parts") w ≡ false
  pub forecast : bytes_eq (codes "forecast") w ≡ false
  pub trial : bytes_eq (codes "trial") w ≡ false

unknown_refused : {P : Type 0} (w : Text) (rest : List Text) → IsPlain w → IsUnknown w → fault_of program (w ∷ rest) ≡ [] → P
unfolding clap_on_literals
unknown_refused w rest p u e = some_kind _ _ (rw (u.run, u.live, u.check, u.explain, u.audit, u.positions, u.notices, u.import_, u.weigh, u.history, u.statement, u.pools, u.since, u.seal, u.account, u.parts, u.forecast, u.trial, p.dashes, p.long, p.short) at e)

pub sub_is : (name : Text) (s : Shape) → IsEntered name s → (rest : List Text) → subcommand_of program (name ∷ rest) ≡ Some (rows_at s rest)
sub_is name s e rest = ap (λ (w : Walk). entered whole w.stopped) (walk_is name s e rest) ∙ rw e.found refl

abbrev pair_or : {X Y : Type 0} → X × Y → Option (X × Y) → X × Y
pair_or p o = unwrap_or o p

pub known_name : (name : Text) (s : Shape) → IsEntered name s → s.name ≡ name → (rest : List Text) (found : Text) (rows : List Row)
    → subcommand_of program (name ∷ rest) ≡ Some (found, rows) → found ≡ name
known_name name s e is rest found rows h = sym (ap (λ (o : Option (Text × List Row)). (pair_or (found, rows) o).0) (sym (sub_is name s e rest) ∙ h)) ∙ is

decided : (P : Text → Type 0) (name w : Text) → P name → (bytes_eq name w ≡ false → P w) → P w
decided P name w here other = go (bytes_eq name w) refl
  where
    go : (b : Bool) → bytes_eq name w ≡ b → P w
    go true e = subst P ((bytes_eq-Decides name w).0 e) here
    go false e = other e

-- the command that the parse found is that of the first word
pub first_is : (w : Text) → is_option w ≡ false → (rest : List Text) → fault_of program (w ∷ rest) ≡ [] → (found : Text) (rows : List Row)
    → subcommand_of program (w ∷ rest) ≡ Some (found, rows) → found ≡ w
first_is w plain rest none found rows =
    let P : Text → Type 0 = λ word. fault_of program (word ∷ rest) ≡ [] → subcommand_of program (word ∷ rest) ≡ Some (found, rows) → found ≡ word in
    decided P (codes "run") w (λ _. known_name _ _ run_entered refl rest found rows)
    (λ run. decided P (codes "live") w (λ _. known_name _ _ live_entered refl rest found rows)
    (λ live. decided P (codes "check") w (λ _. known_name _ _ check_entered refl rest found rows)
    (λ check. decided P (codes "explain") w (λ _. known_name _ _ explain_entered refl rest found rows)
    (λ explain. decided P (codes "audit") w (λ _. known_name _ _ audit_entered refl rest found rows)
    (λ audit. decided P (codes "positions") w (λ _. known_name _ _ positions_entered refl rest found rows)
    (λ positions. decided P (codes "notices") w (λ _. known_name _ _ notices_entered refl rest found rows)
    (λ notices. decided P (codes "import") w (λ _. known_name _ _ import_entered refl rest found rows)
    (λ import_. decided P (codes "weigh") w (λ _. known_name _ _ weigh_entered refl rest found rows)
    (λ weigh. decided P (codes "history") w (λ _. known_name _ _ history_entered refl rest found rows)
    (λ history. decided P (codes "statement") w (λ _. known_name _ _ statement_entered refl rest found rows)
    (λ statement. decided P (codes "pools") w (λ _. known_name _ _ pools_entered refl rest found rows)
    (λ pools. decided P (codes "since") w (λ _. known_name _ _ since_entered refl rest found rows)
    (λ since. decided P (codes "seal") w (λ _. known_name _ _ seal_entered refl rest found rows)
    (λ seal. decided P (codes "account") w (λ _. known_name _ _ account_entered refl rest found rows)
    (λ account. decided P (codes "parts") w (λ _. known_name _ _ parts_entered refl rest found rows)
    (λ parts. decided P (codes "forecast") w (λ _. known_name _ _ forecast_entered refl rest found rows)
    (λ forecast. decided P (codes "trial") w (λ _. known_name _ _ trial_entered refl rest found rows)
    (λ trial. λ e _. unknown_refused w rest (plain_of w plain)
    (record { run = run; live = live; check = check; explain = explain; audit = audit; positions = positions; notices = notices; import_ = import_; weigh = weigh; history = history; statement = statement; pools = pools; since = since; seal = seal; account = account; parts = parts; forecast = forecast; trial = trial })
    e)))))))))))))))))) none

-- a first word is asked for
pub no_words : {P : Type 0} → fault_of program [] ≡ [] → P
unfolding clap_on_literals
no_words e = some_kind _ _ e

-- ---- what was found

-- what is found is what the words have
pub found_is : {X : Type 0} (f : Text × List Row → X) (words : List Text) (x : X) → option_map f (subcommand_of program words) ≡ Some x → (found : Text) (rows : List Row)
    → subcommand_of program words ≡ Some (found, rows) → f (found, rows) ≡ x
found_is f words x known found rows is = ap (λ o. unwrap_or o x) (sym (ap (option_map f) is) ∙ known)

abbrev pub name_and : Text → Text × List Row → Text × Option Text
name_and id p = (p.0, first_of id p.1)

-- a value, where there is one, is no flag
abbrev pub IsPlainLast : Option Text → Type 0
IsPlainLast None = Unit {0}
IsPlainLast (Some value) = IsPlain value

pub positions_values : (pool : Option Text) → IsPlainLast pool
    → option_map (name_and (codes "POOL")) (subcommand_of program (codes "positions" ∷ last_values pool)) ≡ Some (codes "positions", pool)
unfolding clap_on_literals
positions_values None p = refl
positions_values (Some x) p = rw (p.dashes, p.long, p.short) refl

pub history_values : (pool : Option Text) → IsPlainLast pool
    → option_map (name_and (codes "POOL")) (subcommand_of program (codes "history" ∷ last_values pool)) ≡ Some (codes "history", pool)
unfolding clap_on_literals
history_values None p = refl
history_values (Some x) p = rw (p.dashes, p.long, p.short) refl

-- a value and a pool
abbrev pub name_and_pool : Text → Text × List Row → Text × Option Text × Option Text
name_and_pool id p = (p.0, first_of id p.1, first_of (codes "POOL") p.1)

pub notices_values : (x : Text) (pool : Option Text) → IsPlain x → IsPlainLast pool
    → option_map (name_and_pool (codes "DATE")) (subcommand_of program (codes "notices" ∷ x ∷ last_values pool)) ≡ Some (codes "notices", Some x, pool)
unfolding clap_on_literals
notices_values x None p q = rw (p.dashes, p.long, p.short) refl
notices_values x (Some y) p q = rw (p.dashes, p.long, p.short, q.dashes, q.long, q.short) refl

pub statement_values : (x : Text) (pool : Option Text) → IsPlain x → IsPlainLast pool
    → option_map (name_and_pool (codes "ROUND")) (subcommand_of program (codes "statement" ∷ x ∷ last_values pool)) ≡ Some (codes "statement", Some x, pool)
unfolding clap_on_literals
statement_values x None p q = rw (p.dashes, p.long, p.short) refl
statement_values x (Some y) p q = rw (p.dashes, p.long, p.short, q.dashes, q.long, q.short) refl

pub seal_values : (acts : Option Text) → IsPlainLast acts
    → option_map (name_and (codes "ACTS")) (subcommand_of program (codes "seal" ∷ last_values acts)) ≡ Some (codes "seal", acts)
unfolding clap_on_literals
seal_values None p = refl
seal_values (Some x) p = rw (p.dashes, p.long, p.short) refl

pub since_values : (x : Text) (pool : Option Text) → IsPlain x → IsPlainLast pool
    → option_map (name_and_pool (codes "ACTS")) (subcommand_of program (codes "since" ∷ x ∷ last_values pool)) ≡ Some (codes "since", Some x, pool)
unfolding clap_on_literals
since_values x None p q = rw (p.dashes, p.long, p.short) refl
since_values x (Some y) p q = rw (p.dashes, p.long, p.short, q.dashes, q.long, q.short) refl

pub account_values : (x : Text) (pool : Option Text) → IsPlain x → IsPlainLast pool
    → option_map (name_and_pool (codes "FIRM")) (subcommand_of program (codes "account" ∷ x ∷ last_values pool)) ≡ Some (codes "account", Some x, pool)
unfolding clap_on_literals
account_values x None p q = rw (p.dashes, p.long, p.short) refl
account_values x (Some y) p q = rw (p.dashes, p.long, p.short, q.dashes, q.long, q.short) refl

pub parts_values : (x : Text) (pool : Option Text) → IsPlain x → IsPlainLast pool
    → option_map (name_and_pool (codes "ROUND")) (subcommand_of program (codes "parts" ∷ x ∷ last_values pool)) ≡ Some (codes "parts", Some x, pool)
unfolding clap_on_literals
parts_values x None p q = rw (p.dashes, p.long, p.short) refl
parts_values x (Some y) p q = rw (p.dashes, p.long, p.short, q.dashes, q.long, q.short) refl

abbrev pub name_and_two_and_pool : Text × List Row → Text × Option Text × Option Text × Option Text
name_and_two_and_pool p = (p.0, first_of (codes "KIND") p.1, first_of (codes "DATE") p.1, first_of (codes "POOL") p.1)

pub forecast_values : (x y : Text) (pool : Option Text) → IsPlain x → IsPlain y → IsPlainLast pool
    → option_map name_and_two_and_pool (subcommand_of program (codes "forecast" ∷ x ∷ y ∷ last_values pool)) ≡ Some (codes "forecast", Some x, Some y, pool)
unfolding clap_on_literals
forecast_values x y None p q r = rw (p.dashes, p.long, p.short, q.dashes, q.long, q.short) refl
forecast_values x y (Some z) p q r = rw (p.dashes, p.long, p.short, q.dashes, q.long, q.short, r.dashes, r.long, r.short) refl

pub import_values : (x : Text) → IsPlain x → option_map (name_and (codes "LANE")) (subcommand_of program (codes "import" ∷ x ∷ [])) ≡ Some (codes "import", Some x)
unfolding clap_on_literals
import_values x p = rw (p.dashes, p.long, p.short) refl

abbrev pub name_and_two : Text × List Row → Text × Option Text × Option Text
name_and_two p = (p.0, first_of (codes "KIND") p.1, first_of (codes "DATE") p.1)

pub weigh_values : (x y : Text) → IsPlain x → IsPlain y → option_map name_and_two (subcommand_of program (codes "weigh" ∷ x ∷ y ∷ [])) ≡ Some (codes "weigh", Some x, Some y)
unfolding clap_on_literals
weigh_values x y p q = rw (p.dashes, p.long, p.short, q.dashes, q.long, q.short) refl

abbrev pub name_and_three : Text × List Row → Text × Option Text × Option Text × Option Text
name_and_three p = (p.0, first_of (codes "FIRMS") p.1, first_of (codes "CLAIMS") p.1, first_of (codes "SEED") p.1)

pub trial_values : (x y z : Text) → IsPlain x → IsPlain y → IsPlain z → option_map name_and_three (subcommand_of program (codes "trial" ∷ x ∷ y ∷ z ∷ [])) ≡ Some (codes "trial", Some x, Some y, Some z)
unfolding clap_on_literals
trial_values x y z p q r = rw (p.dashes, p.long, p.short, q.dashes, q.long, q.short, r.dashes, r.long, r.short) refl

-- ---- the words that were taken

pub plain_rest : (name : Text) → IsEntered name (leaf name []) → (rest : List Text) → list_any is_option rest ≡ false → fault_of program (name ∷ rest) ≡ [] → rest ≡ []
plain_rest name e rest plain none = no_values name rest plain (taken_below name (leaf name []) e rest none)

some_text : {x y : Text} → Some x ≡ Some y → x ≡ y
some_text {x} {y} e = ap (λ o. unwrap_or o x) e

-- the rest is the one value that was found
pub one_rest : (name id : Text) → IsEntered name (leaf name (value id ∷ [])) → ((x : Text) → IsPlain x → option_map (name_and id) (subcommand_of program (name ∷ x ∷ [])) ≡ Some (name, Some x))
    → (rest : List Text) → list_any is_option rest ≡ false → fault_of program (name ∷ rest) ≡ [] → (found : Text) (rows : List Row)
    → subcommand_of program (name ∷ rest) ≡ Some (found, rows) → (text : Text) → first_of id rows ≡ Some text → rest ≡ text ∷ []
one_rest name id e values rest plain none found rows is text given =
    let one = one_value name id rest plain (taken_below name _ e rest none) in
    let x = one.0 in
    let p = plain_of x (or_false (is_option x) false (ap (list_any is_option) (sym one.1) ∙ plain)).0 in
    let at : subcommand_of program (name ∷ x ∷ []) ≡ Some (found, rows) = ap (λ (r : List Text). subcommand_of program (name ∷ r)) (sym one.1) ∙ is in
    let value_is : first_of id rows ≡ Some x = ap (λ (q : Text × Option Text). q.1) (found_is (name_and id) (name ∷ x ∷ []) (name, Some x) (values x p) found rows at) in
    one.1 ∙ ap (λ (t : Text). t ∷ []) (some_text (sym value_is ∙ given))

plain_last : (pool : Option Text) → list_any is_option (last_values pool) ≡ false → IsPlainLast pool
plain_last None plain = tt
plain_last (Some x) plain = plain_of x (or_false (is_option x) false plain).0

-- the rest is the value that was found, if there is one
pub last_rest : (name id : Text) → IsEntered name (leaf name (choice id ∷ []))
    → ((last : Option Text) → IsPlainLast last → option_map (name_and id) (subcommand_of program (name ∷ last_values last)) ≡ Some (name, last))
    → (rest : List Text) → list_any is_option rest ≡ false → fault_of program (name ∷ rest) ≡ [] → (found : Text) (rows : List Row)
    → subcommand_of program (name ∷ rest) ≡ Some (found, rows) → (last : Option Text) → first_of id rows ≡ last → rest ≡ last_values last
last_rest name id entered values rest plain none found rows is last given =
    let one = one_choice name id rest plain (taken_below name _ entered rest none) in
    let x = one.0 in
    let p = plain_last x (ap (list_any is_option) (sym one.1) ∙ plain) in
    let at : subcommand_of program (name ∷ last_values x) ≡ Some (found, rows) = ap (λ (r : List Text). subcommand_of program (name ∷ r)) (sym one.1) ∙ is in
    let value_is = ap (λ (q : Text × Option Text). q.1) (found_is (name_and id) (name ∷ last_values x) (name, x) (values x p) found rows at) in
    one.1 ∙ ap last_values (sym value_is ∙ given)

pub seal_rest : (rest : List Text) → list_any is_option rest ≡ false → fault_of program (codes "seal" ∷ rest) ≡ [] → (found : Text) (rows : List Row)
    → subcommand_of program (codes "seal" ∷ rest) ≡ Some (found, rows) → (acts : Option Text) → first_of (codes "ACTS") rows ≡ acts → rest ≡ last_values acts
seal_rest = last_rest (codes "seal") (codes "ACTS") seal_entered seal_values

pub positions_rest : (rest : List Text) → list_any is_option rest ≡ false → fault_of program (codes "positions" ∷ rest) ≡ [] → (found : Text) (rows : List Row)
    → subcommand_of program (codes "positions" ∷ rest) ≡ Some (found, rows) → (pool : Option Text) → first_of (codes "POOL") rows ≡ pool → rest ≡ last_values pool
positions_rest = last_rest (codes "positions") (codes "POOL") positions_entered positions_values

pub history_rest : (rest : List Text) → list_any is_option rest ≡ false → fault_of program (codes "history" ∷ rest) ≡ [] → (found : Text) (rows : List Row)
    → subcommand_of program (codes "history" ∷ rest) ≡ Some (found, rows) → (pool : Option Text) → first_of (codes "POOL") rows ≡ pool → rest ≡ last_values pool
history_rest = last_rest (codes "history") (codes "POOL") history_entered history_values

-- the rest is a value and the pool that was found, if there is one
pub value_pool_rest : (name id : Text) → IsAsked id → IsEntered name (pool_leaf name id)
    → ((x : Text) (pool : Option Text) → IsPlain x → IsPlainLast pool
    → option_map (name_and_pool id) (subcommand_of program (name ∷ x ∷ last_values pool)) ≡ Some (name, Some x, pool))
    → (rest : List Text) → list_any is_option rest ≡ false → fault_of program (name ∷ rest) ≡ [] → (found : Text) (rows : List Row)
    → subcommand_of program (name ∷ rest) ≡ Some (found, rows) → (text : Text) (pool : Option Text) → first_of id rows ≡ Some text
    → first_of (codes "POOL") rows ≡ pool → rest ≡ text ∷ last_values pool
value_pool_rest name id asked entered values_are rest plain none found rows is text pool ex ey =
    let two = one_or_two_values name id asked rest plain (taken_below name _ entered rest none) in
    let u = two.0 in
    let v = two.1.0 in
    let parts = or_false (is_option u) (list_any is_option (last_values v)) (ap (list_any is_option) (sym two.1.1) ∙ plain) in
    let at : subcommand_of program (name ∷ u ∷ last_values v) ≡ Some (found, rows) = ap (λ (r : List Text). subcommand_of program (name ∷ r)) (sym two.1.1) ∙ is in
    let values = found_is (name_and_pool id) (name ∷ u ∷ last_values v) (name, Some u, v) (values_are u v (plain_of u parts.0) (plain_last v parts.1)) found rows at in
    let a : u ≡ text = some_text (sym (ap (λ (q : Text × Option Text × Option Text). q.1) values) ∙ ex) in
    let b : v ≡ pool = sym (ap (λ (q : Text × Option Text × Option Text). q.2) values) ∙ ey in
    two.1.1 ∙ rw (a, b) refl

pub notices_rest : (rest : List Text) → list_any is_option rest ≡ false → fault_of program (codes "notices" ∷ rest) ≡ [] → (found : Text) (rows : List Row)
    → subcommand_of program (codes "notices" ∷ rest) ≡ Some (found, rows) → (text : Text) (pool : Option Text) → first_of (codes "DATE") rows ≡ Some text
    → first_of (codes "POOL") rows ≡ pool → rest ≡ text ∷ last_values pool
notices_rest = value_pool_rest (codes "notices") (codes "DATE") date notices_entered notices_values

pub statement_rest : (rest : List Text) → list_any is_option rest ≡ false → fault_of program (codes "statement" ∷ rest) ≡ [] → (found : Text) (rows : List Row)
    → subcommand_of program (codes "statement" ∷ rest) ≡ Some (found, rows) → (text : Text) (pool : Option Text) → first_of (codes "ROUND") rows ≡ Some text
    → first_of (codes "POOL") rows ≡ pool → rest ≡ text ∷ last_values pool
statement_rest = value_pool_rest (codes "statement") (codes "ROUND") round statement_entered statement_values

pub since_rest : (rest : List Text) → list_any is_option rest ≡ false → fault_of program (codes "since" ∷ rest) ≡ [] → (found : Text) (rows : List Row)
    → subcommand_of program (codes "since" ∷ rest) ≡ Some (found, rows) → (text : Text) (pool : Option Text) → first_of (codes "ACTS") rows ≡ Some text
    → first_of (codes "POOL") rows ≡ pool → rest ≡ text ∷ last_values pool
since_rest = value_pool_rest (codes "since") (codes "ACTS") acts since_entered since_values

pub account_rest : (rest : List Text) → list_any is_option rest ≡ false → fault_of program (codes "account" ∷ rest) ≡ [] → (found : Text) (rows : List Row)
    → subcommand_of program (codes "account" ∷ rest) ≡ Some (found, rows) → (text : Text) (pool : Option Text) → first_of (codes "FIRM") rows ≡ Some text
    → first_of (codes "POOL") rows ≡ pool → rest ≡ text ∷ last_values pool
account_rest = value_pool_rest (codes "account") (codes "FIRM") firm account_entered account_values

pub parts_rest : (rest : List Text) → list_any is_option rest ≡ false → fault_of program (codes "parts" ∷ rest) ≡ [] → (found : Text) (rows : List Row)
    → subcommand_of program (codes "parts" ∷ rest) ≡ Some (found, rows) → (text : Text) (pool : Option Text) → first_of (codes "ROUND") rows ≡ Some text
    → first_of (codes "POOL") rows ≡ pool → rest ≡ text ∷ last_values pool
parts_rest = value_pool_rest (codes "parts") (codes "ROUND") round parts_entered parts_values

pub forecast_rest : (rest : List Text) → list_any is_option rest ≡ false → fault_of program (codes "forecast" ∷ rest) ≡ [] → (found : Text) (rows : List Row)
    → subcommand_of program (codes "forecast" ∷ rest) ≡ Some (found, rows) → (x y : Text) (pool : Option Text) → first_of (codes "KIND") rows ≡ Some x
    → first_of (codes "DATE") rows ≡ Some y → first_of (codes "POOL") rows ≡ pool → rest ≡ x ∷ y ∷ last_values pool
forecast_rest rest plain none found rows is x y pool ex ey ez =
    let three = two_or_three_values rest plain (taken_below (codes "forecast") _ forecast_entered rest none) in
    let u = three.0 in
    let v = three.1 in
    let w = three.2.0 in
    let first = or_false (is_option u) (list_any is_option (v ∷ last_values w)) (ap (list_any is_option) (sym three.2.1) ∙ plain) in
    let second = or_false (is_option v) (list_any is_option (last_values w)) first.1 in
    let at : subcommand_of program (codes "forecast" ∷ u ∷ v ∷ last_values w) ≡ Some (found, rows) = ap (λ (r : List Text). subcommand_of program (codes "forecast" ∷ r)) (sym three.2.1) ∙ is in
    let values = found_is name_and_two_and_pool (codes "forecast" ∷ u ∷ v ∷ last_values w) (codes "forecast", Some u, Some v, w)
    (forecast_values u v w (plain_of u first.0) (plain_of v second.0) (plain_last w second.1)) found rows at in
    let a : u ≡ x = some_text (sym (ap (λ (q : Text × Option Text × Option Text × Option Text). q.1) values) ∙ ex) in
    let b : v ≡ y = some_text (sym (ap (λ (q : Text × Option Text × Option Text × Option Text). q.2) values) ∙ ey) in
    let c : w ≡ pool = sym (ap (λ (q : Text × Option Text × Option Text × Option Text). q.3) values) ∙ ez in
    three.2.1 ∙ rw (a, b, c) refl

pub import_rest : (rest : List Text) → list_any is_option rest ≡ false → fault_of program (codes "import" ∷ rest) ≡ [] → (found : Text) (rows : List Row)
    → subcommand_of program (codes "import" ∷ rest) ≡ Some (found, rows) → (text : Text) → first_of (codes "LANE") rows ≡ Some text → rest ≡ text ∷ []
import_rest = one_rest (codes "import") (codes "LANE") import_entered import_values

pub weigh_rest : (rest : List Text) → list_any is_option rest ≡ false → fault_of program (codes "weigh" ∷ rest) ≡ [] → (found : Text) (rows : List Row)
    → subcommand_of program (codes "weigh" ∷ rest) ≡ Some (found, rows) → (x y : Text) → first_of (codes "KIND") rows ≡ Some x → first_of (codes "DATE") rows ≡ Some y
    → rest ≡ x ∷ y ∷ []
weigh_rest rest plain none found rows is x y ex ey =
    let two = two_values rest plain (taken_below (codes "weigh") _ weigh_entered rest none) in
    let u = two.0 in
    let v = two.1 in
    let first = or_false (is_option u) (list_any is_option (v ∷ [])) (ap (list_any is_option) (sym two.2) ∙ plain) in
    let at : subcommand_of program (codes "weigh" ∷ u ∷ v ∷ []) ≡ Some (found, rows) = ap (λ (r : List Text). subcommand_of program (codes "weigh" ∷ r)) (sym two.2) ∙ is in
    let values = found_is name_and_two (codes "weigh" ∷ u ∷ v ∷ []) (codes "weigh", Some u, Some v)
    (weigh_values u v (plain_of u first.0) (plain_of v (or_false (is_option v) false first.1).0)) found rows at in
    let a : u ≡ x = some_text (sym (ap (λ (q : Text × Option Text × Option Text). q.1) values) ∙ ex) in
    let b : v ≡ y = some_text (sym (ap (λ (q : Text × Option Text × Option Text). q.2) values) ∙ ey) in
    two.2 ∙ rw (a, b) refl

pub trial_rest : (rest : List Text) → list_any is_option rest ≡ false → fault_of program (codes "trial" ∷ rest) ≡ [] → (found : Text) (rows : List Row)
    → subcommand_of program (codes "trial" ∷ rest) ≡ Some (found, rows) → (x y z : Text) → first_of (codes "FIRMS") rows ≡ Some x → first_of (codes "CLAIMS") rows ≡ Some y
    → first_of (codes "SEED") rows ≡ Some z → rest ≡ x ∷ y ∷ z ∷ []
trial_rest rest plain none found rows is x y z ex ey ez =
    let three = three_values rest plain (taken_below (codes "trial") _ trial_entered rest none) in
    let u = three.0 in
    let v = three.1 in
    let w = three.2 in
    let first = or_false (is_option u) (list_any is_option (v ∷ w ∷ [])) (ap (list_any is_option) (sym three.3) ∙ plain) in
    let second = or_false (is_option v) (list_any is_option (w ∷ [])) first.1 in
    let at : subcommand_of program (codes "trial" ∷ u ∷ v ∷ w ∷ []) ≡ Some (found, rows) = ap (λ (r : List Text). subcommand_of program (codes "trial" ∷ r)) (sym three.3) ∙ is in
    let values = found_is name_and_three (codes "trial" ∷ u ∷ v ∷ w ∷ []) (codes "trial", Some u, Some v, Some w)
    (trial_values u v w (plain_of u first.0) (plain_of v second.0) (plain_of w (or_false (is_option w) false second.1).0)) found rows at in
    let a : u ≡ x = some_text (sym (ap (λ (q : Text × Option Text × Option Text × Option Text). q.1) values) ∙ ex) in
    let b : v ≡ y = some_text (sym (ap (λ (q : Text × Option Text × Option Text × Option Text). q.2) values) ∙ ey) in
    let c : w ≡ z = some_text (sym (ap (λ (q : Text × Option Text × Option Text × Option Text). q.3) values) ∙ ez) in
    three.3 ∙ rw (a, b, c) refl

-- ---- a command's words

pub plain_taken : (name : Text) → IsEntered name (leaf name []) → fault_of program (name ∷ []) ≡ []
unfolding clap_on_literals
plain_taken name e = below_is name (leaf name []) e []

pub positions_taken : (pool : Option Text) → IsPlainLast pool → fault_of program (codes "positions" ∷ last_values pool) ≡ []
unfolding clap_on_literals
positions_taken None p = refl
positions_taken (Some x) p = rw (p.dashes, p.long, p.short) refl

pub notices_taken : (x : Text) (pool : Option Text) → IsPlain x → IsPlainLast pool → fault_of program (codes "notices" ∷ x ∷ last_values pool) ≡ []
unfolding clap_on_literals
notices_taken x None p q = rw (p.dashes, p.long, p.short) refl
notices_taken x (Some y) p q = rw (p.dashes, p.long, p.short, q.dashes, q.long, q.short) refl

pub history_taken : (pool : Option Text) → IsPlainLast pool → fault_of program (codes "history" ∷ last_values pool) ≡ []
unfolding clap_on_literals
history_taken None p = refl
history_taken (Some x) p = rw (p.dashes, p.long, p.short) refl

pub statement_taken : (x : Text) (pool : Option Text) → IsPlain x → IsPlainLast pool → fault_of program (codes "statement" ∷ x ∷ last_values pool) ≡ []
unfolding clap_on_literals
statement_taken x None p q = rw (p.dashes, p.long, p.short) refl
statement_taken x (Some y) p q = rw (p.dashes, p.long, p.short, q.dashes, q.long, q.short) refl

pub since_taken : (x : Text) (pool : Option Text) → IsPlain x → IsPlainLast pool → fault_of program (codes "since" ∷ x ∷ last_values pool) ≡ []
unfolding clap_on_literals
since_taken x None p q = rw (p.dashes, p.long, p.short) refl
since_taken x (Some y) p q = rw (p.dashes, p.long, p.short, q.dashes, q.long, q.short) refl

pub seal_taken : (acts : Option Text) → IsPlainLast acts → fault_of program (codes "seal" ∷ last_values acts) ≡ []
unfolding clap_on_literals
seal_taken None p = refl
seal_taken (Some x) p = rw (p.dashes, p.long, p.short) refl

pub account_taken : (x : Text) (pool : Option Text) → IsPlain x → IsPlainLast pool → fault_of program (codes "account" ∷ x ∷ last_values pool) ≡ []
unfolding clap_on_literals
account_taken x None p q = rw (p.dashes, p.long, p.short) refl
account_taken x (Some y) p q = rw (p.dashes, p.long, p.short, q.dashes, q.long, q.short) refl

pub parts_taken : (x : Text) (pool : Option Text) → IsPlain x → IsPlainLast pool → fault_of program (codes "parts" ∷ x ∷ last_values pool) ≡ []
unfolding clap_on_literals
parts_taken x None p q = rw (p.dashes, p.long, p.short) refl
parts_taken x (Some y) p q = rw (p.dashes, p.long, p.short, q.dashes, q.long, q.short) refl

pub forecast_taken : (x y : Text) (pool : Option Text) → IsPlain x → IsPlain y → IsPlainLast pool → fault_of program (codes "forecast" ∷ x ∷ y ∷ last_values pool) ≡ []
unfolding clap_on_literals
forecast_taken x y None p q r = rw (p.dashes, p.long, p.short, q.dashes, q.long, q.short) refl
forecast_taken x y (Some z) p q r = rw (p.dashes, p.long, p.short, q.dashes, q.long, q.short, r.dashes, r.long, r.short) refl

pub import_taken : (x : Text) → IsPlain x → fault_of program (codes "import" ∷ x ∷ []) ≡ []
unfolding clap_on_literals
import_taken x p = rw (p.dashes, p.long, p.short) refl

pub weigh_taken : (x y : Text) → IsPlain x → IsPlain y → fault_of program (codes "weigh" ∷ x ∷ y ∷ []) ≡ []
unfolding clap_on_literals
weigh_taken x y p q = rw (p.dashes, p.long, p.short, q.dashes, q.long, q.short) refl

pub trial_taken : (x y z : Text) → IsPlain x → IsPlain y → IsPlain z → fault_of program (codes "trial" ∷ x ∷ y ∷ z ∷ []) ≡ []
unfolding clap_on_literals
trial_taken x y z p q r = rw (p.dashes, p.long, p.short, q.dashes, q.long, q.short, r.dashes, r.long, r.short) refl
