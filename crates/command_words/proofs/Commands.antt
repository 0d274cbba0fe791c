-- A command and its words.
use Rattle.std.proofs.Common.{true≢false, ◌≡◌, ◌∙◌, ◌==◌, ◌&&◌, ◌+◌, ◌<◌, ◌≤◌, ◌^◌, ℕ, zero, suc, Bool, true, false, List, [], ◌∷◌, map, Option, Some, None, refl, ap, ap₂, sym, subst, codes, decimal, get_or, arith}
use Rattle.std.specs.List.{list_any}
use Rattle.std.specs.Int.Digits.{digits_of}
use Rattle.std.proofs.lemmas.Fmt.{decimal-digits_of, decimal_digit, decimal_injective}
use Rattle.clap.specs.Walk.{Row, Text, first_of}
use Rattle.clap.specs.Simple.{Shape, subcommand_of}
use Rattle.clap.specs.Faults.{fault_of}
use Rattle.setoff_model.specs.declared.kind.Kind.{Kind}
use Rattle.setoff_model.specs.declared.kind.Kind.TheVariants.{Plain, Funded}
use Rattle.setoff_model.specs.Names.{is_letter, is_name}
use Rattle.setoff_model.specs.Texts.{kind_text}
use Rattle.request_text.specs.claim_history.specs.Days.{DayTextsLaw, day_text}
use Rattle.command_words.specs.declared.command.Command.{Command}
use Rattle.command_words.specs.declared.command.Command.TheVariants as commands
use Rattle.command_words.specs.declared.input_report.InputReport.TheVariants as inputs
use Rattle.command_words.specs.declared.journal_report.JournalReport.TheVariants as journals
use Rattle.command_words.specs.Program.{program}
use Rattle.command_words.specs.Words.{AreNoWords, AreWordsOf, IsCommand, AreActs, IsPool, NamesOther, OneCommandLaw, acts_text, last_values, name_of, values_of, words_of}
use Rattle.command_words.specs.Reading.{IsFoundIn, IsGiven, is_option}
use Rattle.command_words.proofs.Walks.{IsEntered, IsPlain, IsPlainLast, account_entered, account_rest, account_taken, account_values, audit_entered, check_entered, explain_entered, first_is, forecast_entered, forecast_rest, forecast_taken, forecast_values, found_is, history_entered, history_rest, history_taken, history_values, import_entered, import_rest, import_taken, import_values, known_name, live_entered, name_and, name_and_pool, name_and_three, name_and_two, name_and_two_and_pool, no_words, notices_entered, notices_rest, notices_taken, notices_values, or_false, parts_entered, parts_rest, parts_taken, parts_values, plain_of, plain_rest, plain_taken, pools_entered, positions_entered, positions_rest, positions_taken, positions_values, run_entered, seal_entered, seal_rest, seal_taken, seal_values, since_entered, since_rest, since_taken, since_values, statement_entered, statement_rest, statement_taken, statement_values, sub_is, trial_entered, trial_rest, trial_taken, trial_values, weigh_entered, weigh_rest, weigh_taken, weigh_values}

-- ---- texts of values

digit_plain : (n : ℕ) → ((48 + n) == 45) ≡ false
digit_plain n = grind arith

digits_plain : (ds : List ℕ) → is_option (map (λ d. 48 + d) ds) ≡ false
digits_plain [] = refl
digits_plain (d ∷ ds) = digit_plain d

decimal_plain : (n : ℕ) → n < 2 ^ 64 → is_option (decimal n) ≡ false
decimal_plain zero small = ap is_option (decimal_digit 0 (omega arith))
decimal_plain (suc n) small = ap is_option (decimal-digits_of (suc n) (omega arith) small) ∙ digits_plain (digits_of 10 (suc n))

kind_plain : (k : Kind) → is_option (kind_text k) ≡ false
kind_plain Plain = refl
kind_plain Funded = refl

day_plain : (d : ℕ) → is_option (day_text d) ≡ false
day_plain d = digit_plain _

left_true : (a b : Bool) → (a && b) ≡ true → a ≡ true
left_true true b e = refl
left_true false b e = e

letter_plain : (c : ℕ) → is_letter c ≡ true → (c == 45) ≡ false
letter_plain c e = grind (arith, e)

name_plain : (name : Text) → is_name name ≡ true → is_option name ≡ false
name_plain [] e = refl
name_plain (c ∷ cs) e = letter_plain c (left_true (is_letter c) _ (left_true _ _ e))

pool_plain : (pool : Option Text) → IsPool pool → list_any is_option (last_values pool) ≡ false
pool_plain None p = refl
pool_plain (Some x) p = rw (name_plain x p) refl

acts_plain : (acts : Option ℕ) → AreActs acts → list_any is_option (last_values (acts_text acts)) ≡ false
acts_plain None p = refl
acts_plain (Some n) p = rw (decimal_plain n (omega (arith, p))) refl

acts_word : (acts : Option ℕ) → AreActs acts → IsPlainLast (acts_text acts)
acts_word None p = tt
acts_word (Some n) p = plain_of _ (decimal_plain n (omega (arith, p)))

pub other_named : (pool : Option Text) → NamesOther pool → IsPool pool
other_named None p = tt
other_named (Some x) p = p.0

pool_word : (pool : Option Text) → IsPool pool → IsPlainLast pool
pool_word None p = tt
pool_word (Some x) p = plain_of x (name_plain x p)

-- no number of a range has the text of one outside of it
pub no_number : (text : List ℕ) (number : ℕ) → number < 2 ^ 64 → text ≡ decimal number → (least most : ℕ) → most < 2 ^ 32 → (least ≤ number → number ≤ most → ⊥)
    → (n : ℕ) → least ≤ n → n ≤ most → text ≡ decimal n → ⊥
no_number text number small is least most fits outside n low high e =
    let same : number ≡ n = decimal_injective number n small (omega (arith, high, fits)) (sym is ∙ e) in
    outside (omega (arith, same, low)) (omega (arith, same, high))

-- ---- two commands with the same words

same_name : (c d : Command) → words_of c ≡ words_of d → name_of c ≡ name_of d
same_name c d e = ap (λ (ws : List Text). get_or ws 0 []) e

same_value : (c d : Command) (place : ℕ) → words_of c ≡ words_of d → get_or (words_of c) place [] ≡ get_or (words_of d) place []
same_value c d place e = ap (λ (ws : List Text). get_or ws place []) e

same_number : (a b : ℕ) → a < 2 ^ 64 → b < 2 ^ 64 → decimal a ≡ decimal b → a ≡ b
same_number a b la lb e = decimal_injective a b la lb e

kind_is : (j k : Kind) → kind_text j ≡ kind_text k → j ≡ k
kind_is Plain Plain e = refl
kind_is Plain Funded e = absurd (cc e)
kind_is Funded Plain e = absurd (cc e)
kind_is Funded Funded e = refl

abbrev tail_of : List Text → List Text
tail_of [] = []
tail_of (x ∷ xs) = xs

pool_is : (x y : Option Text) → last_values x ≡ last_values y → x ≡ y
pool_is None None e = refl
pool_is None (Some y) e = absurd (cc e)
pool_is (Some x) None e = absurd (cc e)
pool_is (Some x) (Some y) e = ap (λ (ws : List Text). Some (get_or ws 0 [])) e

acts_are : (x y : Option ℕ) → AreActs x → AreActs y → last_values (acts_text x) ≡ last_values (acts_text y) → x ≡ y
acts_are None None p q e = refl
acts_are None (Some n) p q e = absurd (cc e)
acts_are (Some m) None p q e = absurd (cc e)
acts_are (Some m) (Some n) p q e = ap (λ (k : ℕ). Some k) (same_number m n (omega (arith, p)) (omega (arith, q)) (ap (λ (ws : List Text). get_or ws 0 []) e))

-- a command with the words of another
of_words : DayTextsLaw → (c d : Command) → IsCommand c → IsCommand d → words_of c ≡ words_of d → c ≡ d
of_words days commands.Run d p q e = grind (arith, same_name commands.Run d e)
of_words days commands.Live d p q e = grind (arith, same_name commands.Live d e)
of_words days (commands.OnInput inputs.Check) d p q e = grind (arith, same_name (commands.OnInput inputs.Check) d e)
of_words days (commands.OnInput inputs.Explain) d p q e = grind (arith, same_name (commands.OnInput inputs.Explain) d e)
of_words days (commands.OnJournal journals.Audit) d p q e = grind (arith, same_name (commands.OnJournal journals.Audit) d e)
of_words days (commands.OnJournal (journals.Positions x)) (commands.OnJournal (journals.Positions y)) p q e =
    ap (λ (pool : Option Text). commands.OnJournal (journals.Positions pool)) (pool_is x y (ap tail_of e))
of_words days (commands.OnJournal (journals.Positions x)) d p q e = grind (arith, same_name (commands.OnJournal (journals.Positions x)) d e)
of_words days (commands.OnJournal (journals.Notices x u)) (commands.OnJournal (journals.Notices y v)) p q e =
    let a = days x y p.0 q.0 (same_value (commands.OnJournal (journals.Notices x u)) (commands.OnJournal (journals.Notices y v)) 1 e) in
    let b = pool_is u v (ap (λ (ws : List Text). tail_of (tail_of ws)) e) in
    rw (a, b) refl
of_words days (commands.OnJournal (journals.Notices x u)) d p q e = grind (arith, same_name (commands.OnJournal (journals.Notices x u)) d e)
of_words days (commands.OnInput (inputs.Import x)) (commands.OnInput (inputs.Import y)) p q e = ap (λ (n : ℕ). commands.OnInput (inputs.Import n)) (same_number x y (omega (arith, p.1)) (omega (arith, q.1)) (same_value (commands.OnInput (inputs.Import x)) (commands.OnInput (inputs.Import y)) 1 e))
of_words days (commands.OnInput (inputs.Import x)) d p q e = grind (arith, same_name (commands.OnInput (inputs.Import x)) d e)
of_words days (commands.OnJournal (journals.Weigh j x)) (commands.OnJournal (journals.Weigh k y)) p q e =
    let a = kind_is j k (same_value (commands.OnJournal (journals.Weigh j x)) (commands.OnJournal (journals.Weigh k y)) 1 e) in
    let b = days x y p q (same_value (commands.OnJournal (journals.Weigh j x)) (commands.OnJournal (journals.Weigh k y)) 2 e) in
    rw (a, b) refl
of_words days (commands.OnJournal (journals.Weigh j x)) d p q e = grind (arith, same_name (commands.OnJournal (journals.Weigh j x)) d e)
of_words days (commands.OnJournal (journals.History x)) (commands.OnJournal (journals.History y)) p q e =
    ap (λ (pool : Option Text). commands.OnJournal (journals.History pool)) (pool_is x y (ap tail_of e))
of_words days (commands.OnJournal (journals.History x)) d p q e = grind (arith, same_name (commands.OnJournal (journals.History x)) d e)
of_words days (commands.OnJournal (journals.Statement x u)) (commands.OnJournal (journals.Statement y v)) p q e =
    let a = same_number x y (omega (arith, p.1)) (omega (arith, q.1)) (same_value (commands.OnJournal (journals.Statement x u)) (commands.OnJournal (journals.Statement y v)) 1 e) in
    let b = pool_is u v (ap (λ (ws : List Text). tail_of (tail_of ws)) e) in
    rw (a, b) refl
of_words days (commands.OnJournal (journals.Statement x u)) d p q e = grind (arith, same_name (commands.OnJournal (journals.Statement x u)) d e)
of_words days (commands.OnJournal journals.Pools) d p q e = grind (arith, same_name (commands.OnJournal journals.Pools) d e)
of_words days (commands.OnJournal (journals.Since x u)) (commands.OnJournal (journals.Since y v)) p q e =
    let a = same_number x y (omega (arith, p.0)) (omega (arith, q.0)) (same_value (commands.OnJournal (journals.Since x u)) (commands.OnJournal (journals.Since y v)) 1 e) in
    let b = pool_is u v (ap (λ (ws : List Text). tail_of (tail_of ws)) e) in
    rw (a, b) refl
of_words days (commands.OnJournal (journals.Since x u)) d p q e = grind (arith, same_name (commands.OnJournal (journals.Since x u)) d e)
of_words days (commands.OnJournal (journals.Seal x)) (commands.OnJournal (journals.Seal y)) p q e =
    ap (λ (acts : Option ℕ). commands.OnJournal (journals.Seal acts)) (acts_are x y p q (ap tail_of e))
of_words days (commands.OnJournal (journals.Seal x)) d p q e = grind (arith, same_name (commands.OnJournal (journals.Seal x)) d e)
of_words days (commands.OnJournal (journals.Account x u)) (commands.OnJournal (journals.Account y v)) p q e =
    let a = same_value (commands.OnJournal (journals.Account x u)) (commands.OnJournal (journals.Account y v)) 1 e in
    let b = pool_is u v (ap (λ (ws : List Text). tail_of (tail_of ws)) e) in
    rw (a, b) refl
of_words days (commands.OnJournal (journals.Account x u)) d p q e = grind (arith, same_name (commands.OnJournal (journals.Account x u)) d e)
of_words days (commands.OnJournal (journals.Parts x u)) (commands.OnJournal (journals.Parts y v)) p q e =
    let a = same_number x y (omega (arith, p.1)) (omega (arith, q.1)) (same_value (commands.OnJournal (journals.Parts x u)) (commands.OnJournal (journals.Parts y v)) 1 e) in
    let b = pool_is u v (ap (λ (ws : List Text). tail_of (tail_of ws)) e) in
    rw (a, b) refl
of_words days (commands.OnJournal (journals.Parts x u)) d p q e = grind (arith, same_name (commands.OnJournal (journals.Parts x u)) d e)
of_words days (commands.OnJournal (journals.Forecast j x u)) (commands.OnJournal (journals.Forecast k y v)) p q e =
    let a = kind_is j k (same_value (commands.OnJournal (journals.Forecast j x u)) (commands.OnJournal (journals.Forecast k y v)) 1 e) in
    let b = days x y p.0 q.0 (same_value (commands.OnJournal (journals.Forecast j x u)) (commands.OnJournal (journals.Forecast k y v)) 2 e) in
    let c = pool_is u v (ap (λ (ws : List Text). tail_of (tail_of (tail_of ws))) e) in
    rw (a, b, c) refl
of_words days (commands.OnJournal (journals.Forecast j x u)) d p q e = grind (arith, same_name (commands.OnJournal (journals.Forecast j x u)) d e)
of_words days (commands.Trial x y z) (commands.Trial u v w) p q e =
    let a = same_number x u (omega (arith, p.1)) (omega (arith, q.1)) (same_value (commands.Trial x y z) (commands.Trial u v w) 1 e) in
    let b = same_number y v (omega (arith, p.3)) (omega (arith, q.3)) (same_value (commands.Trial x y z) (commands.Trial u v w) 2 e) in
    let c = same_number z w (omega (arith, p.4)) (omega (arith, q.4)) (same_value (commands.Trial x y z) (commands.Trial u v w) 3 e) in
    rw (a, b, c) refl
of_words days (commands.Trial x y z) d p q e = grind (arith, same_name (commands.Trial x y z) d e)

pub one_command : DayTextsLaw → OneCommandLaw
one_command days words c d p q = of_words days c d p.0 q.0 (sym p.1 ∙ q.1)

-- ---- the words of a command

-- no word of a command begins with a hyphen
pub words_plain : (c : Command) → IsCommand c → list_any is_option (words_of c) ≡ false
words_plain commands.Run p = refl
words_plain commands.Live p = refl
words_plain (commands.OnInput inputs.Check) p = refl
words_plain (commands.OnInput inputs.Explain) p = refl
words_plain (commands.OnJournal journals.Audit) p = refl
words_plain (commands.OnJournal (journals.Positions pool)) p = pool_plain pool (other_named pool p)
words_plain (commands.OnJournal (journals.Notices d pool)) p = rw (day_plain d) (pool_plain pool (other_named pool p.1))
words_plain (commands.OnInput (inputs.Import n)) p = rw (decimal_plain n (omega (arith, p.1))) refl
words_plain (commands.OnJournal (journals.Weigh k d)) p = rw (kind_plain k, day_plain d) refl
words_plain (commands.OnJournal (journals.History pool)) p = pool_plain pool p
words_plain (commands.OnJournal (journals.Statement n pool)) p = rw (decimal_plain n (omega (arith, p.1))) (pool_plain pool (other_named pool p.2))
words_plain (commands.OnJournal journals.Pools) p = refl
words_plain (commands.OnJournal (journals.Since n pool)) p = rw (decimal_plain n (omega (arith, p.0))) (pool_plain pool p.1)
words_plain (commands.OnJournal (journals.Seal acts)) p = acts_plain acts p
words_plain (commands.OnJournal (journals.Account firm pool)) p = rw (name_plain firm p.0) (pool_plain pool p.1)
words_plain (commands.OnJournal (journals.Parts n pool)) p = rw (decimal_plain n (omega (arith, p.1))) (pool_plain pool p.2)
words_plain (commands.OnJournal (journals.Forecast k d pool)) p = rw (kind_plain k, day_plain d) (pool_plain pool p.1)
words_plain (commands.Trial x y z) p = rw (decimal_plain x (omega (arith, p.1)), decimal_plain y (omega (arith, p.3)), decimal_plain z (omega (arith, p.4))) refl

-- `clap` takes the words of a command
pub words_taken : (c : Command) → IsCommand c → fault_of program (words_of c) ≡ []
words_taken commands.Run p = plain_taken _ run_entered
words_taken commands.Live p = plain_taken _ live_entered
words_taken (commands.OnInput inputs.Check) p = plain_taken _ check_entered
words_taken (commands.OnInput inputs.Explain) p = plain_taken _ explain_entered
words_taken (commands.OnJournal journals.Audit) p = plain_taken _ audit_entered
words_taken (commands.OnJournal (journals.Positions pool)) p = positions_taken pool (pool_word pool (other_named pool p))
words_taken (commands.OnJournal (journals.Notices d pool)) p = notices_taken _ pool (plain_of _ (day_plain d)) (pool_word pool (other_named pool p.1))
words_taken (commands.OnInput (inputs.Import n)) p = import_taken _ (plain_of _ (decimal_plain n (omega (arith, p.1))))
words_taken (commands.OnJournal (journals.Weigh k d)) p = weigh_taken _ _ (plain_of _ (kind_plain k)) (plain_of _ (day_plain d))
words_taken (commands.OnJournal (journals.History pool)) p = history_taken pool (pool_word pool p)
words_taken (commands.OnJournal (journals.Statement n pool)) p = statement_taken _ pool (plain_of _ (decimal_plain n (omega (arith, p.1)))) (pool_word pool (other_named pool p.2))
words_taken (commands.OnJournal journals.Pools) p = plain_taken _ pools_entered
words_taken (commands.OnJournal (journals.Since n pool)) p = since_taken _ pool (plain_of _ (decimal_plain n (omega (arith, p.0)))) (pool_word pool p.1)
words_taken (commands.OnJournal (journals.Seal acts)) p = seal_taken (acts_text acts) (acts_word acts p)
words_taken (commands.OnJournal (journals.Account firm pool)) p = account_taken firm pool (plain_of _ (name_plain firm p.0)) (pool_word pool p.1)
words_taken (commands.OnJournal (journals.Parts n pool)) p = parts_taken _ pool (plain_of _ (decimal_plain n (omega (arith, p.1)))) (pool_word pool p.2)
words_taken (commands.OnJournal (journals.Forecast k d pool)) p = forecast_taken _ _ pool (plain_of _ (kind_plain k)) (plain_of _ (day_plain d)) (pool_word pool p.1)
words_taken (commands.Trial x y z) p = trial_taken _ _ _ (plain_of _ (decimal_plain x (omega (arith, p.1)))) (plain_of _ (decimal_plain y (omega (arith, p.3)))) (plain_of _ (decimal_plain z (omega (arith, p.4))))

-- ---- what is found of the words of a command

day_word : (d : ℕ) → IsPlain (day_text d)
day_word d = plain_of _ (day_plain d)

number_word : (n : ℕ) → n < 2 ^ 64 → IsPlain (decimal n)
number_word n small = plain_of _ (decimal_plain n small)

words_name : (c : Command) → IsCommand c → (found : Text) (rows : List Row) → subcommand_of program (words_of c) ≡ Some (found, rows) → IsGiven c found (λ id. first_of id rows)
words_name commands.Run p found rows e = (known_name _ _ run_entered refl [] found rows e, tt)
words_name commands.Live p found rows e = (known_name _ _ live_entered refl [] found rows e, tt)
words_name (commands.OnInput inputs.Check) p found rows e = (known_name _ _ check_entered refl [] found rows e, tt)
words_name (commands.OnInput inputs.Explain) p found rows e = (known_name _ _ explain_entered refl [] found rows e, tt)
words_name (commands.OnJournal journals.Audit) p found rows e = (known_name _ _ audit_entered refl [] found rows e, tt)
words_name (commands.OnJournal (journals.Positions pool)) p found rows e =
    let is = found_is (name_and (codes "POOL")) (words_of (commands.OnJournal (journals.Positions pool))) _ (positions_values pool (pool_word pool (other_named pool p))) found rows e in
    (ap (λ (q : Text × Option Text). q.0) is, ap (λ (q : Text × Option Text). q.1) is)
words_name (commands.OnJournal (journals.Notices d pool)) p found rows e =
    let is = found_is (name_and_pool (codes "DATE")) (words_of (commands.OnJournal (journals.Notices d pool))) _
    (notices_values (day_text d) pool (day_word d) (pool_word pool (other_named pool p.1))) found rows e in (
      ap (λ (q : Text × Option Text × Option Text). q.0) is,
      (ap (λ (q : Text × Option Text × Option Text). q.1) is, ap (λ (q : Text × Option Text × Option Text). q.2) is),
    )
words_name (commands.OnInput (inputs.Import n)) p found rows e =
    let is = found_is (name_and (codes "LANE")) (words_of (commands.OnInput (inputs.Import n))) _ (import_values (decimal n) (number_word n (omega (arith, p.1)))) found rows e in
    (ap (λ (q : Text × Option Text). q.0) is, ap (λ (q : Text × Option Text). q.1) is)
words_name (commands.OnJournal (journals.Weigh k d)) p found rows e =
    let is = found_is name_and_two (words_of (commands.OnJournal (journals.Weigh k d))) _ (weigh_values (kind_text k) (day_text d) (plain_of _ (kind_plain k)) (day_word d)) found rows e in (
      ap (λ (q : Text × Option Text × Option Text). q.0) is,
      (ap (λ (q : Text × Option Text × Option Text). q.1) is, ap (λ (q : Text × Option Text × Option Text). q.2) is),
    )
words_name (commands.OnJournal (journals.History pool)) p found rows e =
    let is = found_is (name_and (codes "POOL")) (words_of (commands.OnJournal (journals.History pool))) _ (history_values pool (pool_word pool p)) found rows e in
    (ap (λ (q : Text × Option Text). q.0) is, ap (λ (q : Text × Option Text). q.1) is)
words_name (commands.OnJournal (journals.Statement n pool)) p found rows e =
    let is = found_is (name_and_pool (codes "ROUND")) (words_of (commands.OnJournal (journals.Statement n pool))) _
    (statement_values (decimal n) pool (number_word n (omega (arith, p.1))) (pool_word pool (other_named pool p.2))) found rows e in (
      ap (λ (q : Text × Option Text × Option Text). q.0) is,
      (ap (λ (q : Text × Option Text × Option Text). q.1) is, ap (λ (q : Text × Option Text × Option Text). q.2) is),
    )
words_name (commands.OnJournal journals.Pools) p found rows e = (known_name _ _ pools_entered refl [] found rows e, tt)
words_name (commands.OnJournal (journals.Since n pool)) p found rows e =
    let is = found_is (name_and_pool (codes "ACTS")) (words_of (commands.OnJournal (journals.Since n pool))) _
    (since_values (decimal n) pool (number_word n (omega (arith, p.0))) (pool_word pool p.1)) found rows e in (
      ap (λ (q : Text × Option Text × Option Text). q.0) is,
      (ap (λ (q : Text × Option Text × Option Text). q.1) is, ap (λ (q : Text × Option Text × Option Text). q.2) is),
    )
words_name (commands.OnJournal (journals.Seal acts)) p found rows e =
    let is = found_is (name_and (codes "ACTS")) (words_of (commands.OnJournal (journals.Seal acts))) _ (seal_values (acts_text acts) (acts_word acts p)) found rows e in
    (ap (λ (q : Text × Option Text). q.0) is, ap (λ (q : Text × Option Text). q.1) is)
words_name (commands.OnJournal (journals.Account firm pool)) p found rows e =
    let is = found_is (name_and_pool (codes "FIRM")) (words_of (commands.OnJournal (journals.Account firm pool))) _
    (account_values firm pool (plain_of _ (name_plain firm p.0)) (pool_word pool p.1)) found rows e in (
      ap (λ (q : Text × Option Text × Option Text). q.0) is,
      (ap (λ (q : Text × Option Text × Option Text). q.1) is, ap (λ (q : Text × Option Text × Option Text). q.2) is),
    )
words_name (commands.OnJournal (journals.Parts n pool)) p found rows e =
    let is = found_is (name_and_pool (codes "ROUND")) (words_of (commands.OnJournal (journals.Parts n pool))) _
    (parts_values (decimal n) pool (number_word n (omega (arith, p.1))) (pool_word pool p.2)) found rows e in (
      ap (λ (q : Text × Option Text × Option Text). q.0) is,
      (ap (λ (q : Text × Option Text × Option Text). q.1) is, ap (λ (q : Text × Option Text × Option Text). q.2) is),
    )
words_name (commands.OnJournal (journals.Forecast k d pool)) p found rows e =
    let is = found_is name_and_two_and_pool (words_of (commands.OnJournal (journals.Forecast k d pool))) _
    (forecast_values (kind_text k) (day_text d) pool (plain_of _ (kind_plain k)) (day_word d) (pool_word pool p.1)) found rows e in (
      ap (λ (q : Text × Option Text × Option Text × Option Text). q.0) is,
      (ap (λ (q : Text × Option Text × Option Text × Option Text). q.1) is, ap (λ (q : Text × Option Text × Option Text × Option Text). q.2) is, ap (λ (q : Text × Option Text × Option Text × Option Text). q.3) is),
    )
words_name (commands.Trial x y z) p found rows e =
    let is = found_is name_and_three (words_of (commands.Trial x y z)) _ (trial_values (decimal x) (decimal y) (decimal z) (number_word x (omega (arith, p.1))) (number_word y (omega (arith, p.3))) (number_word z (omega (arith, p.4)))) found rows e in (
      ap (λ (q : Text × Option Text × Option Text × Option Text). q.0) is,
      (ap (λ (q : Text × Option Text × Option Text × Option Text). q.1) is, ap (λ (q : Text × Option Text × Option Text × Option Text). q.2) is, ap (λ (q : Text × Option Text × Option Text × Option Text). q.3) is),
    )

not_found : (name : Text) (s : Shape) → IsEntered name s → (rest : List Text) → subcommand_of program (name ∷ rest) ≡ None → ⊥
not_found name s entered rest e = absurd (cc (sym (sub_is name s entered rest) ∙ e))

words_named : (c : Command) → subcommand_of program (words_of c) ≡ None → ⊥
words_named commands.Run e = not_found _ _ run_entered [] e
words_named commands.Live e = not_found _ _ live_entered [] e
words_named (commands.OnInput inputs.Check) e = not_found _ _ check_entered [] e
words_named (commands.OnInput inputs.Explain) e = not_found _ _ explain_entered [] e
words_named (commands.OnJournal journals.Audit) e = not_found _ _ audit_entered [] e
words_named (commands.OnJournal (journals.Positions pool)) e = not_found _ _ positions_entered (last_values pool) e
words_named (commands.OnJournal (journals.Notices d pool)) e = not_found _ _ notices_entered (day_text d ∷ last_values pool) e
words_named (commands.OnInput (inputs.Import n)) e = not_found _ _ import_entered (decimal n ∷ []) e
words_named (commands.OnJournal (journals.Weigh k d)) e = not_found _ _ weigh_entered (kind_text k ∷ day_text d ∷ []) e
words_named (commands.OnJournal (journals.History pool)) e = not_found _ _ history_entered (last_values pool) e
words_named (commands.OnJournal (journals.Statement n pool)) e = not_found _ _ statement_entered (decimal n ∷ last_values pool) e
words_named (commands.OnJournal journals.Pools) e = not_found _ _ pools_entered [] e
words_named (commands.OnJournal (journals.Since n pool)) e = not_found _ _ since_entered (decimal n ∷ last_values pool) e
words_named (commands.OnJournal (journals.Seal acts)) e = not_found _ _ seal_entered (last_values (acts_text acts)) e
words_named (commands.OnJournal (journals.Account firm pool)) e = not_found _ _ account_entered (firm ∷ last_values pool) e
words_named (commands.OnJournal (journals.Parts n pool)) e = not_found _ _ parts_entered (decimal n ∷ last_values pool) e
words_named (commands.OnJournal (journals.Forecast k d pool)) e = not_found _ _ forecast_entered (kind_text k ∷ day_text d ∷ last_values pool) e
words_named (commands.Trial x y z) e = not_found _ _ trial_entered (decimal x ∷ decimal y ∷ decimal z ∷ []) e

-- the name and the values that are found of the words of a command are the command's
pub words_found : (c : Command) → IsCommand c → IsFoundIn c (subcommand_of program (words_of c))
words_found c p = go (subcommand_of program (words_of c)) refl
  where
    go : (o : Option (Text × List Row)) → subcommand_of program (words_of c) ≡ o → IsFoundIn c o
    go None e = absurd (words_named c e)
    go (Some found) e = words_name c p found.0 found.1 e

-- ---- the words that were taken

-- the words after a command's name are its values
after_name : (c : Command) (found : Text) (rows : List Row) → IsGiven c found (λ id. first_of id rows) → (rest : List Text) → list_any is_option rest ≡ false
    → fault_of program (name_of c ∷ rest) ≡ [] → subcommand_of program (name_of c ∷ rest) ≡ Some (found, rows) → rest ≡ values_of c
after_name commands.Run found rows given rest plain none is = plain_rest _ run_entered rest plain none
after_name commands.Live found rows given rest plain none is = plain_rest _ live_entered rest plain none
after_name (commands.OnInput inputs.Check) found rows given rest plain none is = plain_rest _ check_entered rest plain none
after_name (commands.OnInput inputs.Explain) found rows given rest plain none is = plain_rest _ explain_entered rest plain none
after_name (commands.OnJournal journals.Audit) found rows given rest plain none is = plain_rest _ audit_entered rest plain none
after_name (commands.OnJournal (journals.Positions pool)) found rows given rest plain none is = positions_rest rest plain none found rows is pool given.1
after_name (commands.OnJournal (journals.Notices d pool)) found rows given rest plain none is = notices_rest rest plain none found rows is _ pool given.1.0 given.1.1
after_name (commands.OnInput (inputs.Import n)) found rows given rest plain none is = import_rest rest plain none found rows is _ given.1
after_name (commands.OnJournal (journals.Weigh k d)) found rows given rest plain none is = weigh_rest rest plain none found rows is _ _ given.1.0 given.1.1
after_name (commands.OnJournal (journals.History pool)) found rows given rest plain none is = history_rest rest plain none found rows is pool given.1
after_name (commands.OnJournal (journals.Statement n pool)) found rows given rest plain none is = statement_rest rest plain none found rows is _ pool given.1.0 given.1.1
after_name (commands.OnJournal journals.Pools) found rows given rest plain none is = plain_rest _ pools_entered rest plain none
after_name (commands.OnJournal (journals.Since n pool)) found rows given rest plain none is = since_rest rest plain none found rows is _ pool given.1.0 given.1.1
after_name (commands.OnJournal (journals.Seal acts)) found rows given rest plain none is = seal_rest rest plain none found rows is (acts_text acts) given.1
after_name (commands.OnJournal (journals.Account firm pool)) found rows given rest plain none is = account_rest rest plain none found rows is _ pool given.1.0 given.1.1
after_name (commands.OnJournal (journals.Parts n pool)) found rows given rest plain none is = parts_rest rest plain none found rows is _ pool given.1.0 given.1.1
after_name (commands.OnJournal (journals.Forecast k d pool)) found rows given rest plain none is = forecast_rest rest plain none found rows is _ _ pool given.1.0 given.1.1 given.1.2
after_name (commands.Trial x y z) found rows given rest plain none is = trial_rest rest plain none found rows is _ _ _ given.1.0 given.1.1 given.1.2

from_name : (words : List Text) → list_any is_option words ≡ false → fault_of program words ≡ [] → (found : Text) (rows : List Row) → subcommand_of program words ≡ Some (found, rows)
    → (c : Command) → IsGiven c found (λ id. first_of id rows) → words ≡ words_of c
from_name [] plain none found rows is c given = no_words none
from_name (w ∷ rest) plain none found rows is c given =
    let parts = or_false (is_option w) (list_any is_option rest) plain in
    let same : w ≡ name_of c = sym (first_is w parts.0 rest none found rows is) ∙ given.0 in
    let taken : fault_of program (name_of c ∷ rest) ≡ [] = subst (λ (word : Text). fault_of program (word ∷ rest) ≡ []) same none in
    let at : subcommand_of program (name_of c ∷ rest) ≡ Some (found, rows) = subst (λ (word : Text). subcommand_of program (word ∷ rest) ≡ Some (found, rows)) same is in
    ap₂ (λ (word : Text) (ws : List Text). word ∷ ws) same (after_name c found rows given rest parts.1 taken at)

-- words that `clap` takes are those of the command that was found
pub words_read : (words : List Text) → list_any is_option words ≡ false → fault_of program words ≡ [] → (c : Command) → IsFoundIn c (subcommand_of program words) → words ≡ words_of c
words_read words plain none c h = go (subcommand_of program words) refl h
  where
    go : (o : Option (Text × List Row)) → subcommand_of program words ≡ o → IsFoundIn c o → words ≡ words_of c
    go None e found = absurd found
    go (Some found) e given = from_name words plain none found.0 found.1 e c given

pub words_known : (words : List Text) → list_any is_option words ≡ false → fault_of program words ≡ [] → (found : Option (Text × List Row)) → found ≡ subcommand_of program words
    → (c : Command) → IsCommand c × IsFoundIn c found → AreWordsOf c words
words_known words plain none found is c h = (h.0, words_read words plain none c (subst (λ (o : Option (Text × List Row)). IsFoundIn c o) is h.1))

-- ---- words that are no command's

pub option_refused : (words : List Text) → list_any is_option words ≡ true → AreNoWords words
option_refused words option c are = true≢false (sym option ∙ ap (list_any is_option) are.1 ∙ words_plain c are.0)

pub fault_refused : (words : List Text) → (fault_of program words ≡ [] → ⊥) → AreNoWords words
fault_refused words fault c are = fault (ap (fault_of program) are.1 ∙ words_taken c are.0)

pub values_refused : (words : List Text) (found : Option (Text × List Row)) → found ≡ subcommand_of program words → ((c : Command) → IsCommand c → IsFoundIn c found → ⊥) → AreNoWords words
values_refused words found is none c are =
    none c are.0 (subst (λ (o : Option (Text × List Row)). IsFoundIn c o) (sym (is ∙ ap (subcommand_of program) are.1)) (words_found c are.0))
