-- What a chain of arguments or of subcommands makes of a command.
use Rattle.std.proofs.Common.{◌≡◌, ◌∙◌, ◌||◌, ℕ, suc, ◌<◌, Bool, false, List, [], ◌∷◌, ◌++◌, All, map, length, sym, ap, ap₂, arith, append_assoc, append-nil, get_or, take, ◌+◌}
use Rattle.std.proofs.lemmas.List.{map-append, take_more}
use Rattle.clap.specs.Built.{AddsArg, AddsInTurn, AddsSubcommand}
use Rattle.clap.specs.Simple.{App, Shape, app_of, new_app, with_rule, with_subcommand, shape_of as made}
use Rattle.clap.specs.Walk.{Rule, rule_of}
use Rattle.clap.specs.declared.builder.arg.Arg.{Arg}
use Rattle.clap.specs.declared.builder.command.Command.{Command}
use Rattle.clap.specs.declared.builder.command.Command.TheViews.{out-Command}
use Rattle.command_words.specs.Program.{shape_of}

-- a program with rules, one after the other, and with subcommands
abbrev with_rules : App → List Rule → App
with_rules a [] = a
with_rules a (r ∷ rs) = with_rules (with_rule a r) rs

abbrev pub with_subcommands : App → List Shape → App
with_subcommands a [] = a
with_subcommands a (s ∷ ss) = with_subcommands (with_subcommand a s) ss

abbrev pub IsLocalArg : Arg → Type 0
IsLocalArg a = a.global ≡ false

abbrev pub IsLocal : Command → Type 0
IsLocal c = (out-Command c).has_globals ≡ false

rules_top : (a : App) (rs : List Rule) → with_rules a rs ≡ record a { top = record a.top { rules = a.top.rules ++ rs } }
rules_top a [] = ap (λ (xs : List Rule). record a { top = record a.top { rules = xs } }) (sym (append-nil a.top.rules))
rules_top a (r ∷ rs) = rules_top (with_rule a r) rs ∙ ap (λ (xs : List Rule). record a { top = record a.top { rules = xs } }) (append_assoc a.top.rules (r ∷ []) rs)

rest_local : {X : Type 0} (P : X → Type 0) (x : X) (xs : List X) → All P (x ∷ xs) → All P xs
rest_local P x xs all = λ k d lt. all (suc k) d (omega (arith, lt))

args_add : (start c : Command) (args : List Arg) → AddsInTurn AddsArg start args c → All IsLocalArg args → IsLocal start
    → (app_of c ≡ with_rules (app_of start) (map (λ a. rule_of a) args)) × IsLocal c
args_add start c [] same local none = (ap app_of (sym same), ap (λ (k : Command). (out-Command k).has_globals) (sym same) ∙ none)
args_add start c (a ∷ args) adds local none =
    let first : a.global ≡ false = local 0 a (omega arith) in
    let next = args_add adds.0 c args adds.2 (rest_local IsLocalArg a args local) (adds.1.globals ∙ ap₂ (λ (x y : Bool). x || y) none first) in
    (next.0 ∙ ap (λ (s : App). with_rules s (map (λ a. rule_of a) args)) (adds.1.shape first), next.1)

-- a command that was new, with arguments
pub command_made : (start c : Command) (args : List Arg) (name : List ℕ) (rows : List Rule) → AddsInTurn AddsArg start args c → All IsLocalArg args → IsLocal start
    → app_of start ≡ new_app name → map (λ a. rule_of a) args ≡ rows → made c ≡ shape_of name rows
command_made start c args name rows adds local none new same =
    ap (λ (a : App). a.top) ((args_add start c args adds local none).0 ∙ ap₂ with_rules new same ∙ rules_top (new_app name) rows)

pub command_local : (start c : Command) (args : List Arg) → AddsInTurn AddsArg start args c → All IsLocalArg args → IsLocal start → IsLocal c
command_local start c args adds local none = (args_add start c args adds local none).1

pub subcommands_add : (start c : Command) (cs : List Command) → AddsInTurn AddsSubcommand start cs c → All IsLocal cs
    → app_of c ≡ with_subcommands (app_of start) (map (λ k. made k) cs)
subcommands_add start c [] same local = ap app_of (sym same)
subcommands_add start c (k ∷ ks) adds local =
    subcommands_add adds.0 c ks adds.2 (rest_local IsLocal k ks local)
    ∙ ap (λ (s : App). with_subcommands s (map (λ x. made x) ks)) (adds.1.shape (local 0 k (omega arith)))

-- ---- lists that grow by one row of a table

pub one_row_more : {B C : Type 0} (g : B → C) (old new : List C) (rows : List B) (i : ℕ) (d : B) → new ≡ old ++ g (get_or rows i d) ∷ [] → old ≡ map g (take i rows) → i < length rows → new ≡ map g (take (i + 1) rows)
one_row_more {C = C} g old new rows i d pushed before lt =
    pushed ∙ ap (λ (xs : List C). xs ++ g (get_or rows i d) ∷ []) before ∙ sym (map-append g (take i rows) (get_or rows i d ∷ [])) ∙ ap (map g) (sym (take_more rows i d lt))

pub one_made_more : {A B C : Type 0} (f : A → C) (g : B → C) (old new : List A) (x : A) (rows : List B) (i : ℕ) (d : B) → new ≡ old ++ x ∷ [] → f x ≡ g (get_or rows i d)
    → map f old ≡ map g (take i rows) → i < length rows → map f new ≡ map g (take (i + 1) rows)
one_made_more {C = C} f g old new x rows i d pushed is before lt =
    one_row_more g (map f old) (map f new) rows i d (ap (map f) pushed ∙ map-append f old (x ∷ []) ∙ ap (λ (y : C). map f old ++ y ∷ []) is) before lt
