-- Firms and their places.
use Rattle.std.specs.Prelude.{◌≢◌, All, AllPairs}
use Rattle.std.proofs.Common.{◌≡◌, ℕ, ◌<◌, List, [], length, get_or, map, sym, subst, ◌∙◌, arith}
use Rattle.std.proofs.lemmas.Bool.{cases_lt}
use Rattle.std.proofs.Common.{inl, inr}
use Rattle.std.proofs.lemmas.List.{get_or-map, length-map}
use Rattle.setoff_model.specs.declared.cut.Party.{Party}
use Rattle.statement_text.specs.Statements.{firm_at}

-- a party to read where there is none
abbrev pub no_party : Party
no_party = record { firm = []; spend = 0; room = 0 }

-- a firm is that of the party at its place
pub firm_is : (parties : List Party) (i : ℕ) (none : Party) → i < length parties → firm_at parties i ≡ (get_or parties i none).firm
firm_is parties i none lt = get_or-map (λ (f : Party). f.firm) parties i none [] lt

-- a fact about each value of f is one about each element
pub from_map : {X Y : Type 0} (P : Y → Type 0) (f : X → Y) (xs : List X) → All P (map f xs) → All (λ x. P (f x)) xs
from_map P f xs all i d lt = subst P (get_or-map f xs i d (f d) lt) (all i (f d) (omega (arith, length-map xs f)))

-- two places of one firm are one
pub same_place : (parties : List Party) (i j : ℕ) → AllPairs (λ f g. f.firm ≢ g.firm) parties → i < length parties → j < length parties → firm_at parties i ≡ firm_at parties j → i ≡ j
same_place parties i j apart li lj e =
    elim (cases_lt i j) [
      | inl less ↦ absurd (apart i j no_party less lj (sym (firm_is parties i no_party li) ∙ e ∙ firm_is parties j no_party lj))
      | inr more ↦ elim (cases_lt j i) [
        | inl less ↦ absurd (apart j i no_party less li (sym (firm_is parties j no_party lj) ∙ sym e ∙ firm_is parties i no_party li))
        | inr less ↦ omega arith
      ]
    ]
