use Rattle.std.proofs.Common.{◌≡◌, ◌<◌, ◌≤◌, List, ℕ, Bor, get_or, length, map, ap, refl, subst, sym, [], ◌∷◌, arith}
use Rattle.std.specs.Prelude.{codes, IfNone, IfSome}
use Rattle.statement_text.specs.Lines.{AreFields, AreNoFields}
use Rattle.statement_text.proofs.fields.party_of.Goals as goal

-- a list of four
four : {X : Type 0} (d : X) (xs : List X) → 4 ≤ length xs → length xs < 5 → xs ≡ get_or xs 0 d ∷ get_or xs 1 d ∷ get_or xs 2 d ∷ get_or xs 3 d ∷ []
four d [] low high = absurd (omega arith)
four d (a ∷ []) low high = absurd (omega arith)
four d (a ∷ b ∷ []) low high = absurd (omega arith)
four d (a ∷ b ∷ c ∷ []) low high = absurd (omega arith)
four d (a ∷ b ∷ c ∷ e ∷ []) low high = refl
four d (a ∷ b ∷ c ∷ e ∷ f ∷ xs) low high = absurd (omega arith)

pub returns-clause-found : goal.returns-clause-found
returns-clause-found c =
    let none : Bor (List ℕ) = record { ref_ptr = (0, 0); now = [] } in
    let all = ap (map (λ (f : Bor (List ℕ)). f.now)) (four none c.args.args.now (omega (arith, c.in-len4.len_at_least)) (omega (arith, c.in-len4.len_below))) in
    subst (λ (args : List (List ℕ)). IfSome c.read_party.result (AreFields (codes "PARTY" ∷ args))) (sym all) c.read_party.ensures.found

pub returns-clause-none : goal.returns-clause-none
returns-clause-none c =
    let none : Bor (List ℕ) = record { ref_ptr = (0, 0); now = [] } in
    let all = ap (map (λ (f : Bor (List ℕ)). f.now)) (four none c.args.args.now (omega (arith, c.in-len4.len_at_least)) (omega (arith, c.in-len4.len_below))) in
    subst (λ (args : List (List ℕ)). IfNone c.read_party.result (AreNoFields (codes "PARTY" ∷ args))) (sym all) c.read_party.ensures.none
