-- The definitions of weighted set-off at a worked case: A owes B 10.00, long overdue, B owes A 6.00, A owes C 10.00 and C owes B 10.00.
use Rattle.std.specs.Prelude.{ℤ, pos}
use Rattle.std.proofs.Common.{◌≡◌, ℕ, List, [], ◌∷◌, refl}
use Rattle.setoff_model.specs.Setoff.{Obligations, total_of, bound_of, inflow, outflow}
use Rattle.setoff_model.specs.Weighted.{weighted_total_of, weighted_bound_of}

abbrev o : Obligations
o = record {
  debtors = 0 ∷ 1 ∷ 0 ∷ 2 ∷ [];
  creditors = 1 ∷ 0 ∷ 2 ∷ 1 ∷ [];
  amounts = 1000 ∷ 600 ∷ 1000 ∷ 1000 ∷ [];
  spends = 0 ∷ 0 ∷ 0 ∷ [];
  rooms = 0 ∷ 0 ∷ 0 ∷ [];
}

abbrev weights : List ℕ
weights = 9 ∷ 1 ∷ 1 ∷ 1 ∷ []

-- 6.00 of the overdue claim, and the whole of the one against it
abbrev d : List ℕ
d = 600 ∷ 600 ∷ 0 ∷ 0 ∷ []

abbrev p : List ℤ
p = pos 0 ∷ pos 9 ∷ pos 1 ∷ []

total : weighted_total_of weights d ≡ 6000
total = refl

bound : weighted_bound_of o weights p ≡ 6000
bound = refl

of_b : inflow o d 1 ≡ outflow o d 1
of_b = refl

-- without weights the three others come to more
plain : total_of (0 ∷ 600 ∷ 600 ∷ 600 ∷ []) ≡ 1800
plain = refl

plain_bound : bound_of o (pos 0 ∷ pos 2 ∷ pos 1 ∷ []) ≡ 1800
plain_bound = refl

-- which by these weights count less
others : weighted_total_of weights (0 ∷ 600 ∷ 600 ∷ 600 ∷ []) ≡ 1800
others = refl
