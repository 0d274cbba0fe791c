-- A balance changed by an amount fits 64 bits.
use Rattle.std.specs.Prelude.{ℤ, pos, ◌+ℤ◌, ◌-ℤ◌}
use Rattle.std.proofs.Common.{◌≡◌, ℕ, ◌*◌, ◌<◌, to_z, of_z, w64, arith}
use Rattle.std.proofs.lemmas.Int.{ints, clamps}
use Rattle.std.specs.Prelude.{map, if◌then◌else◌}
use Rattle.std.proofs.Common.{Bool, true, false, List, get_or}
use Rattle.std.proofs.lemmas.List.Elements.{All-map}
use Rattle.setoff_model.specs.declared.limits.TheConstants.{SUM_LIMIT, FIRST_CEILING}
use Rattle.setoff_model.specs.Same.{same_name}
use Rattle.claim_history.specs.declared.fact.AccountFact.{AccountFact}
use Rattle.claim_history.specs.Laws.{IsWithin}
use Rattle.fact_tables.specs.Tables.{AreSmall, AreWithin, funded}

pub put_in : (b : ℤ) (a : ℕ) → IsWithin (3 * SUM_LIMIT) (3 * SUM_LIMIT) b → a < SUM_LIMIT → to_z w64 (of_z w64 (to_z w64 (of_z w64 b) +ℤ to_z w64 a)) ≡ b +ℤ pos a
put_in b a within lt = omega (arith, ints, clamps, within.0, within.1, lt)

pub taken_out : (b : ℤ) (a : ℕ) → IsWithin (3 * SUM_LIMIT) (3 * SUM_LIMIT) b → a < SUM_LIMIT → to_z w64 (of_z w64 (to_z w64 (of_z w64 b) -ℤ to_z w64 a)) ≡ b -ℤ pos a
taken_out b a within lt = omega (arith, ints, clamps, within.0, within.1, lt)

pub kept : (b : ℤ) → IsWithin FIRST_CEILING FIRST_CEILING b → to_z w64 (of_z w64 b) ≡ b
kept b within = omega (arith, ints, clamps, within.0, within.1)

-- small balances are near
pub near : (accounts : List AccountFact) → AreSmall accounts → AreWithin (3 * SUM_LIMIT) accounts
near accounts small k a lt = further (small k a lt)
  where
    further : {z : ℤ} → IsWithin FIRST_CEILING FIRST_CEILING z → IsWithin (3 * SUM_LIMIT) (3 * SUM_LIMIT) z
    further within = record { 0 = omega (arith, ints, within.0, within.1); 1 = omega (arith, ints, within.0, within.1) }

pub nearer : (accounts : List AccountFact) → AreWithin (2 * SUM_LIMIT) accounts → AreWithin (3 * SUM_LIMIT) accounts
nearer accounts within k a lt = further (within k a lt)
  where
    further : {z : ℤ} → IsWithin (2 * SUM_LIMIT) (2 * SUM_LIMIT) z → IsWithin (3 * SUM_LIMIT) (3 * SUM_LIMIT) z
    further within = record { 0 = omega (arith, ints, within.0, within.1); 1 = omega (arith, ints, within.0, within.1) }

-- and so they are with one amount put in
pub near_funded : (firm : List ℕ) (x : ℕ) (accounts : List AccountFact) → x < SUM_LIMIT → AreWithin (2 * SUM_LIMIT) accounts → AreWithin (3 * SUM_LIMIT) (map (funded firm x) accounts)
near_funded firm x accounts lt within =
    All-map (λ (a : AccountFact). IsWithin (3 * SUM_LIMIT) (3 * SUM_LIMIT) a.balance) (funded firm x) accounts (λ k a less. by (same_name firm (get_or accounts k a).firm) (get_or accounts k a) (within k a less))
  where
    by : (b : Bool) (a : AccountFact) → IsWithin (2 * SUM_LIMIT) (2 * SUM_LIMIT) a.balance → IsWithin (3 * SUM_LIMIT) (3 * SUM_LIMIT) (if b then record a { balance = a.balance +ℤ pos x } else a).balance
    by true a within = record { 0 = omega (arith, ints, within.0, within.1, lt); 1 = omega (arith, ints, within.0, within.1, lt) }
    by false a within = record { 0 = omega (arith, ints, within.0, within.1); 1 = omega (arith, ints, within.0, within.1) }
