-- The claims of each party as lists of places, each of which leads to the next.
use Rattle.std.specs.Prelude.{◌≡◌, ℕ, ◌+◌, ◌<◌, ◌≤◌, ◌==◌, ◌||◌, Bool, true, false, List, length, slice_index}
use Rattle.setoff_model.specs.Setoff.{Obligations}
use Rattle.history_text.specs.declared.lists.ClaimLists.{ClaimLists}

-- the claim at a place names the party, as its creditor or its debtor
abbrev pub names_at : Obligations → ℕ → ℕ → Bool
names_at o party c = (slice_index o.creditors c == party) || (slice_index o.debtors c == party)

-- the place is the first, from one on, of a claim that names the party; or the number of claims, where none does
pub record IsNext (o : Obligations) (party from place : ℕ) : Type 0 where
  pub low : from ≤ place
  pub high : place ≤ length o.amounts
  pub none : (c : ℕ) → from ≤ c → c < place → names_at o party c ≡ false
  pub named : place < length o.amounts → names_at o party place ≡ true

-- Of the claims from a place on: the first of each party, and behind each claim the next of its creditor and the next of its debtor.
pub record AreListed (o : Obligations) (from : ℕ) (firsts credits debts : List ℕ) : Type 0 where
  pub first_each : length firsts ≡ length o.spends
  pub credit_each : length credits ≡ length o.amounts
  pub debt_each : length debts ≡ length o.amounts
  pub first_next : (party : ℕ) → party < length o.spends → IsNext o party from (slice_index firsts party)
  pub credit_next : (c : ℕ) → from ≤ c → c < length o.amounts → IsNext o (slice_index o.creditors c) (c + 1) (slice_index credits c)
  pub debt_next : (c : ℕ) → from ≤ c → c < length o.amounts → IsNext o (slice_index o.debtors c) (c + 1) (slice_index debts c)

abbrev pub IsListed : Obligations → ℕ → ClaimLists → Type 0
IsListed o from lists = AreListed o from lists.firsts.items lists.credits.items lists.debts.items
