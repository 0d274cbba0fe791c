-- The tables of claims and accounts, and how an entry changes them.
use Rattle.std.specs.Prelude.{◌≡◌, ℕ, Bool, length, ◌-◌, ◌≤◌, count_by, All, ◌∷◌, ◌++◌, []}
use Rattle.std.specs.Prelude.{List, map, Option, None, pos, ◌+ℤ◌, ◌-ℤ◌, if◌then◌else◌}
use Rattle.setoff_model.specs.declared.name.Key.{Key}
use Rattle.setoff_model.specs.declared.limits.TheConstants.{FIRST_CEILING}
use Rattle.setoff_model.specs.Same.{same_name, same_key}
use Rattle.claim_history.specs.declared.act.Act.{Act}
use Rattle.claim_history.specs.declared.act.Act.TheVariants as act
use Rattle.claim_history.specs.declared.entry.Entry.{Entry}
use Rattle.claim_history.specs.declared.fact.Status.{Status}
use Rattle.claim_history.specs.declared.fact.Status.TheVariants as status
use Rattle.claim_history.specs.declared.fact.ClaimFact.{ClaimFact}
use Rattle.claim_history.specs.declared.fact.AccountFact.{AccountFact}
use Rattle.claim_history.specs.Facts.{amount_or, is_confirmed}
use Rattle.claim_history.specs.History.{is_accepted}
use Rattle.claim_history.specs.Laws.{IsWithin}

-- ---- tables

-- the claims in order of filing, the mark of each, and how many may be filed without taking memory
pub record ClaimsView : Type 0 where
  pub facts : List ClaimFact
  pub marks : List Bool
  pub room : ℕ

-- the accounts in order of registration, the mark of each, and how many firms may be registered without taking memory
pub record AccountsView : Type 0 where
  pub facts : List AccountFact
  pub marks : List Bool
  pub room : ℕ

-- ---- accounts

-- the account of a firm that was just registered
abbrev pub new_account : List ℕ → AccountFact
new_account firm = record { firm = firm; balance = pos 0; credit = 0; ceiling = FIRST_CEILING; offer = 0 }

-- the firm's row with the amount put in
abbrev pub funded : List ℕ → ℕ → AccountFact → AccountFact
funded firm amount a = if same_name firm a.firm then record a { balance = a.balance +ℤ pos amount } else a

-- the firm's row with the amount taken out
abbrev pub drawn : List ℕ → ℕ → AccountFact → AccountFact
drawn firm amount a = if same_name firm a.firm then record a { balance = a.balance -ℤ pos amount } else a

-- the firm's row with new limits
abbrev pub limited : List ℕ → ℕ → ℕ → AccountFact → AccountFact
limited firm credit ceiling a = if same_name firm a.firm then record a { credit = credit; ceiling = ceiling } else a

-- the firm's row with a new offer
abbrev pub offered : List ℕ → ℕ → AccountFact → AccountFact
offered firm amount a = if same_name firm a.firm then record a { offer = amount } else a

-- the accounts after an accepted act
abbrev pub accounts_after : Act → List AccountFact → List AccountFact
accounts_after (act.Firm firm) accounts = accounts ++ new_account firm ∷ []
accounts_after (act.Fund firm amount) accounts = map (funded firm amount) accounts
accounts_after (act.Draw firm amount) accounts = map (drawn firm amount) accounts
accounts_after (act.Limit firm credit ceiling) accounts = map (limited firm credit ceiling) accounts
accounts_after (act.Offer firm amount) accounts = map (offered firm amount) accounts
accounts_after _ accounts = accounts

-- the act registers no firm
abbrev pub RegistersNone : Act → Type 0
RegistersNone (act.Firm firm) = ⊥
RegistersNone _ = Unit {0}

-- the accounts after an entry; a refusal changes nothing
abbrev pub accounts_with : Entry → List AccountFact → List AccountFact
accounts_with e accounts = if is_accepted e then accounts_after e.act accounts else accounts

-- ---- claims

-- a claim that was just filed
abbrev pub new_claim : Key → List ℕ → ℕ → ℕ → ClaimFact
new_claim key debtor amount due =
    record { key = key; debtor = debtor; status = status.Filed; amount = amount; left = amount; part = 0; due = due }

-- what is open of the amount that is agreed to, or of all where none is named: what was paid counts against it first; 0 in another
-- status
abbrev pub part_in : Status → Option ℕ → ClaimFact → ℕ
part_in to agreed c = if is_confirmed to then amount_or c.amount agreed - (c.amount - c.left) else 0

-- the claim with a new status, and what is agreed to in it
abbrev pub restated : Status → Option ℕ → ClaimFact → ClaimFact
restated to agreed c = record c { status = to; part = part_in to agreed c }

-- the key's row with a new status
abbrev pub with_status : Key → Status → Option ℕ → ClaimFact → ClaimFact
with_status key to agreed c = if same_key key c.key then restated to agreed c else c

-- the claim with an amount taken off what is open and off the part that is agreed to
abbrev pub reduced : ℕ → ClaimFact → ClaimFact
reduced amount c = record c { left = c.left - amount; part = c.part - amount }

-- the key's row with the amount received
abbrev pub with_receipt : Key → ℕ → ClaimFact → ClaimFact
with_receipt key amount c = if same_key key c.key then reduced amount c else c

-- the claims after an accepted act
abbrev pub claims_after : Act → List ClaimFact → List ClaimFact
claims_after (act.File key debtor amount due) claims = claims ++ new_claim key debtor amount due ∷ []
claims_after (act.Confirm key debtor agreed) claims = map (with_status key status.Confirmed agreed) claims
claims_after (act.Dispute key debtor) claims = map (with_status key status.Disputed None) claims
claims_after (act.Withdraw key) claims = map (with_status key status.Withdrawn None) claims
claims_after (act.Receive key amount) claims = map (with_receipt key amount) claims
claims_after _ claims = claims

-- the claims after an entry; a refusal changes nothing
abbrev pub claims_with : Entry → List ClaimFact → List ClaimFact
claims_with e claims = if is_accepted e then claims_after e.act claims else claims

-- ---- what the tables keep

-- no firm has two rows
abbrev pub FirmsOnce : List AccountFact → Type 0
FirmsOnce accounts = (firm : List ℕ) → count_by (λ a. same_name firm a.firm) accounts ≤ 1

-- no key has two rows
abbrev pub KeysOnce : List ClaimFact → Type 0
KeysOnce claims = (key : Key) → count_by (λ c. same_key key c.key) claims ≤ 1

-- each balance is from -most to most
abbrev pub AreWithin : ℕ → List AccountFact → Type 0
AreWithin most accounts = All (λ a. IsWithin most most a.balance) accounts

-- no balance is further from zero than the first ceiling
abbrev pub AreSmall : List AccountFact → Type 0
AreSmall accounts = All (λ a. IsWithin FIRST_CEILING FIRST_CEILING a.balance) accounts

pub record AreAccounts (accounts : List AccountFact) : Type 0 where
  pub once : FirmsOnce accounts
  pub small : AreSmall accounts

-- the accounts of the firms of an index, in its order, and a mark for each
pub record AreAccountsOf (names : List (List ℕ)) (accounts : List AccountFact) (marks : List Bool) : Type 0 where
  pub names_are : names ≡ map (λ a. a.firm) accounts
  pub one_each : length marks ≡ length accounts
  pub kept : AreAccounts accounts
