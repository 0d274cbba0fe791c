-- The cut of a round, read off what is known of claims and accounts.
use Rattle.std.specs.Prelude.{◌≡◌, ◌≢◌, ℕ, ◌≤◌, Bool, true, ◌&&◌, nat_le, List, [], ◌∷◌, length}
use Rattle.std.specs.Prelude.{map, filter, flat_map, find, All, AllPairs, Option, Some, None}
use Rattle.std.specs.List.{list_any, position_or_len}
use Rattle.setoff_model.specs.declared.limits.TheConstants.{MOST_AMOUNT, MOST_CLAIMS, MOST_FIRMS}
use Rattle.setoff_model.specs.declared.kind.Kind.{Kind}
use Rattle.setoff_model.specs.declared.cut.Party.{Party}
use Rattle.setoff_model.specs.declared.cut.CutClaim.{CutClaim}
use Rattle.setoff_model.specs.CutView.{CutView}
use Rattle.setoff_model.specs.Same.{same_name}
use Rattle.claim_history.specs.declared.fact.ClaimFact.{ClaimFact}
use Rattle.claim_history.specs.declared.fact.AccountFact.{AccountFact}
use Rattle.claim_history.specs.Cut.{distinct}
use Rattle.setoff_model.specs.Windows.{Window}
use Rattle.round_cut.specs.Windows.{KeepsLimits, window_of}

-- ---- the claims

-- the claim has a part that is agreed to and open, and is due on or before the horizon
abbrev pub takes_part : ℕ → ClaimFact → Bool
takes_part horizon c = nat_le 1 c.part && nat_le c.due horizon

-- the claims that take part, in their order
abbrev pub claims_due : ℕ → List ClaimFact → List ClaimFact
claims_due horizon claims = filter (takes_part horizon) claims

-- ---- the parties

-- the firms of claims in order of first appearance, debtor before creditor
abbrev pub firms_in : List ClaimFact → List (List ℕ)
firms_in claims = distinct (flat_map (λ c. c.debtor ∷ c.key.creditor ∷ []) claims)

-- the window of an account; none without one
abbrev pub window_or_none : Kind → Option AccountFact → Window
window_or_none kind None = record { spend = 0; room = 0 }
window_or_none kind (Some account) = window_of kind account

-- the window of the firm's account
abbrev pub window_in : List AccountFact → Kind → List ℕ → Window
window_in accounts kind firm = window_or_none kind (find (λ a. same_name firm a.firm) accounts)

-- the firm with this window
abbrev pub party_in : List AccountFact → Kind → List ℕ → Party
party_in accounts kind firm = record {
  firm = firm;
  spend = (window_in accounts kind firm).spend;
  room = (window_in accounts kind firm).room;
}

-- ---- the cut

-- the claim with its part, and the places of its debtor and its creditor among the firms
abbrev pub claim_among : List (List ℕ) → ClaimFact → CutClaim
claim_among firms c = record {
  key = c.key;
  debtor = position_or_len (same_name c.debtor) firms;
  creditor = position_or_len (same_name c.key.creditor) firms;
  amount = c.part;
}

-- the parties of claims, each with the window of its account
abbrev pub parties_in : List AccountFact → Kind → List ClaimFact → List Party
parties_in accounts kind due = map (party_in accounts kind) (firms_in due)

-- the claims, with their places among their firms
abbrev pub claims_in : List ClaimFact → List CutClaim
claims_in due = map (claim_among (firms_in due)) due

-- the cut of a round of this number, kind and horizon
abbrev pub cut_of_facts : ℕ → List ClaimFact → List AccountFact → Kind → ℕ → CutView
cut_of_facts round claims accounts kind horizon = record {
  round = round;
  kind = kind;
  parties = parties_in accounts kind (claims_due horizon claims);
  claims = claims_in (claims_due horizon claims);
}

-- ---- what a cut is made of

-- one of the accounts is the firm's
abbrev pub has_account : List AccountFact → List ℕ → Bool
has_account accounts firm = list_any (λ a. same_name firm a.firm) accounts

-- the claim is between two firms with accounts, its open amount is one of a request, and its part is at most that
pub record IsClaimOf (accounts : List AccountFact) (c : ClaimFact) : Type 0 where
  pub debtor : has_account accounts c.debtor ≡ true
  pub creditor : has_account accounts c.key.creditor ≡ true
  pub apart : c.debtor ≢ c.key.creditor
  pub left : c.left ≤ MOST_AMOUNT
  pub part : c.part ≤ c.left

-- claims with their own keys, between firms that each have one account
pub record AreFacts (claims : List ClaimFact) (accounts : List AccountFact) : Type 0 where
  pub few_claims : length claims ≤ MOST_CLAIMS
  pub few_accounts : length accounts ≤ MOST_FIRMS
  pub keys : AllPairs (λ c d. c.key ≢ d.key) claims
  pub firms : AllPairs (λ a b. a.firm ≢ b.firm) accounts
  pub each_claim : All (IsClaimOf accounts) claims
  pub each_account : All KeepsLimits accounts
