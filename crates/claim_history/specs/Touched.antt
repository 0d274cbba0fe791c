-- Which firms an entry touches: those whose account or position it may change.
use Rattle.std.specs.Prelude.{◌≡◌, ℕ, Bool, true, false, ◌||◌, List, ◌++◌, All, Option, Some, None}
use Rattle.setoff_model.specs.declared.name.Key.{Key}
use Rattle.setoff_model.specs.Same.{same_name}
use Rattle.claim_history.specs.declared.act.Act.{Act}
use Rattle.claim_history.specs.declared.act.Act.TheVariants as act
use Rattle.claim_history.specs.declared.entry.Reply.{Reply}
use Rattle.claim_history.specs.declared.entry.Reply.TheVariants as reply
use Rattle.claim_history.specs.declared.entry.Entry.{Entry}
use Rattle.claim_history.specs.Facts.{Filing, Ledger, filing_of, is_registered, account_fact, position_of}
use Rattle.claim_history.specs.States.{state_of}
use Rattle.claim_history.specs.History.{IsLegalPool}

-- the firm is the debtor of a filed claim
abbrev pub is_debtor_of : List ℕ → Option Filing → Bool
is_debtor_of firm None = false
is_debtor_of firm (Some filing) = same_name firm filing.debtor

-- the firm is the creditor or the debtor of the claim
abbrev pub is_side_of : Ledger → List ℕ → Key → Bool
is_side_of l firm key = same_name firm key.creditor || is_debtor_of firm (filing_of l key)

-- the act names the firm, or a claim of it
abbrev pub is_of_firm : Ledger → List ℕ → Act → Bool
is_of_firm l firm (act.Firm other) = same_name firm other
is_of_firm l firm (act.File key debtor amount due) = is_side_of l firm key
is_of_firm l firm (act.Confirm key debtor agreed) = is_side_of l firm key
is_of_firm l firm (act.Dispute key debtor) = is_side_of l firm key
is_of_firm l firm (act.Withdraw key) = is_side_of l firm key
is_of_firm l firm (act.Receive key amount) = is_side_of l firm key
is_of_firm l firm (act.Fund other amount) = same_name firm other
is_of_firm l firm (act.Draw other amount) = same_name firm other
is_of_firm l firm (act.Limit other credit ceiling) = same_name firm other
is_of_firm l firm (act.Offer other amount) = same_name firm other
is_of_firm l firm (act.Position other) = false
is_of_firm l firm (act.Close kind horizon) = false
is_of_firm l firm act.Abandon = false
is_of_firm l firm (act.Publish round outcome) = false

-- a refusal touches no firm, and a publication any; another accepted act those that are named
abbrev pub touches_by : Ledger → List ℕ → Act → Reply → Bool
touches_by l firm a (reply.Refused w) = false
touches_by l firm a (reply.Published total) = true
touches_by l firm a _ = is_of_firm l firm a

abbrev pub touches : Ledger → List ℕ → Entry → Bool
touches l firm e = touches_by l firm e.act e.reply

-- the firm is registered after as before, with the same account and the same position
pub record Stays (before later : Ledger) (firm : List ℕ) : Type 0 where
  pub registered : is_registered later firm ≡ is_registered before firm
  pub account : account_fact later firm ≡ account_fact before firm
  pub position : position_of later firm ≡ position_of before firm

-- a firm that no later entry touches stays as it is; claims are those of the longer history
abbrev pub TouchLaw : Type 0
TouchLaw = (history later : List Entry) (firm : List ℕ) → IsLegalPool (history ++ later)
    → All (λ e. touches (state_of (history ++ later)).ledger firm e ≡ false) later
    → Stays (state_of history).ledger (state_of (history ++ later)).ledger firm
