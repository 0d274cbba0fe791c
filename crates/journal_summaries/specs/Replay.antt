-- The last entry of a replay, and the register that goes on with it.
use Rattle.std.specs.Prelude.{◌≡◌, ℕ, true, List, [], ◌∷◌, ◌++◌, Option, Some, None, if◌then◌else◌}
use Rattle.setoff_model.specs.declared.name.Key.{Key}
use Rattle.setoff_model.specs.CutView.{CutView, OutcomeView, WellFormed, obligations}
use Rattle.setoff_model.specs.Setoff.{IsLawful}
use Rattle.setoff_model.specs.Same.{same_name}
use Rattle.printed_text.specs.claim_history.specs.declared.act.Act.{Act}
use Rattle.printed_text.specs.claim_history.specs.declared.act.Act.TheVariants as act
use Rattle.printed_text.specs.claim_history.specs.declared.entry.Entry.{Entry}
use Rattle.printed_text.specs.claim_history.specs.declared.entry.Reply.{Reply}
use Rattle.printed_text.specs.claim_history.specs.declared.entry.Reply.TheVariants as reply
use Rattle.printed_text.specs.claim_history.specs.declared.call.PoolEntry.{PoolEntry}
use Rattle.printed_text.specs.claim_history.specs.Acts.{is_publication}
use Rattle.printed_text.specs.claim_history.specs.Facts.{Ledger, filing_of}
use Rattle.printed_text.specs.claim_history.specs.History.{AreValidEntries, IsLegalPool, MayFollowInPool, is_accepted}
use Rattle.printed_text.specs.claim_history.specs.PoolRounds.{open_cut_in}
use Rattle.printed_text.specs.claim_history.specs.Rounds.{open_cut_of}
use Rattle.printed_text.specs.claim_history.specs.Touched.{is_debtor_of}
use Rattle.printed_text.specs.firm_notices.specs.Tables.{HoldsText}
use Rattle.journal_summaries.specs.Account.{account_rows, register_text}
use Rattle.journal_summaries.specs.declared.firm_account.Register.{Register}

-- ---- the cut that is given

-- the cut that was open, where the reply publishes its round
abbrev pub cut_ended : Option CutView → Reply → Option CutView
cut_ended cut (reply.Published total) = cut
cut_ended cut _ = None

-- the entry publishes the round of the cut, with lawful discharges
pub record IsPublicationOf (cut : CutView) (e : Entry) : Type 0 where
  pub number : ℕ
  pub outcome : OutcomeView
  pub total : ℕ
  pub asks : e.act ≡ act.Publish number outcome
  pub reply_is : e.reply ≡ reply.Published total
  pub formed : WellFormed cut
  pub lawful : IsLawful (obligations cut) outcome.discharges

-- so it is of the cut that is given, if one is
abbrev pub IsCutOf : Option CutView → Entry → Type 0
IsCutOf given e = (cut : CutView) → given ≡ Some cut → IsPublicationOf cut e

-- the entry is the last one of a legal history of valid acts of a pool, and this is the cut of the round that it publishes, if it does
pub record IsLast (history : List Entry) (e : Entry) (cut : Option CutView) : Type 0 where
  pub before : List Entry
  pub parts : history ≡ before ++ e ∷ []
  pub legal : IsLegalPool before
  pub valid : AreValidEntries before
  pub next : MayFollowInPool before e
  pub cut_is : cut ≡ cut_ended (open_cut_of before) e.reply

-- The history of all pools ends with an accepted member, and this is the cut of the round that it publishes: the one that was open in
-- its pool. A member that is no publication has none.
pub record EndsWith (history : List PoolEntry) (cut : Option CutView) : Type 0 where
  pub before : List PoolEntry
  pub last : PoolEntry
  pub parts : history ≡ before ++ last ∷ []
  pub accepted : is_accepted last.entry ≡ true
  pub cut_is : cut ≡ (if is_publication last.entry.act then open_cut_in before last.pool else None)

-- the register is that of a firm of a pool, and has the rows of these members
pub record IsRegister (pool firm : List ℕ) (members : List PoolEntry) (r : Register) : Type 0 where
  pub pool_is : r.pool ≡ pool
  pub firm_is : r.firm ≡ firm
  pub rows : HoldsText r.table (register_text (account_rows pool firm members))

-- ---- the debtor that an act names

-- the claim was filed, against this debtor
abbrev pub IsDebtorOf : Ledger → Key → List ℕ → Type 0
IsDebtorOf l key debtor = (firm : List ℕ) → is_debtor_of firm (filing_of l key) ≡ same_name firm debtor

-- where an act names the debtor of a claim, it is the claim's
abbrev pub NamesDebtor : Ledger → Act → Type 0
NamesDebtor l (act.File key debtor amount due) = IsDebtorOf l key debtor
NamesDebtor l (act.Confirm key debtor agreed) = IsDebtorOf l key debtor
NamesDebtor l (act.Dispute key debtor) = IsDebtorOf l key debtor
NamesDebtor l _ = Unit {0}

-- so it is where the act is accepted
abbrev pub IsNamed : Ledger → Act → Reply → Type 0
IsNamed l a (reply.Refused w) = Unit {0}
IsNamed l a _ = NamesDebtor l a
