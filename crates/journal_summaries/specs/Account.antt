-- The register of a firm: what each accepted entry of a pool that concerns it adds and takes, and its position afterwards.
-- A past is a list of members, newest first. The history in order of time is its reverse.
use Rattle.std.specs.Prelude.{ℕ, ◌+◌, Bool, false, List, [], ◌∷◌, ◌++◌, length, map, reverse}
use Rattle.std.specs.Prelude.{sum_by, codes, decimal, is_some, Option, Some, None, if◌then◌else◌}
use Rattle.setoff_model.specs.CutView.{CutView}
use Rattle.setoff_model.specs.Texts.{cents_text, signed_cents_text}
use Rattle.printed_text.specs.claim_history.specs.declared.act.Act.{Act}
use Rattle.printed_text.specs.claim_history.specs.declared.call.PoolEntry.{PoolEntry}
use Rattle.printed_text.specs.claim_history.specs.declared.entry.Entry.{Entry}
use Rattle.printed_text.specs.claim_history.specs.declared.entry.Reply.{Reply}
use Rattle.printed_text.specs.claim_history.specs.declared.entry.Reply.TheVariants as reply
use Rattle.printed_text.specs.claim_history.specs.declared.fact.Position.{Position}
use Rattle.printed_text.specs.claim_history.specs.Acts.{act_text}
use Rattle.printed_text.specs.claim_history.specs.Facts.{Ledger, Settled, amount_or, discharged_by, discharged_to}
use Rattle.printed_text.specs.claim_history.specs.Facts.{gained_by, is_registered, party_place, position_of, spent_by}
use Rattle.printed_text.specs.claim_history.specs.States.{discharges_of, state}
use Rattle.printed_text.specs.claim_history.specs.Rounds.{open_cut}
use Rattle.printed_text.specs.claim_history.specs.Pools.{entries_in, is_in, ledger_in}
use Rattle.printed_text.specs.claim_history.specs.Touched.{is_of_firm}
use Rattle.printed_text.specs.firm_notices.specs.Tables.{csv_text}
use Rattle.printed_text.specs.declared.exit_status.ExitStatus.{ExitStatus}
use Rattle.printed_text.specs.declared.exit_status.ExitStatus.TheVariants as statuses

-- ---- one entry

-- The round that an entry publishes, of the cut that was open before, with its discharges.
abbrev pub settled_by : Option CutView → Act → Reply → List Settled
settled_by (Some cut) a (reply.Published total) = record { cut = cut; discharges = discharges_of a } ∷ []
settled_by _ a _ = []

-- what an accepted entry adds to the balance of a firm: the amount of a FUND, or what a publication discharges towards the firm
abbrev pub added : List ℕ → Option CutView → Entry → ℕ
added firm cut e = amount_or 0 (gained_by firm e.act) + sum_by (discharged_to firm) (settled_by cut e.act e.reply)

-- what it takes from it: the amount of a DRAW, or what a publication discharges by the firm
abbrev pub taken : List ℕ → Option CutView → Entry → ℕ
taken firm cut e = amount_or 0 (spent_by firm e.act) + sum_by (discharged_by firm) (settled_by cut e.act e.reply)

-- the firm is a party of the cut
abbrev pub is_party_of : Option CutView → List ℕ → Bool
is_party_of None firm = false
is_party_of (Some cut) firm = is_some (party_place cut.parties firm)

-- The register of a firm has the entry: it publishes a round of which the firm is a party, or is another accepted one that names the
-- firm or a claim of it, as claims are filed afterwards.
abbrev pub is_listed_by : List ℕ → Option CutView → Ledger → Act → Reply → Bool
is_listed_by firm cut l a (reply.Refused w) = false
is_listed_by firm cut l a (reply.Published total) = is_party_of cut firm
is_listed_by firm cut l a _ = is_of_firm l firm a

abbrev pub is_listed : List ℕ → Option CutView → Ledger → Entry → Bool
is_listed firm cut l e = is_listed_by firm cut l e.act e.reply

-- ---- rows

-- one row: the number of the act in the journal, the entry, what it adds and takes, and the position of the firm after it
pub record AccountRow : Type 0 where
  pub number : ℕ
  pub entry : Entry
  pub added : ℕ
  pub taken : ℕ
  pub position : Position

-- that of an entry of this number, with the cut that was open before and the ledger after it
abbrev pub row_of : List ℕ → ℕ → Option CutView → Ledger → Entry → AccountRow
row_of firm number cut l e = record {
  number = number;
  entry = e;
  added = added firm cut e;
  taken = taken firm cut e;
  position = position_of l firm;
}

-- the row of an entry, where the register has it
abbrev pub rows_of : List ℕ → ℕ → Option CutView → Ledger → Entry → List AccountRow
rows_of firm number cut l e = if is_listed firm cut l e then row_of firm number cut l e ∷ [] else []

-- the same of the newest member of a past, which has the number of members so far
abbrev pub rows_with : List ℕ → List ℕ → PoolEntry → List PoolEntry → List AccountRow
rows_with pool firm m past =
    if is_in pool m then rows_of firm (length (m ∷ past)) (open_cut (entries_in pool past))
    (state (entries_in pool (m ∷ past))).ledger m.entry else []

-- the rows of a past, in order of time
abbrev pub past_rows : List ℕ → List ℕ → List PoolEntry → List AccountRow
past_rows pool firm [] = []
past_rows pool firm (m ∷ past) = past_rows pool firm past ++ rows_with pool firm m past

-- the rows of a firm in a pool
abbrev pub account_rows : List ℕ → List ℕ → List PoolEntry → List AccountRow
account_rows pool firm history = past_rows pool firm (reverse history)

-- ---- the text

-- the names of the fields
abbrev pub account_names : List (List ℕ)
account_names = codes "act" ∷ codes "entry" ∷ codes "in" ∷ codes "out" ∷ codes "balance" ∷ codes "receivable" ∷ codes "payable" ∷ []

-- the entry as its line begins: the caller and what it asked
abbrev pub asked_text : Entry → List ℕ
asked_text e = decimal e.caller ++ codes " " ++ act_text e.act

-- the fields of a row
abbrev pub row_fields : AccountRow → List (List ℕ)
row_fields row =
    decimal row.number ∷ asked_text row.entry ∷ cents_text row.added ∷ cents_text row.taken ∷ signed_cents_text row.position.balance
    ∷ cents_text row.position.receivable ∷ cents_text row.position.payable ∷ []

-- the names, and the rows, as CSV
abbrev pub register_text : List AccountRow → List ℕ
register_text rows = csv_text (account_names ∷ map row_fields rows)

-- what is told of a firm that is not registered
abbrev pub no_firm_text : List ℕ → List ℕ
no_firm_text firm = codes "no firm " ++ firm ++ codes "\n"

-- the register of a firm of a pool, or that it is not registered there
abbrev pub account_text : List ℕ → List ℕ → List PoolEntry → List ℕ
account_text pool firm history =
    if is_registered (ledger_in history pool) firm then register_text (account_rows pool firm history) else no_firm_text firm

-- the status of that
abbrev pub account_status : List ℕ → List ℕ → List PoolEntry → ExitStatus
account_status pool firm history = if is_registered (ledger_in history pool) firm then statuses.Done else statuses.No
