-- What is told of the register of a firm.
use Rattle.std.specs.Prelude.{◌≡◌, ℕ, Bool, List}
use Rattle.weighed_round.specs.claim_history.specs.declared.call.PoolEntry.{PoolEntry}
use Rattle.journal_texts.specs.bureau_desk.specs.Opening.{HasViewed}
use Rattle.journal_texts.specs.bureau_desk.specs.journal_replay.specs.Replays.{AreSound, history_of}
use Rattle.journal_texts.specs.bureau_desk.specs.round_journal.specs.declared.record.Record.{Record}
use Rattle.journal_summaries.specs.Account.{account_status, account_text}
use Rattle.bureau_reports.specs.declared.account.Told.{Told}

-- it is the register of a firm of a pool after this history, with its status
pub record IsAccount (pool firm : List ℕ) (history : List PoolEntry) (told : Told) : Type 0 where
  pub text_is : told.text.items ≡ account_text pool firm history
  pub status_is : told.status ≡ account_status pool firm history

-- that after the history of records, which are sound
pub record TellsRecords (pool firm : List ℕ) (records : List Record) (told : Told) : Type 0 where
  pub sound : AreSound records
  pub account : IsAccount pool firm (history_of records) told

-- that after the history that a journal holds
pub record TellsJournal (tells : Bool) (bytes pool firm : List ℕ) (told : Told) : Type 0 where
  pub history : List PoolEntry
  pub has : HasViewed tells bytes history
  pub account : IsAccount pool firm history told
