-- What the printed text of batches shows of their entries.
use Rattle.std.specs.Prelude.{◌≡◌, ◌<◌, ◌^◌, ℕ, Bool, false, not, ◌&&◌, List, ◌++◌, All}
use Rattle.std.specs.List.{AllZip}
use Rattle.batch_runs.specs.claim_history.specs.declared.call.PoolEntry.{PoolEntry}
use Rattle.batch_runs.specs.claim_history.specs.declared.entry.Entry.{Entry}
use Rattle.batch_runs.specs.claim_history.specs.Acts.{is_publication}
use Rattle.batch_runs.specs.claim_history.specs.History.{is_accepted}
use Rattle.batch_runs.specs.claim_history.specs.Pools.{AreValid, IsLegal}
use Rattle.batch_runs.specs.claim_history.specs.PoolNeeds.{IsWithinLimits}
use Rattle.batch_runs.specs.recorded_book.specs.Calls.{CanBeKept}
use Rattle.batch_runs.specs.recorded_book.specs.Devices.{AreBetween}
use Rattle.batch_runs.specs.Runs.{Done, all_added, text_of}
use Rattle.entry_reading.specs.Shown.{IsEntry, ShowSame}

-- a publication that was refused: no text shows its outcome
abbrev pub is_untold : Entry → Bool
is_untold e = is_publication e.act && not (is_accepted e)

-- two entries that no text tells apart: they are one, but for the outcome of a publication that was refused
pub record ReadSame (m n : PoolEntry) : Type 0 where
  pub shown : ShowSame m n
  pub one : is_untold m.entry ≡ false → m ≡ n

-- entries that may be added to a history: it stays legal, of valid acts
pub record MayBeAdded (before added : List PoolEntry) : Type 0 where
  pub legal : IsLegal (before ++ added)
  pub valid : AreValid (before ++ added)
  pub entries : All IsEntry added

-- What was printed of batches fixes their entries, where those before them are known.
abbrev pub TextLaw : Type 0
TextLaw = (before : List PoolEntry) (done other : List Done) → MayBeAdded before (all_added done) → MayBeAdded before (all_added other)
    → text_of before done ≡ text_of before other → AllZip ReadSame (all_added done) (all_added other)

-- What a run tells of what it added to a history: all is legal, of valid acts, within the limits, and of calls that a journal can
-- keep; and the counts of devices lie between two numbers of 8 bytes.
pub record WereAdded (before added : List PoolEntry) : Type 0 where
  pub legal : IsLegal (before ++ added)
  pub valid : AreValid (before ++ added)
  pub within : IsWithinLimits (before ++ added)
  pub keepable : CanBeKept (before ++ added)
  pub low : ℕ
  pub high : ℕ
  pub between : AreBetween low high (before ++ added)
  pub short : high < 2 ^ 64

-- so it may be added
abbrev pub AddedLaw : Type 0
AddedLaw = (before added : List PoolEntry) → WereAdded before added → MayBeAdded before added
