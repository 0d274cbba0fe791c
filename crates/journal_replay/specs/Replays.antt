-- The replay of a journal's records: the history of their calls, and the first record that is refused or full.
use Rattle.std.specs.Prelude.{◌≡◌, ℕ, Bool, true, false, not, ◌||◌, List, All, ◌∷◌, ◌++◌, Option, None, if◌then◌else◌}
use Rattle.setoff_model.specs.CutView.{CutView}
use Rattle.limited_book.specs.claim_history.specs.Acts.{is_publication}
use Rattle.limited_book.specs.claim_history.specs.declared.call.Call.{Call}
use Rattle.limited_book.specs.claim_history.specs.declared.call.PoolEntry.{PoolEntry}
use Rattle.limited_book.specs.claim_history.specs.History.{is_accepted, is_no_refusal}
use Rattle.limited_book.specs.claim_history.specs.Pools.{due_reply, with_due}
use Rattle.limited_book.specs.claim_history.specs.PoolNeeds.{Fits, IsWithinLimits, is_full}
use Rattle.limited_book.specs.claim_history.specs.PoolRounds.{open_cut_in}
use Rattle.round_journal.specs.declared.record.Record.{Record}
pub use Rattle.round_journal.specs.Records.{history_of, recorded_call}
use Rattle.journal_replay.specs.declared.replay_stop.ReplayStop.{ReplayStop}
use Rattle.journal_replay.specs.declared.replay_stop.ReplayStop.TheVariants.{Memory, BadAct, Overfull}

-- each call is accepted, and was within the limits when it was asked
pub record AreSound (records : List Record) : Type 0 where
  pub accepted : All (λ m. is_accepted m.entry ≡ true) (history_of records)
  pub within : IsWithinLimits (history_of records)

-- ---- the first faulty record

-- its pool refuses the call, or it is above the limits
abbrev pub is_faulty : List PoolEntry → Call → Bool
is_faulty history call = not (is_no_refusal (due_reply history call)) || is_full history call

-- the records before it are sound, and it is refused by their history or above the limits
pub record IsFirstFaulty (records before : List Record) (r : Record) : Type 0 where
  pub after : List Record
  pub parts : records ≡ before ++ r ∷ after
  pub sound : AreSound before
  pub faulty : is_faulty (history_of before) (recorded_call r) ≡ true

-- the call and its one reply are the one member more, which is accepted and within the limits
pub record IsReplayed (before after : List PoolEntry) (call : Call) : Type 0 where
  pub history : after ≡ with_due before call
  pub accepted : is_no_refusal (due_reply before call) ≡ true
  pub fits : Fits before call

-- The cut of the round that an accepted call publishes: the one that was open in its pool. A call that is no publication has none.
abbrev pub published_cut : List PoolEntry → Call → Option CutView
published_cut history call = if is_publication call.act then open_cut_in history call.pool else None

-- what is told of a call after a history: that it is refused, else that it is full
abbrev pub Tells : List PoolEntry → ℕ → Call → ReplayStop → Type 0
Tells history offset call Memory = Unit {0}
Tells history offset call (BadAct at got) = (at ≡ offset) × (got ≡ due_reply history call) × (is_no_refusal got ≡ false)
Tells history offset call (Overfull at) = (at ≡ offset) × (is_no_refusal (due_reply history call) ≡ true)
    × (is_full history call ≡ true)

-- the first faulty record, and what is told of it
pub record TellsFirst (records : List Record) (stop : ReplayStop) : Type 0 where
  pub before : List Record
  pub record_is : Record
  pub first : IsFirstFaulty records before record_is
  pub tells : Tells (history_of before) record_is.offset (recorded_call record_is) stop

-- the replay ends at its first faulty record, unless memory is missing
abbrev pub StopsFirst : List Record → ReplayStop → Type 0
StopsFirst records Memory = Unit {0}
StopsFirst records stop = TellsFirst records stop
