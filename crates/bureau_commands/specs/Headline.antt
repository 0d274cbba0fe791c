-- What a run of batches is.
use Rattle.std.specs.Prelude.{◌≡◌, ◌^◌, ◌<◌, ℕ, Bool, false, List, [], ◌∷◌, ◌++◌, length, drop, Option, IsTrue}
use Rattle.disk_model.specs.Calls.{Seen, GoesOn, IsPresent}
use Rattle.live_runs.specs.disk_witness.specs.Shown.{Shown}
use Rattle.live_runs.specs.claim_history.specs.declared.call.PoolEntry.{PoolEntry}
use Rattle.live_runs.specs.claim_history.specs.declared.entry.Reply.TheVariants as reply
use Rattle.live_runs.specs.claim_history.specs.Pools.{AreValid, IsLegal, accepted_calls, entries_in}
use Rattle.live_runs.specs.claim_history.specs.Laws.{IsGreatestPublication}
use Rattle.live_runs.specs.claim_history.specs.PoolNeeds.{IsWithinLimits}
use Rattle.request_text.specs.declared.request.Request.{Request}
use Rattle.live_runs.specs.round_journal.specs.declared.record.Record.{Record}
use Rattle.live_runs.specs.round_journal.specs.Opened.{AreFound}
use Rattle.live_runs.specs.journal_replay.specs.Replays.{history_of, AreSound}
use Rattle.live_runs.specs.recorded_book.specs.Acting.{IsOpenedHistory}
use Rattle.live_runs.specs.recorded_book.specs.Calls.{CanBeKept, HoldsFirst, StandsForLeft}
use Rattle.live_runs.specs.bureau_desk.specs.Opening.{HasDeskOpened, HasDeskTurned, SparesUnsound}
use Rattle.live_runs.specs.recorded_book.specs.Devices.{AreBetween}
use Rattle.live_runs.specs.recorded_book.specs.Moments.{HasMoments}
use Rattle.live_runs.specs.printed_text.specs.declared.exit_status.ExitStatus.{ExitStatus}
use Rattle.live_runs.specs.printed_text.specs.Printing.{added_text}
use Rattle.live_runs.specs.served_lines.specs.Ends.{is_full_end}
use Rattle.live_runs.specs.batch_runs.specs.Order.{AreInOrder, IsShownAt}
use Rattle.live_runs.specs.batch_runs.specs.Runs.{Done, AreOf, AreServed, HasTaken, all_added, but_last, requests_of, some_end, text_of}
use Rattle.bureau_commands.specs.Journals.{HasRoomForAll, HoldsSound}

-- The history: that of the records that the disk held, with one abandonment for each round that they leave open, and then what the
-- batches added.
pub record IsRunHistory (tells : Bool) (bytes : List ℕ) (opened begun : List PoolEntry)
    (done : List Done) (history : List PoolEntry) : Type 0 where
  pub records : List Record
  pub found : AreFound tells bytes records
  pub sound : AreSound records
  pub opened_is : opened ≡ history_of records
  pub begins : IsOpenedHistory opened begun
  pub parts : history ≡ begun ++ all_added done

-- the lines of the abandonments, and the text of each batch
abbrev pub run_text : List PoolEntry → List PoolEntry → List Done → List ℕ
run_text opened begun done = added_text opened (drop (length opened) begun) ++ text_of begun done

-- The text that the sink has, whatever the status: that of all batches but the last, where any was served.
abbrev pub sure_text : List PoolEntry → List PoolEntry → List Done → List ℕ
sure_text opened begun [] = []
sure_text opened begun (b ∷ done) = run_text opened begun (but_last (b ∷ done))

-- Each published member is the publication of a round of its own pool, whose prices prove that no lawful set-off of the round's cut
-- discharges more.
abbrev pub RoundsAreGreatest : List PoolEntry → Type 0
RoundsAreGreatest history =
    (before later : List PoolEntry) (m : PoolEntry) (total : ℕ) → history ≡ before ++ m ∷ later → m.entry.reply ≡ reply.Published total
    → IsGreatestPublication (entries_in m.pool before) m.entry total

-- What a call leaves of the disk that ends before its first batch. Until the first sync had succeeded the disk reads as at the
-- start and no image is new; from then on each image holds the records of the start, with the first of the abandonments, any number of
-- them. More than nine bytes that stand for no sound records stay as they were.
pub record LeavesDisk (old new : Seen) : Type 0 where
  pub opened : HasDeskOpened old new
  pub spared : SparesUnsound old.reads new.reads

-- A crash at any moment since that of the opening's first sync, which is the first of the moments: of the disk that the opening
-- left, each image since that sync holds the records of the start, and no earlier one is new. The images of the moments up to the
-- end of the opening stay.
pub record SurvivesCrashes {D : Type 0} (seen : D → Seen) (old new : D) (opened : ℕ) (history : List PoolEntry) : Type 0 where
  pub first : ℕ
  pub begun : D
  pub turned : HasDeskTurned (seen old) first (seen begun)
  pub stays : GoesOn (seen begun) (seen new)
  pub moments : HasMoments (seen new) first opened history
  pub at_exit : (c : List ℕ) → IsPresent (seen new) c → HoldsFirst (accepted_calls history) c

-- What a call did to its sink and its witness: what the sink had taken before it and has taken after it, where it tells its bytes, and
-- what the witness had been shown before it and has been shown after it.
pub record Output (D : Type 0) : Type 0 where
  pub held_old : Option (List ℕ)
  pub held_new : Option (List ℕ)
  pub shown_old : List (Shown D)
  pub shown_new : List (Shown D)

abbrev pub output_of : {D : Type 0} → Option (List ℕ) → Option (List ℕ) → List (Shown D) → List (Shown D) → Output D
output_of held_old held_new shown_old shown_new =
    record { held_old = held_old; held_new = held_new; shown_old = shown_old; shown_new = shown_new }

-- Before the lines of the abandonments, when it had taken nothing of this call, the sink and the disk were shown, and each image of the
-- disk from then on holds all that was accepted up to the end of the opening. Behind these lines it goes on so before the text of each
-- batch: each image of the disk from then on holds all that was accepted up to the end of the batch.
abbrev pub IsInOrder : {D : Type 0} → (D → Seen) → D → List PoolEntry → Option (List ℕ) → List PoolEntry → List PoolEntry → List Done
    → List (Shown D) → Type 0
IsInOrder seen new history held opened begun done [] = ⊥
IsInOrder seen new history held opened begun done (s ∷ shown) =
    IsShownAt seen new history held [] (length begun) s
    × AreInOrder seen new history held (added_text opened (drop (length opened) begun)) begun done shown

-- A run that served batches, and the status and the text that are due. Its parts: the history; what is written, what the sink
-- took of it at least, and in which order with the disk; what the disk reads at the end, which stands for the accepted calls, perhaps
-- followed by one whose write failed, and so for sound records; that the history is legal and within the limits, its acts are valid, its
-- calls can be kept in a journal, and the counts of its devices lie between those of the disk, which have 8 bytes; the calls of each
-- lane; that within the bound no line is full; the rounds; crashes; and what a run leaves that failed to write the lines of the
-- abandonments.
pub record IsHeadline {D : Type 0} (seen : D → Seen) (output : Output D) (old new : D) (batches : List (List Request))
    (status : ExitStatus) (text : List ℕ) : Type 0 where
  pub opened : List PoolEntry
  pub begun : List PoolEntry
  pub done : List Done
  pub history : List PoolEntry
  pub is_history : IsRunHistory (seen old).tells (seen old).reads opened begun done history
  pub all : AreOf batches status done
  pub text_is : text ≡ run_text opened begun done
  pub taken : HasTaken output.held_old output.held_new (sure_text opened begun done)
  pub shown : List (Shown D)
  pub were_shown : output.shown_new ≡ output.shown_old ++ shown
  pub order : IsInOrder seen new history output.held_old opened begun done shown
  pub on_disk : IsTrue (seen old).tells → StandsForLeft history (seen new).reads
  pub sound : IsTrue (seen old).tells → HoldsSound (seen new)
  pub legal : IsLegal history
  pub within : IsWithinLimits history
  pub valid : AreValid history
  pub keepable : CanBeKept history
  pub between : AreBetween (seen old).count (seen new).count history
  pub counted : (seen new).count < 2 ^ 64
  pub served : AreServed begun done
  pub none_full : HasRoomForAll is_history.records (requests_of batches) → some_end is_full_end done ≡ false
  pub greatest : RoundsAreGreatest history
  pub survives : IsTrue (seen old).tells → SurvivesCrashes seen old new (length opened) history
  pub early : done ≡ [] → IsTrue (seen old).tells → LeavesDisk (seen old) (seen new)
