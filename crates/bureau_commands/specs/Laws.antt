-- What the promise of a run comes to: of each moment after a crash, of the next call, and of what `history` prints later.
use Rattle.std.specs.Prelude.{◌≡◌, ◌<◌, ◌≤◌, ◌⊎◌, ℕ, true, List, [], ◌∷◌, ◌++◌, All, length, drop, None, IsTrue}
use Rattle.disk_model.specs.Calls.{Seen, IsPresent}
use Rattle.live_runs.specs.claim_history.specs.declared.call.Call.{Call}
use Rattle.live_runs.specs.claim_history.specs.declared.call.PoolEntry.{PoolEntry}
use Rattle.live_runs.specs.claim_history.specs.History.{is_accepted}
use Rattle.live_runs.specs.claim_history.specs.Pools.{accepted_calls, accepted_members, answered, due_reply}
use Rattle.live_runs.specs.claim_history.specs.PoolRounds.{open_cut_in}
use Rattle.request_text.specs.declared.request.Request.{Request}
use Rattle.live_runs.specs.printed_text.specs.declared.exit_status.ExitStatus.{ExitStatus}
use Rattle.live_runs.specs.printed_text.specs.Printing.{added_text, ends_text, statement_of}
use Rattle.bureau_reports.specs.history_text.specs.Histories.{IsRoundText, history_text, publishes_round}
use Rattle.bureau_reports.specs.history_text.specs.Accepted.{accepted_text}
use Rattle.live_runs.specs.recorded_book.specs.Calls.{TriedLast}
use Rattle.live_runs.specs.recorded_book.specs.Moments.{HoldsAt}
use Rattle.live_runs.specs.batch_runs.specs.Runs.{Done, all_added}
use Rattle.live_runs.specs.bureau_desk.specs.Opening.{HasViewed, HoldsOpened}
use Rattle.bureau_commands.specs.Journals.{HasAuditFault, HoldsSound, HoldsUnsound}
use Rattle.bureau_commands.specs.Headline.{IsHeadline, Output, SurvivesCrashes, run_text}

-- The disk that comes back is tied to the one that was handed in: the images of the start are as they were, and none between it and
-- the first sync is new. From the first sync up to the end of the opening each holds the records of the start, with the first of the
-- abandonments, any number of them.
pub record IsTied (old new : Seen) (first ended : ℕ) : Type 0 where
  pub begins : old.moment ≤ first
  pub follows : first ≤ ended
  pub within : ended ≤ new.moment
  pub no_more : (t : ℕ) (c : List ℕ) → t ≤ old.moment → new.image t c → old.image t c
  pub no_fewer : (t : ℕ) (c : List ℕ) → t ≤ old.moment → old.image t c → new.image t c
  pub early : (t : ℕ) (c : List ℕ) → old.moment < t → t < first → new.image t c → IsPresent old c
  pub late : (t : ℕ) (c : List ℕ) → first ≤ t → t ≤ ended → new.image t c → HoldsOpened old.reads c

-- so it is wherever the clause on crashes holds
abbrev pub CrashLaw : {D : Type 0} → (D → Seen) → Type 0
CrashLaw {D} seen = (old new : D) (opened : ℕ) (history : List PoolEntry) (s : SurvivesCrashes seen old new opened history)
    → IsTied (seen old) (seen new) s.first (seen s.begun).moment

-- Each image of the disk that comes back, of any moment from the start of the call to its end, is one that a crash could leave at the
-- start; or it holds the first so many accepted calls, from those that were opened to all of them, alone or with one more.
abbrev pub ImageLaw : {D : Type 0} → (D → Seen) → Type 0
ImageLaw {D} seen = (old new : D) (opened : ℕ) (history : List PoolEntry) → SurvivesCrashes seen old new opened history → (t : ℕ)
    (c : List ℕ) → (seen old).moment ≤ t → t ≤ (seen new).moment → (seen new).image t c
    → IsPresent (seen old) c ⊎ ((i : ℕ) × (opened ≤ i) × (i ≤ length (accepted_calls history)) × HoldsAt history i c)

-- no cause of the status `Unsound` is there, and none of `No` of an audit
pub record HasNoFault (disk : Seen) : Type 0 where
  pub no_opening : HoldsUnsound disk → ⊥
  pub no_audit : (status : ExitStatus) → HasAuditFault disk.reads status → ⊥

-- so it is of a disk that holds sound records, as a run leaves it
abbrev pub NextLaw : {D : Type 0} → (D → Seen) → Type 0
NextLaw {D} seen = (disk : D) → HoldsSound (seen disk) → HasNoFault (seen disk)

-- each member that batches added is accepted, and each of their lines was replied to
pub record AreAllAccepted (done : List Done) : Type 0 where
  pub accepted : All (λ m. is_accepted m.entry ≡ true) (all_added done)
  pub replied : All (λ b. ends_text b.answers ≡ []) done

-- Of what a run printed: the lines of the abandonments, and those of the accepted members of its batches, each publication followed by
-- its statement. What is left out is the lines of refused members, and those of lines that were not replied to.
abbrev pub kept_text : List PoolEntry → List PoolEntry → List Done → List ℕ
kept_text opened begun done = added_text opened (drop (length opened) begun) ++ accepted_text begun (all_added done)

-- no member; or one for which the disk failed, after which none was accepted, with the reply that is due to its call
abbrev pub IsTriedMember : List PoolEntry → List PoolEntry → Type 0
IsTriedMember history last =
    (last ≡ []) ⊎ ((call : Call) × TriedLast history call × (last ≡ answered call (due_reply history call) ∷ []))

-- What is read later of the disk that a run leaves. Its members: the accepted ones of the run's history, with the very replies that they
-- had, and behind them perhaps the one for which the disk failed last. What `history` prints of them: what it prints of the disk that
-- was handed in, and then what is kept of the run's own text, all of it where nothing was refused and each line was replied to. What
-- `statement` prints of a round that was published: the statement that stood behind the line of the publication.
pub record IsRetold (opened begun : List PoolEntry) (done : List Done) (history read : List PoolEntry) : Type 0 where
  pub last : List PoolEntry
  pub tried : IsTriedMember history last
  pub members : read ≡ accepted_members history ++ last
  pub text : history_text None read ≡ history_text None opened ++ kept_text opened begun done ++ added_text history last
  pub whole : AreAllAccepted done → kept_text opened begun done ≡ run_text opened begun done
  pub statement : (before later : List PoolEntry) (m : PoolEntry) (round : ℕ) (told : List ℕ) → history ≡ before ++ m ∷ later
      → publishes_round round m.entry ≡ true → IsRoundText round m.pool read told
      → told ≡ statement_of (open_cut_in before m.pool) m.entry.act m.entry.reply

-- So it is whatever the batches, and in whichever order their lanes were served, with refusals among them and earlier runs before.
abbrev pub HistoryLaw : {D : Type 0} → (D → Seen) → Type 0
HistoryLaw {D} seen = (output : Output D) (old new : D) (batches : List (List Request)) (status : ExitStatus)
    (text : List ℕ) (ran : IsHeadline seen output old new batches status text) → IsTrue (seen old).tells
    → (read : List PoolEntry) → HasViewed (seen new).tells (seen new).reads read
    → IsRetold ran.opened ran.begun ran.done ran.history read
