-- Batches that are served on a desk in turn.
use Rattle.std.specs.Prelude.{◌≡◌, ◌&&◌, ◌||◌, ℕ, Bool, List, [], ◌∷◌, ◌++◌, Option, Some}
use Rattle.std.specs.Prelude.{None, Result, OnErr, OnOk, length, take, drop, IsTrue}
use Rattle.std.specs.Io.KnownBytes.{Appends}
use Rattle.std.specs.List.{list_any}
use Rattle.disk_model.specs.Calls.{Seen}
use Rattle.disk_witness.specs.Shown.{Shown}
use Rattle.lane_runner.specs.claim_history.specs.declared.call.PoolEntry.{PoolEntry}
use Rattle.bureau_edge.specs.Streams.{AppendsPart}
use Rattle.lane_runner.specs.claim_history.specs.Needs.{is_of_device}
use Rattle.lane_runner.specs.request_text.specs.declared.request.Request.{Request}
use Rattle.lane_runner.specs.bureau_desk.specs.Desks.{DeskView}
use Rattle.lane_runner.specs.Batches.{HasRunBatch}
use Rattle.lane_runner.specs.served_lines.specs.declared.answer.Answer.{Answer}
use Rattle.lane_runner.specs.served_lines.specs.declared.line_end.LineEnd.{LineEnd}
use Rattle.lane_runner.specs.served_lines.specs.declared.line_end.LineEnd.TheVariants as ends
use Rattle.lane_runner.specs.served_lines.specs.Ends.{is_memory_end, is_full_end, has_line_end}
use Rattle.printed_text.specs.declared.exit_status.ExitStatus.{ExitStatus}
use Rattle.printed_text.specs.Printing.{printed_of, unanswered}
use Rattle.printed_text.specs.Writing.{IsWritten}
use Rattle.batch_runs.specs.declared.tally.Tally.{Tally}
use Rattle.batch_runs.specs.Order.{AreInOrder, IsHeldFrom}
use Rattle.batch_runs.specs.Runs.{Done, AreOf, AreServed, HasTaken, all_added, but_last, text_of, some_device, some_end}

-- of the base of a desk, what is of its opening is as it was
pub record HasSameOpening {D : Type 0} (old new : DeskView D) : Type 0 where
  pub at_first_sync : new.at_first_sync ≡ old.at_first_sync
  pub at_opening_end : new.at_opening_end ≡ old.at_opening_end
  pub opened_with : new.opened_with ≡ old.opened_with

-- what came of the lines of a batch: where none was asked, there was no memory for each
abbrev pub told_by : List Answer → Option (List Answer) → List Answer
told_by unasked (Some answers) = answers
told_by unasked None = unasked

abbrev pub answers_of : List Request → Option (List Answer) → List Answer
answers_of batch answers = told_by (unanswered batch) answers

-- a line ended so of a batch that has one, or has none
abbrev pub ended_so : (LineEnd → Bool) → Bool → Option (List Answer) → Bool
ended_so test some_line (Some answers) = has_line_end test answers
ended_so test some_line None = test ends.Memory && some_line

-- what a tally of these batches tells
pub record IsTally (tally : Tally) (done : List Done) : Type 0 where
  pub memory : tally.memory ≡ some_end is_memory_end done
  pub device : tally.device ≡ some_device done
  pub full : tally.full ≡ some_end is_full_end done

-- the text of a batch that was served between two histories
abbrev pub text_between : (old new : List PoolEntry) → List Request → Option (List Answer) → List ℕ
text_between old new batch answers = printed_of (take (length old) new) (drop (length old) new) (answers_of batch answers)

-- One batch was served, and counted into a tally. Then the sink and the disk were shown, and then its text was written, or the sink
-- failed at it.
pub record HasToldBatch {D T E : Type 0} (seen : D → Seen) (old new : DeskView D) (batch : List Request) (before after : Tally)
    (held_old held_new : Option (List ℕ)) (shown_old shown_new : List (Shown D)) (written : Result T E) : Type 0 where
  pub answers : Option (List Answer)
  pub ran : HasRunBatch seen old new batch answers
  pub memory : after.memory ≡ (before.memory || has_line_end is_memory_end (answers_of batch answers))
  pub device : after.device ≡ (before.device || list_any (λ m. is_of_device m.entry.reply) (drop (length old.history) new.history))
  pub full : after.full ≡ (before.full || has_line_end is_full_end (answers_of batch answers))
  pub shown : shown_new ≡ shown_old ++ (record { held = held_old; disk = new.disk }) ∷ []
  pub ok : OnOk written (Appends held_old held_new (text_between old.history new.history batch answers))
  pub part : OnErr written (AppendsPart held_old held_new (text_between old.history new.history batch answers))

-- Batches were served in turn, and what each added was written after it was served. They are all, unless a write failed, which ends
-- the run: the sink took the texts of all of them but the last. Before the text of each the sink and the disk were shown, and what was
-- held of the disk at the start is held at the end.
pub record HasRunBatches {D : Type 0} (seen : D → Seen) (old new : DeskView D) (batches : List (List Request))
    (held_old held_new : Option (List ℕ)) (shown_old shown_new : List (Shown D)) (status : ExitStatus) : Type 0 where
  pub done : List Done
  pub due : ExitStatus
  pub all : AreOf batches due done
  pub history : new.history ≡ old.history ++ all_added done
  pub served : AreServed old.history done
  pub opening : HasSameOpening old new
  pub none : done ≡ [] → new ≡ old
  pub written : IsWritten held_old held_new due (text_of old.history done) status
  pub told : HasTaken held_old held_new (text_of old.history (but_last done))
  pub shown : List (Shown D)
  pub were_shown : shown_new ≡ shown_old ++ shown
  pub order : AreInOrder seen new.disk new.history held_old [] old.history done shown
  pub held : IsTrue (seen new.disk).tells → IsHeldFrom seen old.disk old.disk (length old.history) old.history
      → IsHeldFrom seen old.disk new.disk (length old.history) new.history
