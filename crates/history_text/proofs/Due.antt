-- What was due of members that are told, or of a round, from what was printed.
use Rattle.std.specs.Prelude.{Option}
use Rattle.std.proofs.Common.{◌≡◌, ℕ, Bool, true, List, ◌++◌, drop, take, subst}
use Rattle.std.specs.Io.KnownBytes.{Appends}
use Rattle.bureau_edge.specs.Streams.{AppendsPart}
use Rattle.bureau_edge.proofs.Known.{Appends-then, AppendsPart-after}
use Rattle.claim_history.specs.declared.call.PoolEntry.{PoolEntry}
use Rattle.printed_text.specs.declared.exit_status.ExitStatus.{ExitStatus}
use Rattle.printed_text.specs.declared.exit_status.ExitStatus.TheVariants as statuses
use Rattle.printed_text.specs.Printing.{added_text}
use Rattle.printed_text.specs.Texts.{memory_text}
use Rattle.printed_text.specs.Writing.{IsWritten, Wrote, broken, whole}
use Rattle.history_text.specs.declared.round_form.RoundForm.{RoundForm}
use Rattle.history_text.specs.declared.told.Told.TheVariants as told
use Rattle.history_text.specs.Histories.{HasPrinted, IsDoneWith, IsFormDue, IsFormText, IsToldDue, all_told, cut_short, done_with, no_memory_for, no_round_memory, round_status, round_told}

module _ (before members : List PoolEntry) (x y : Option (List ℕ)) where
  pub told_whole : Appends x y (added_text before members) → Wrote (IsToldDue before members) x y statuses.Done
  told_whole taken = record { due = statuses.Done; text = added_text before members; is_due = all_told; is_written = whole taken }

  pub told_broken : AppendsPart x y (added_text before members) → Wrote (IsToldDue before members) x y statuses.Sink
  told_broken part = record { due = statuses.Done; text = added_text before members; is_due = all_told; is_written = broken part }

-- a line was written behind some first bytes
written_behind : (x y z : Option (List ℕ)) (first text : List ℕ) (due status : ExitStatus) → Appends x y first → IsWritten y z due text status → IsWritten x z due (first ++ text) status
written_behind x y z first text due status before (whole taken) = whole (Appends-then x y z first text before taken)
written_behind x y z first text due status before (broken part) = broken (AppendsPart-after x y z first text before part)

pub told_short : (members : List PoolEntry) (from : ℕ) (x y z : Option (List ℕ)) (status : ExitStatus) → HasPrinted told.Short x y members from → IsWritten y z statuses.Memory memory_text status
    → Wrote (IsToldDue (take from members) (drop from members)) x z status
told_short members from x y z status part written = record {
  due = statuses.Memory;
  text = part.0 ++ memory_text;
  is_due = cut_short part.0 part.1;
  is_written = written_behind x y z part.0 memory_text statuses.Memory status part.2 written;
}

-- a text is told with its status
pub done_whole : (x y : Option (List ℕ)) (text : List ℕ) (status : ExitStatus) → IsWritten x y statuses.Done text status → Wrote (IsDoneWith text) x y status
done_whole x y text status written = record { due = statuses.Done; text = text; is_due = done_with; is_written = written }

pub done_memory : (x y : Option (List ℕ)) (text : List ℕ) (status : ExitStatus) → IsWritten x y statuses.Memory memory_text status → Wrote (IsDoneWith text) x y status
done_memory x y text status written = record { due = statuses.Memory; text = memory_text; is_due = no_memory_for; is_written = written }

-- what is told of a round, with its status
module _ (form : RoundForm) (round : ℕ) (pool : List ℕ) (history : List PoolEntry) where
  due_done : (text : List ℕ) → IsFormText form round pool history text × (round_status round pool history ≡ statuses.Done) → (due : ExitStatus) (t : List ℕ) → IsDoneWith text due t → IsFormDue form round pool history due t
  due_done text told due t done_with = subst (λ (s : ExitStatus). IsFormDue form round pool history s text) told.1 (round_told text told.0)
  due_done text told due t no_memory_for = no_round_memory

  pub wrote_done : (x y : Option (List ℕ)) (text : List ℕ) (status : ExitStatus) → IsFormText form round pool history text × (round_status round pool history ≡ statuses.Done) → Wrote (IsDoneWith text) x y status
      → Wrote (IsFormDue form round pool history) x y status
  wrote_done x y text status told w = record { due = w.due; text = w.text; is_due = due_done text told w.due w.text w.is_due; is_written = w.is_written }

  pub wrote_none : (x y : Option (List ℕ)) (text : List ℕ) (status : ExitStatus) → IsFormText form round pool history text × (round_status round pool history ≡ statuses.No) → IsWritten x y statuses.No text status
      → Wrote (IsFormDue form round pool history) x y status
  wrote_none x y text status told written = record {
    due = statuses.No;
    text = text;
    is_due = subst (λ (s : ExitStatus). IsFormDue form round pool history s text) told.1 (round_told text told.0);
    is_written = written;
  }

  pub round_memory : (x y : Option (List ℕ)) (status : ExitStatus) → IsWritten x y statuses.Memory memory_text status → Wrote (IsFormDue form round pool history) x y status
  round_memory x y status written = record { due = statuses.Memory; text = memory_text; is_due = no_round_memory; is_written = written }

-- where there is no round, no memory is wanted
pub no_memory : (x y : Option (List ℕ)) (text : List ℕ) (status : ExitStatus) (published : Bool) → IsWritten x y statuses.No text status → status ≡ statuses.Memory → published ≡ true
no_memory x y text status published (whole taken) is = absurd (cc is)
no_memory x y text status published (broken part) is = absurd (cc is)
