-- Text that is written in pieces through a buffer.
use Rattle.std.specs.Prelude.{◌≡◌, ◌≤◌, ℕ, List, ◌++◌, Option, Result, OnOk, OnErr, Vec, vec_capacity}
use Rattle.std.specs.declared.alloc.Global.{Global}
use Rattle.std.specs.Io.KnownBytes.{Appends}
use Rattle.setoff_model.specs.declared.limits.TheConstants.{OUTPUT_BYTES}
use Rattle.bureau_edge.specs.declared.failed.Failed.{Failed}
use Rattle.bureau_edge.specs.Streams.{AppendsPart, CountsFaults}
use Rattle.printed_text.specs.declared.exit_status.ExitStatus.{ExitStatus}
use Rattle.printed_text.specs.declared.exit_status.ExitStatus.TheVariants as statuses

-- a text went through the buffer: what was in it and the text are what the sink took and what is in it now
pub record GoesThrough (held_old held_new : Option (List ℕ)) (old new text : List ℕ) : Type 0 where
  pub taken : List ℕ
  pub split : old ++ text ≡ taken ++ new
  pub appended : Appends held_old held_new taken

-- what a printer leaves of the sink and the buffer: a text went through, or the sink failed, counted this, and took some first bytes of
-- what was in the buffer and the text; the buffer has room again
pub record Prints {S T : Type 0} (held : S → Option (List ℕ)) (faults : S → ℕ) (sink_old sink_new : S) (old new : Vec ℕ Global)
    (text : List ℕ) (result : Result T Failed) : Type 0 where
  pub ok : OnOk result (GoesThrough (held sink_old) (held sink_new) old.items new.items text)
  pub part : OnErr result (AppendsPart (held sink_old) (held sink_new) (old.items ++ text))
  pub cause : CountsFaults (faults sink_old) (faults sink_new) result
  pub room : OUTPUT_BYTES ≤ vec_capacity new

-- the status is the due one and the sink took its text, or it tells of the sink, which took some first bytes of the text
pub data IsWritten (held_old held_new : Option (List ℕ)) (due : ExitStatus) (text : List ℕ) : ExitStatus → Type 0 where
  whole : Appends held_old held_new text → IsWritten held_old held_new due text due
  broken : AppendsPart held_old held_new text → IsWritten held_old held_new due text statuses.Sink

-- a status and a text were due for some reason, and were written
pub record Wrote (IsDue : ExitStatus → List ℕ → Type 0) (held_old held_new : Option (List ℕ)) (status : ExitStatus) : Type 0 where
  pub due : ExitStatus
  pub text : List ℕ
  pub is_due : IsDue due text
  pub is_written : IsWritten held_old held_new due text status
