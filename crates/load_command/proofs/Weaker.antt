-- What is told of a load with less of its sink.
use Rattle.std.specs.Prelude.{Option}
use Rattle.std.proofs.Common.{◌≡◌, ℕ, List}
use Rattle.disk_model.specs.Calls.{Seen}
use Rattle.request_text.specs.declared.request.Request.{Request}
use Rattle.journal_texts.specs.bureau_desk.specs.claim_history.specs.declared.call.PoolEntry.{PoolEntry}
use Rattle.journal_texts.specs.printed_text.specs.declared.exit_status.ExitStatus.{ExitStatus}
use Rattle.journal_texts.specs.printed_text.specs.served_lines.specs.Served.{Line}
use Rattle.journal_texts.proofs.Written.{wrote_for}
use Rattle.group_runs.specs.disk_witness.specs.Shown.{Shown}
use Rattle.journal_texts.specs.Calls.{IsReadDue, input_read, no_input_memory, read_fault, too_long}
use Rattle.load_command.specs.Headline.{HasTakenFirst, HasTakenInOrder, IsLoadHeadline, Taking}
use Rattle.load_command.specs.Due.{IsLoadDue, loaded, no_output_memory, not_opened}
use Rattle.load_command.specs.Inputs.{IsLoadCallDue, IsInputDue, LoadRan, LoadRanInOrder, asked, bad_words, batches_read, no_request_memory, not_read}

module _ {D : Type 0} (seen : D → Seen) (More Less : Taking) (less : (opened begun : List PoolEntry) (groups : List (List Line)) → More opened begun groups → Less opened begun groups) (old new : D) where
  headline_less : (batches : List (List Request)) (status : ExitStatus) (text : List ℕ) → IsLoadHeadline seen More old new batches status text → IsLoadHeadline seen Less old new batches status text
  headline_less batches status text h = record {
    opened = h.opened;
    begun = h.begun;
    groups = h.groups;
    tried = h.tried;
    history = h.history;
    is_history = h.is_history;
    told = h.told;
    ended = h.ended;
    text_is = h.text_is;
    taken = less h.opened h.begun h.groups h.taken;
    due = h.due;
    none_full = h.none_full;
    keeps = h.keeps;
    keeps_tried = h.keeps_tried;
    on_disk = h.on_disk;
    sound = h.sound;
    survives = h.survives;
  }

  load_less : (batches : List (List Request)) (status : ExitStatus) (text : List ℕ) → IsLoadDue seen More old new batches status text → IsLoadDue seen Less old new batches status text
  load_less batches status text (no_output_memory same) = no_output_memory same
  load_less batches status text (not_opened cause refused) = not_opened cause refused
  load_less batches status text (loaded s t h) = loaded s t (headline_less batches s t h)

  input_less : (input : List ℕ) (status : ExitStatus) (text : List ℕ) → IsInputDue seen More old new input status text → IsInputDue seen Less old new input status text
  input_less input status text (no_request_memory same) = no_request_memory same
  input_less input status text (not_read same s t due) = not_read same s t due
  input_less input status text (batches_read batches is s t due) = batches_read batches is s t (load_less batches s t due)

  read_less : (left left' : Option (List ℕ)) (status : ExitStatus) (text : List ℕ) → IsReadDue (IsInputDue seen More old new) (new ≡ old) left left' status text → IsReadDue (IsInputDue seen Less old new) (new ≡ old) left left' status text
  read_less left left' status text (no_input_memory same) = no_input_memory same
  read_less left left' status text (read_fault same) = read_fault same
  read_less left left' status text (too_long same taken h many) = too_long same taken h many
  read_less left left' status text (input_read input all s t due) = input_read input all s t (input_less input s t due)

  due_less : {S : Type 0} (left : S → Option (List ℕ)) (words : List (List ℕ)) (source source' : S) (status : ExitStatus) (text : List ℕ) → IsLoadCallDue left seen More words source source' old new status text
      → IsLoadCallDue left seen Less words source source' old new status text
  due_less left words source source' status text (bad_words some same still) = bad_words some same still
  due_less left words source source' status text (asked none s t due) = asked none s t (read_less (left source) (left source') s t due)

-- without what the witness was shown
pub without_order : {S D : Type 0} (left : S → Option (List ℕ)) (seen : D → Seen) (words : List (List ℕ)) (source source' : S) (old new : D) (x y : Option (List ℕ)) (v w : List (Shown D)) (status : ExitStatus)
    → LoadRanInOrder left seen words source source' old new x y v w status → LoadRan left seen words source source' old new x y status
without_order left seen words source source' old new x y v w status ran =
    let More = HasTakenInOrder seen new x y v w in
    let Less = HasTakenFirst x y in
    wrote_for (IsLoadCallDue left seen More words source source' old new) (IsLoadCallDue left seen Less words source source' old new) x y status
    (due_less seen More Less (λ opened begun groups h. h.taken) old new left words source source') ran
