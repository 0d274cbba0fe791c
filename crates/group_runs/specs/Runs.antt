-- The groups of a load, and how it ended.
use Rattle.std.specs.Prelude.{◌≡◌, ◌≤◌, ◌||◌, ℕ, zero, suc, Bool, true, List, [], ◌∷◌, ◌++◌, Option}
use Rattle.std.specs.Prelude.{All, length, map, take, drop, flat_map, if◌then◌else◌, IsTrue}
use Rattle.std.specs.Io.KnownBytes.{Appends}
use Rattle.std.specs.List.{list_any}
use Rattle.bureau_edge.specs.Streams.{AppendsPart}
use Rattle.disk_model.specs.Calls.{Seen, Passes}
use Rattle.disk_witness.specs.Shown.{Shown}
use Rattle.claim_history.specs.declared.call.PoolEntry.{PoolEntry}
use Rattle.claim_history.specs.declared.call.Call.{Call}
use Rattle.claim_history.specs.PoolNeeds.{IsWithinLimits}
use Rattle.claim_history.specs.Pools.{AreValid, IsLegal, accepted_calls, call_of}
use Rattle.printed_text.specs.act_bodies.specs.Bodies.{is_keepable}
use Rattle.printed_text.specs.fault_count.specs.Counts.{HasRisen}
use Rattle.group_loader.specs.round_journal.specs.Appends.{IsFaultOf}
use Rattle.request_text.specs.declared.request.Request.{Request}
use Rattle.printed_text.specs.served_lines.specs.declared.answer.Answer.{Answer}
use Rattle.printed_text.specs.served_lines.specs.declared.line_end.LineEnd.{LineEnd}
use Rattle.printed_text.specs.served_lines.specs.declared.line_end.LineEnd.TheVariants as ends
use Rattle.printed_text.specs.served_lines.specs.Ends.{has_line_end, is_full_end, is_memory_end}
use Rattle.printed_text.specs.served_lines.specs.Served.{Line}
use Rattle.printed_text.specs.declared.exit_status.ExitStatus.{ExitStatus}
use Rattle.printed_text.specs.declared.exit_status.ExitStatus.TheVariants as statuses
use Rattle.group_loader.specs.declared.loader.LoadError.{LoadError}
use Rattle.group_loader.specs.declared.loader.LoadError.TheVariants as errors
use Rattle.group_loader.specs.declared.loader.LoadStopped.{LoadStopped}
use Rattle.group_runs.specs.declared.load_break.LoadBreak.{LoadBreak}
use Rattle.group_runs.specs.declared.load_break.LoadBreak.TheVariants as breaks
use Rattle.group_loader.specs.Groups.{StandsForFirst}
use Rattle.group_loader.specs.Loading.{GoesOnBy, HasKept, HasStopped, LoadView}
use Rattle.group_runs.specs.declared.limits.TheConstants.{GROUP_LINES}
use Rattle.group_runs.specs.declared.tally.Tally.{Tally}
use Rattle.group_runs.specs.Lines.{AreEndsDue, CanBeLoaded, GroupsAreDue, IsEndDue, answers_of_lines, end_adds}
use Rattle.group_runs.specs.Lines.{group_calls, group_text, groups_add, groups_text, lines_add, requests_of_lines}
use Rattle.group_runs.specs.Order.{WereShown}

-- ---- groups

-- a batch is cut after each `GROUP_LINES` lines, so many times at most
abbrev pub cut_batch : ℕ → List Request → List (List Request)
cut_batch zero batch = []
cut_batch (suc times) [] = []
cut_batch (suc times) (request ∷ batch) = take GROUP_LINES (request ∷ batch) ∷ cut_batch times (drop GROUP_LINES (request ∷ batch))

-- the groups of batches, none of which is empty
abbrev pub groups_of : List (List Request) → List (List Request)
groups_of batches = flat_map (λ batch. cut_batch (length batch) batch) batches

-- each request of each batch can be loaded
abbrev pub CanAllBeLoaded : List (List Request) → Type 0
CanAllBeLoaded batches = All (λ batch. All CanBeLoaded batch) batches

-- ---- one line, and the lines of a group

-- why a line has no entry, as it is told
abbrev pub end_of_error : LoadError → LineEnd
end_of_error errors.Memory = ends.Memory
end_of_error (errors.Full full) = ends.Full full.what full.needed full.limit

-- a request was answered, and nothing kept yet
pub record HasTakenLine {D : Type 0} (old new : LoadView D) (request : Request) (end : LineEnd) : Type 0 where
  pub members : new.books.members ≡ old.books.members ++ end_adds old.books.members request end
  pub due : IsEndDue old.books.members request end
  pub journal : new.journal ≡ old.journal
  pub kept : new.kept ≡ old.kept

-- so were these, in order
pub record HasAnswered {D : Type 0} (old new : LoadView D) (requests : List Request) (answers : List Answer) : Type 0 where
  pub lines : List Line
  pub requests_are : requests_of_lines lines ≡ requests
  pub answers_are : answers ≡ answers_of_lines lines
  pub members : new.books.members ≡ old.books.members ++ lines_add old.books.members lines
  pub due : AreEndsDue old.books.members lines
  pub journal : new.journal ≡ old.journal
  pub kept : new.kept ≡ old.kept

-- ---- one group

-- all calls are kept, and none gathers
pub record IsAllKept {D : Type 0} (v : LoadView D) : Type 0 where
  pub all : v.kept ≡ length v.books.members
  pub empty : v.group ≡ []

-- there was no memory for a line, else a line was full, else all was done
abbrev pub load_status : Bool → Bool → ExitStatus
load_status memory full = if memory then statuses.Memory else if full then statuses.Limit else statuses.Done

-- some line of these groups ended so
abbrev pub some_end : (LineEnd → Bool) → List (List Line) → Bool
some_end test groups = list_any (λ group. has_line_end test (answers_of_lines group)) groups

-- what a tally of these groups tells
pub record IsTally (tally : Tally) (groups : List (List Line)) : Type 0 where
  pub memory : tally.memory ≡ some_end is_memory_end groups
  pub full : tally.full ≡ some_end is_full_end groups

-- what holds of a history that is loaded
pub record KeepsHistory (history : List PoolEntry) : Type 0 where
  pub legal : IsLegal history
  pub within : IsWithinLimits history
  pub valid : AreValid history
  pub keepable : All (λ m. is_keepable (call_of m) ≡ true) history

-- the lines of a group were answered after a history
pub record IsAnswered (before : List PoolEntry) (requests : List Request) (lines : List Line) : Type 0 where
  pub requests_are : requests_of_lines lines ≡ requests
  pub due : AreEndsDue before lines
  pub keeps : KeepsHistory (before ++ lines_add before lines)

-- the accepted calls of a group after a history
abbrev pub calls_of_group : List PoolEntry → List Line → List Call
calls_of_group before lines = accepted_calls (lines_add before lines)

-- A group was answered, kept and counted; then the sink and the disk were shown; and then it was written, and the load goes on.
pub record HasServedGroup {D : Type 0} (seen : D → Seen) (old new : LoadView D) (requests : List Request) (before after : Tally)
    (held_old held_new : Option (List ℕ)) (shown_old shown_new : List (Shown D)) : Type 0 where
  pub lines : List Line
  pub is : IsAnswered old.books.members requests lines
  pub kept : HasKept seen old.journal.disk new.journal.disk (accepted_calls old.books.members) (calls_of_group old.books.members lines)
  pub members : new.books.members ≡ old.books.members ++ lines_add old.books.members lines
  pub all : IsAllKept new
  pub memory : after.memory ≡ (before.memory || has_line_end is_memory_end (answers_of_lines lines))
  pub full : after.full ≡ (before.full || has_line_end is_full_end (answers_of_lines lines))
  pub shown : shown_new ≡ shown_old ++ (record { held = held_old; disk = new.journal.disk }) ∷ []
  pub written : Appends held_old held_new (group_text old.books.members lines)

-- It was answered and kept, and then the sink and the disk were shown; and the sink failed at its text.
pub record HasNotTold {D : Type 0} (seen : D → Seen) (old : LoadView D) (new : D) (requests : List Request)
    (held_old held_new : Option (List ℕ)) (shown_old shown_new : List (Shown D)) : Type 0 where
  pub lines : List Line
  pub is : IsAnswered old.books.members requests lines
  pub kept : HasKept seen old.journal.disk new (accepted_calls old.books.members) (calls_of_group old.books.members lines)
  pub shown : shown_new ≡ shown_old ++ (record { held = held_old; disk = new }) ∷ []
  pub part : AppendsPart held_old held_new (group_text old.books.members lines)

-- It was answered, and the disk failed, between these counts.
pub record HasNotKept {D : Type 0} (seen : D → Seen) (old : LoadView D) (stopped : LoadStopped D) (requests : List Request)
    (held_old held_new : Option (List ℕ)) (shown_old shown_new : List (Shown D)) : Type 0 where
  pub lines : List Line
  pub is : IsAnswered old.books.members requests lines
  pub stops : HasStopped seen old.journal.disk stopped.disk (accepted_calls old.books.members) (calls_of_group old.books.members lines)
  pub fault : IsFaultOf (seen old.journal.disk) (seen stopped.disk) stopped.device
  pub unshown : shown_new ≡ shown_old
  pub untold : Appends held_old held_new []

-- why a load ended at a group
abbrev pub HasBrokenAt : {D : Type 0} → (D → Seen) → LoadView D → List Request → Option (List ℕ) → Option (List ℕ) → List (Shown D)
    → List (Shown D) → LoadBreak D → Type 0
HasBrokenAt seen old requests held_old held_new shown_old shown_new (breaks.Sink disk) =
    HasNotTold seen old disk requests held_old held_new shown_old shown_new
HasBrokenAt seen old requests held_old held_new shown_old shown_new (breaks.Disk stopped) =
    HasNotKept seen old stopped requests held_old held_new shown_old shown_new

-- the sink counted a fault where it failed, and none where the disk did
abbrev pub IsBreakCounted : {D : Type 0} → ℕ → ℕ → LoadBreak D → Type 0
IsBreakCounted before now (breaks.Sink disk) = HasRisen before now
IsBreakCounted before now (breaks.Disk stopped) = now ≡ before

-- ---- groups in turn

-- Calls were kept in groups behind those that were kept before, and then perhaps a group was tried, at which the disk failed: time went
-- on, each image since holds those that were kept before, and the groups have their moments.
pub record IsKeptBy {D : Type 0} (seen : D → Seen) (old new : D) (kept : List Call)
    (groups : List (List Call)) (tried : List Call) : Type 0 where
  pub tells : (seen new).tells ≡ (seen old).tells
  pub goes : IsTrue (seen old).tells → Passes (seen old) (seen new) (StandsForFirst kept)
  pub grows : IsTrue (seen old).tells → GoesOnBy (seen old) (seen new) kept (λ before. before ++ groups) tried

-- Groups were answered, kept, counted, shown and written in turn.
pub record HaveServedGroups {D : Type 0} (seen : D → Seen) (old new : LoadView D) (requests : List (List Request)) (before after : Tally)
    (held_old held_new : Option (List ℕ)) (shown_old shown_new : List (Shown D)) : Type 0 where
  pub groups : List (List Line)
  pub requests_are : map requests_of_lines groups ≡ requests
  pub due : GroupsAreDue old.books.members groups
  pub members : new.books.members ≡ old.books.members ++ groups_add old.books.members groups
  pub all : IsAllKept new
  pub kept : IsKeptBy seen old.journal.disk new.journal.disk (accepted_calls old.books.members) (group_calls old.books.members groups) []
  pub later : (seen old.journal.disk).count ≤ (seen new.journal.disk).count
  pub memory : after.memory ≡ (before.memory || some_end is_memory_end groups)
  pub full : after.full ≡ (before.full || some_end is_full_end groups)
  pub shown : WereShown seen new.journal.disk held_old shown_old shown_new old.books.members groups
  pub written : Appends held_old held_new (groups_text old.books.members groups)

-- So were groups and a last one, at whose text the sink failed; it has those of the others.
pub record HaveNotTold {D : Type 0} (seen : D → Seen) (old : LoadView D) (new : D) (requests : List (List Request))
    (held_old held_new : Option (List ℕ)) (shown_old shown_new : List (Shown D)) : Type 0 where
  pub groups : List (List Line)
  pub last : List Line
  pub requests_are : map requests_of_lines (groups ++ last ∷ []) ≡ requests
  pub due : GroupsAreDue old.books.members (groups ++ last ∷ [])
  pub keeps : KeepsHistory (old.books.members ++ groups_add old.books.members (groups ++ last ∷ []))
  pub kept : IsKeptBy seen old.journal.disk new (accepted_calls old.books.members) (group_calls old.books.members (groups ++ last ∷ [])) []
  pub shown : WereShown seen new held_old shown_old shown_new old.books.members (groups ++ last ∷ [])
  pub part : AppendsPart held_old held_new (groups_text old.books.members (groups ++ last ∷ []))
  pub more : List ℕ
  pub told : Appends held_old held_new (groups_text old.books.members groups ++ more)

-- Groups were, and a last one was tried, at which the disk failed, between these counts; of that one nothing is told.
pub record HaveNotKept {D : Type 0} (seen : D → Seen) (old : LoadView D) (stopped : LoadStopped D) (requests : List (List Request))
    (held_old held_new : Option (List ℕ)) (shown_old shown_new : List (Shown D)) : Type 0 where
  pub groups : List (List Line)
  pub last : List Line
  pub requests_are : map requests_of_lines (groups ++ last ∷ []) ≡ requests
  pub due : GroupsAreDue old.books.members (groups ++ last ∷ [])
  pub keeps : KeepsHistory (old.books.members ++ groups_add old.books.members (groups ++ last ∷ []))
  pub kept : IsKeptBy seen old.journal.disk stopped.disk (accepted_calls old.books.members) (group_calls old.books.members groups)
      (calls_of_group (old.books.members ++ groups_add old.books.members groups) last)
  pub shown : WereShown seen stopped.disk held_old shown_old shown_new old.books.members groups
  pub written : Appends held_old held_new (groups_text old.books.members groups)
  pub low : (seen old.journal.disk).count ≤ stopped.device.before
  pub now : stopped.device.after ≡ (seen stopped.disk).count
  pub risen : HasRisen stopped.device.before stopped.device.after

-- why a load ended at the last of some groups
abbrev pub HaveBroken : {D : Type 0} → (D → Seen) → LoadView D → List (List Request) → Option (List ℕ) → Option (List ℕ)
    → List (Shown D) → List (Shown D) → LoadBreak D → Type 0
HaveBroken seen old requests held_old held_new shown_old shown_new (breaks.Sink disk) =
    HaveNotTold seen old disk requests held_old held_new shown_old shown_new
HaveBroken seen old requests held_old held_new shown_old shown_new (breaks.Disk stopped) =
    HaveNotKept seen old stopped requests held_old held_new shown_old shown_new

-- ---- a load

-- All groups of the batches were served, and this is the status.
pub record HasLoaded {D : Type 0} (seen : D → Seen) (first : LoadView D) (new : D) (batches : List (List Request))
    (held_old held_new : Option (List ℕ)) (shown_old shown_new : List (Shown D)) (status : ExitStatus) : Type 0 where
  pub groups : List (List Line)
  pub requests_are : map requests_of_lines groups ≡ groups_of batches
  pub due : GroupsAreDue first.books.members groups
  pub keeps : KeepsHistory (first.books.members ++ groups_add first.books.members groups)
  pub kept : IsKeptBy seen first.journal.disk new (accepted_calls first.books.members) (group_calls first.books.members groups) []
  pub later : (seen first.journal.disk).count ≤ (seen new).count
  pub shown : WereShown seen new held_old shown_old shown_new first.books.members groups
  pub written : Appends held_old held_new (groups_text first.books.members groups)
  pub status_is : status ≡ load_status (some_end is_memory_end groups) (some_end is_full_end groups)

-- It ended at a group, the last of the first of these.
pub record HasBroken {D : Type 0} (seen : D → Seen) (first : LoadView D) (all : List (List Request))
    (held_old held_new : Option (List ℕ)) (shown_old shown_new : List (Shown D)) (broken : LoadBreak D) : Type 0 where
  pub requests : List (List Request)
  pub rest : List (List Request)
  pub in_order : all ≡ requests ++ rest
  pub breaks : HaveBroken seen first requests held_old held_new shown_old shown_new broken

-- where the disk failed the buffer is empty
abbrev pub IsEmptied : {D : Type 0} → List ℕ → LoadBreak D → Type 0
IsEmptied buffer (breaks.Sink disk) = Unit {0}
IsEmptied buffer (breaks.Disk stopped) = buffer ≡ []
