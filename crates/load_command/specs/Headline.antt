-- What a load of batches is.
use Rattle.std.specs.Prelude.{◌≡◌, ◌≤◌, ℕ, Bool, false, List, [], ◌∷◌, ◌++◌, codes, drop, flat_map, length, map, take, ◌-◌, IsTrue, Option}
use Rattle.std.specs.Io.KnownBytes.{Appends}
use Rattle.journal_texts.specs.bureau_desk.specs.disk_model.specs.Calls.{Seen, GoesOn, IsPresent}
use Rattle.journal_texts.specs.bureau_desk.specs.claim_history.specs.declared.call.Call.{Call}
use Rattle.journal_texts.specs.bureau_desk.specs.claim_history.specs.declared.call.PoolEntry.{PoolEntry}
use Rattle.journal_texts.specs.bureau_desk.specs.claim_history.specs.Pools.{accepted_calls}
use Rattle.journal_texts.specs.bureau_desk.specs.fault_count.specs.Counts.{HasRisen}
use Rattle.journal_texts.specs.bureau_desk.specs.round_journal.specs.declared.record.Record.{Record}
use Rattle.journal_texts.specs.bureau_desk.specs.round_journal.specs.Opened.{AreFound}
use Rattle.journal_texts.specs.bureau_desk.specs.journal_replay.specs.Replays.{AreSound, history_of}
use Rattle.journal_texts.specs.bureau_desk.specs.recorded_book.specs.Acting.{IsOpenedHistory}
use Rattle.journal_texts.specs.bureau_desk.specs.Opening.{HasDeskTurned}
use Rattle.journal_texts.specs.printed_text.specs.request_text.specs.declared.request.Request.{Request}
use Rattle.journal_texts.specs.printed_text.specs.served_lines.specs.Ends.{is_full_end, is_memory_end}
use Rattle.journal_texts.specs.printed_text.specs.served_lines.specs.Served.{Line}
use Rattle.journal_texts.specs.printed_text.specs.declared.exit_status.ExitStatus.{ExitStatus}
use Rattle.journal_texts.specs.printed_text.specs.declared.exit_status.ExitStatus.TheVariants as statuses
use Rattle.journal_texts.specs.printed_text.specs.Printing.{added_text}
use Rattle.journal_texts.specs.DiskTexts.{told_counts}
use Rattle.journal_texts.specs.Journals.{HasRoomForAll, HoldsSound}
use Rattle.group_runs.specs.disk_witness.specs.Shown.{Shown}
use Rattle.group_runs.specs.group_loader.specs.Groups.{HasGroupMoments, StandsForWhole}
use Rattle.group_runs.specs.Lines.{GroupsAreDue, group_calls, groups_add, groups_text, lines_add, requests_of_lines}
use Rattle.group_runs.specs.Order.{AreInOrder, IsShownAt}
use Rattle.group_runs.specs.Runs.{KeepsHistory, calls_of_group, groups_of, load_status, some_end}

-- the requests of batches, in the order of the input
abbrev pub requests_of : List (List Request) → List Request
requests_of batches = flat_map (λ batch. batch) batches

-- The history: that of the records that the disk held, with one abandonment for each round that they leave open, and then what the
-- groups added that are kept.
pub record IsLoadHistory (tells : Bool) (bytes : List ℕ) (opened begun : List PoolEntry) (groups : List (List Line))
    (history : List PoolEntry) : Type 0 where
  pub records : List Record
  pub found : AreFound tells bytes records
  pub sound : AreSound records
  pub opened_is : opened ≡ history_of records
  pub begins : IsOpenedHistory opened begun
  pub parts : history ≡ begun ++ groups_add begun groups

-- the lines of the abandonments, and the text of each group
abbrev pub load_text : List PoolEntry → List PoolEntry → List (List Line) → List ℕ
load_text opened begun groups = added_text opened (drop (length opened) begun) ++ groups_text begun groups

-- all but the last of them
abbrev pub but_last_group : List (List Line) → List (List Line)
but_last_group groups = take (length groups - 1) groups

-- The text that the sink has, whatever the status: that of all groups but the last, where any was kept.
abbrev pub sure_load_text : List PoolEntry → List PoolEntry → List (List Line) → List ℕ
sure_load_text opened begun [] = []
sure_load_text opened begun (g ∷ groups) = load_text opened begun (but_last_group (g ∷ groups))

-- what is told of a sink and a witness, by the entries of the records, those with the abandonments, and the groups that are kept
abbrev pub Taking : Type 1
Taking = List PoolEntry → List PoolEntry → List (List Line) → Type 0

-- the sink took the text that it has whatever the status, and perhaps more
abbrev pub HasTakenFirst : Option (List ℕ) → Option (List ℕ) → Taking
HasTakenFirst held_old held_new opened begun groups =
    (more : List ℕ) × Appends held_old held_new (sure_load_text opened begun groups ++ more)

-- Before the lines of the abandonments, when it had taken nothing of this call, the sink and the disk were shown, and each image of the
-- disk from then on holds all calls that were accepted up to the end of the opening. Behind these lines it goes on so before the text of
-- each group: each image of the disk from then on holds all calls that were accepted up to the end of the group.
abbrev pub IsLoadInOrder : {D : Type 0} → (D → Seen) → D → Option (List ℕ) → List PoolEntry → List PoolEntry → List (List Line)
    → List (Shown D) → Type 0
IsLoadInOrder seen new held opened begun groups [] = ⊥
IsLoadInOrder seen new held opened begun groups (s ∷ shown) =
    IsShownAt seen new held [] (accepted_calls begun) s
    × AreInOrder seen new held (added_text opened (drop (length opened) begun)) begun groups shown

-- the same, and what the witness was shown since, in this order
pub record HasTakenInOrder {D : Type 0} (seen : D → Seen) (new : D) (held_old held_new : Option (List ℕ))
    (shown_old shown_new : List (Shown D)) (opened begun : List PoolEntry) (groups : List (List Line)) : Type 0 where
  pub taken : HasTakenFirst held_old held_new opened begun groups
  pub shown : List (Shown D)
  pub were_shown : shown_new ≡ shown_old ++ shown
  pub order : IsLoadInOrder seen new held_old opened begun groups shown

-- How it ended, between these counts of the disk, with the status and what is told behind the texts of the groups that are kept. All
-- groups of the requests are; or the sink failed, at the text of the last of them or at the lines of the abandonments; or the disk failed
-- at one more, which was tried.
pub data LoadEnd (low high : ℕ) (requests : List (List Request)) (groups : List (List Line)) (tried : List Line) : ExitStatus → List ℕ
    → Type 0 where
  all_kept : map requests_of_lines groups ≡ requests → tried ≡ []
      → LoadEnd low high requests groups tried (load_status (some_end is_memory_end groups) (some_end is_full_end groups)) []
  sink_failed : (rest : List (List Request)) → requests ≡ map requests_of_lines groups ++ rest → tried ≡ []
      → LoadEnd low high requests groups tried statuses.Sink []
  disk_failed : (rest : List (List Request)) (before after : ℕ) → requests ≡ map requests_of_lines (groups ++ tried ∷ []) ++ rest
      → low ≤ before → after ≡ high → HasRisen before after
      → LoadEnd low high requests groups tried statuses.Disk (told_counts (codes "fault device ") before after)

-- A crash at any moment since that of the opening's first sync, which is the first of the moments: of the disk that the opening left, each
-- image since that sync holds the records of the start, and no earlier one is new. From there on there is a moment for each group: each
-- image holds the calls of the opening and of the groups up to there, all of them whole, alone or with the whole next one, and perhaps,
-- since the last, the whole group that was tried. Each image at the end holds those of all groups that are kept.
pub record SurvivesGroups {D : Type 0} (seen : D → Seen) (old new : D) (begun history : List PoolEntry) (groups : List (List Line))
    (tried : List Call) : Type 0 where
  pub first : ℕ
  pub opened : D
  pub turned : HasDeskTurned (seen old) first (seen opened)
  pub stays : GoesOn (seen opened) (seen new)
  pub moments : HasGroupMoments (seen new) (seen opened).moment (accepted_calls begun) (group_calls begun groups) tried
  pub at_exit : (c : List ℕ) → IsPresent (seen new) c → StandsForWhole (accepted_calls history) tried c

-- A load of batches, and the status and the text that are due. Its parts: the history; how it ended; what is written, and what is told of
-- the sink, such as what it took of that at least; that each line has the one reply that is due, or was full as is told, or had no memory,
-- and that within the bound none is full; that the history is legal and within the limits, its acts are valid and its calls can be kept in
-- a journal, also with the group that was tried; what the disk reads at the end, which stands for the accepted calls, alone or with that
-- whole group, and so for sound records; and crashes.
pub record IsLoadHeadline {D : Type 0} (seen : D → Seen) (Taken : Taking) (old new : D) (batches : List (List Request))
    (status : ExitStatus) (text : List ℕ) : Type 0 where
  pub opened : List PoolEntry
  pub begun : List PoolEntry
  pub groups : List (List Line)
  pub tried : List Line
  pub history : List PoolEntry
  pub is_history : IsLoadHistory (seen old).tells (seen old).reads opened begun groups history
  pub told : List ℕ
  pub ended : LoadEnd (seen old).count (seen new).count (groups_of batches) groups tried status told
  pub text_is : text ≡ load_text opened begun groups ++ told
  pub taken : Taken opened begun groups
  pub due : GroupsAreDue begun (groups ++ tried ∷ [])
  pub none_full : HasRoomForAll is_history.records (requests_of batches) → some_end is_full_end groups ≡ false
  pub keeps : KeepsHistory history
  pub keeps_tried : KeepsHistory (history ++ lines_add history tried)
  pub on_disk : IsTrue (seen old).tells → StandsForWhole (accepted_calls history) (calls_of_group history tried) (seen new).reads
  pub sound : IsTrue (seen old).tells → HoldsSound (seen new)
  pub survives : IsTrue (seen old).tells → SurvivesGroups seen old new begun history groups (calls_of_group history tried)
