-- What a run of calls may leave, from what each call says of its own moments.
use Rattle.std.specs.Prelude.{◌≡◌, ◌≤◌, ℕ, List, [], ◌∷◌, length, take}
use Rattle.disk_model.specs.Calls.{Seen, IsPresent, Torn, After, Only, Passes}

-- What matters of a call: it changed no byte; it wrote so many bytes at an offset, failed or not; or it was a sync that succeeded
-- where the disk read so.
pub data DiskCall : Type 0 where
  looked : DiskCall
  wrote : ℕ → ℕ → DiskCall
  synced : List ℕ → DiskCall

-- what a crash may leave after one call, and after all
abbrev pub left_then : (List ℕ → Type 0) → DiskCall → List ℕ → Type 0
left_then images looked = images
left_then images (wrote at n) = After (Torn at n) images
left_then images (synced file) = λ c. c ≡ file

abbrev pub left_after : (List ℕ → Type 0) → List DiskCall → List ℕ → Type 0
left_after images [] = images
left_after images (call ∷ calls) = left_after (left_then images call) calls

-- what a crash may leave within a run: after some of its calls
abbrev pub left_within : (List ℕ → Type 0) → List DiskCall → List ℕ → Type 0
left_within images calls c = (k : ℕ) × (k ≤ length calls) × left_after images (take k calls) c

-- what the clauses of a call say of its moments
abbrev pub IsCall : Seen → DiskCall → Seen → Type 0
IsCall old looked new = Passes old new (IsPresent old)
IsCall old (wrote at n) new = Passes old new (After (Torn at n) (IsPresent old))
IsCall old (synced file) new = Passes old new (IsPresent old) × Only file (IsPresent new)

-- calls one after another, each with the disk that it leaves
abbrev pub IsRun : {D : Type 0} → (D → Seen) → D → List (DiskCall × D) → D → Type 0
IsRun seen start [] now = start ≡ now
IsRun seen start (step ∷ run) now = IsCall (seen start) step.0 (seen step.1) × IsRun seen step.1 run now

abbrev pub run_calls : {D : Type 0} → List (DiskCall × D) → List DiskCall
run_calls [] = []
run_calls (step ∷ run) = step.0 ∷ run_calls run

-- A crash at a moment since the start of a run leaves what some of its calls may leave, and one now what all of them may leave. The
-- images of the moments before stay.
abbrev pub RunLaw : {D : Type 0} → (D → Seen) → Type 0
RunLaw {D} seen =
    (start : D) (run : List (DiskCall × D)) (now : D) → IsRun seen start run now
    → Passes (seen start) (seen now) (left_within (IsPresent (seen start)) (run_calls run))
    × ((c : List ℕ) → IsPresent (seen now) c → left_after (IsPresent (seen start)) (run_calls run) c)
