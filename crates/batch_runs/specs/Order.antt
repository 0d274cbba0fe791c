-- In which order a run uses its sink and its disk.
use Rattle.std.specs.Prelude.{◌≡◌, ◌⊎◌, ℕ, List, [], ◌∷◌, ◌++◌, Option, length, IsTrue}
use Rattle.std.specs.Io.KnownBytes.{Appends}
use Rattle.disk_model.specs.Calls.{Seen, GoesOn}
use Rattle.disk_witness.specs.Shown.{Shown}
use Rattle.lane_runner.specs.claim_history.specs.declared.call.PoolEntry.{PoolEntry}
use Rattle.lane_runner.specs.recorded_book.specs.Moments.{HeldSince}
use Rattle.printed_text.specs.Printing.{printed_of}
use Rattle.batch_runs.specs.Runs.{Done}

-- The images of the disk that was shown stay, and each image from its moment on holds all that was accepted among the first so many
-- members.
pub record IsHeldFrom {D : Type 0} (seen : D → Seen) (shown new : D) (count : ℕ) (history : List PoolEntry) : Type 0 where
  pub stays : GoesOn (seen shown) (seen new)
  pub held : HeldSince (seen shown).moment count (seen new) history

-- When the sink and the disk were shown, the sink had taken this text since the start, and nothing behind it. Each image of the disk
-- that comes back, from the moment of the disk that was shown on, holds all that was accepted among the first so many members.
abbrev pub IsShownAt : {D : Type 0} → (D → Seen) → D → List PoolEntry → Option (List ℕ) → List ℕ → ℕ → Shown D → Type 0
IsShownAt seen new history held text count s =
    Appends held s.held text × (IsTrue (seen new).tells → IsHeldFrom seen s.disk new count history)

-- a batch has no text
abbrev pub HasNoText : List PoolEntry → Done → Type 0
HasNoText before b = printed_of before b.added b.answers ≡ []

-- Before the text of each batch, and behind the texts before it, the sink and the disk were shown; each image of the disk from then on
-- holds all that was accepted up to the end of the batch. For a batch without text they need not have been shown.
abbrev pub AreInOrder : {D : Type 0} → (D → Seen) → D → List PoolEntry → Option (List ℕ) → List ℕ → List PoolEntry → List Done
    → List (Shown D) → Type 0
AreInOrder seen new history held text before [] [] = Unit {0}
AreInOrder seen new history held text before [] (s ∷ shown) = ⊥
AreInOrder seen new history held text before (b ∷ done) [] =
    HasNoText before b × AreInOrder seen new history held text (before ++ b.added) done []
AreInOrder seen new history held text before (b ∷ done) (s ∷ shown) =
    (HasNoText before b × AreInOrder seen new history held text (before ++ b.added) done (s ∷ shown))
    ⊎ (IsShownAt seen new history held text (length (before ++ b.added)) s
    × AreInOrder seen new history held (text ++ printed_of before b.added b.answers) (before ++ b.added) done shown)
