-- In which order a load uses its sink and its disk.
use Rattle.std.specs.Prelude.{◌≡◌, ◌≤◌, ℕ, List, [], ◌∷◌, ◌++◌, Option, IsTrue}
use Rattle.std.specs.Io.KnownBytes.{Appends}
use Rattle.disk_model.specs.Calls.{Seen, GoesOn}
use Rattle.disk_witness.specs.Shown.{Shown}
use Rattle.claim_history.specs.declared.call.Call.{Call}
use Rattle.claim_history.specs.declared.call.PoolEntry.{PoolEntry}
use Rattle.claim_history.specs.Pools.{accepted_calls}
use Rattle.printed_text.specs.served_lines.specs.Served.{Line}
use Rattle.group_loader.specs.Groups.{StandsForFirst}
use Rattle.group_runs.specs.Lines.{group_text, lines_add}

-- The images of the disk that was shown stay, and each image from its moment on stands for a list that begins with these calls.
pub record IsHeldFrom {D : Type 0} (seen : D → Seen) (shown new : D) (calls : List Call) : Type 0 where
  pub stays : GoesOn (seen shown) (seen new)
  pub held : (t : ℕ) (c : List ℕ) → (seen shown).moment ≤ t → t ≤ (seen new).moment → (seen new).image t c → StandsForFirst calls c

-- When the sink and the disk were shown, the sink had taken this text since the start, and nothing behind it. Each image of the disk
-- that comes back, from the moment of the disk that was shown on, holds all these calls.
abbrev pub IsShownAt : {D : Type 0} → (D → Seen) → D → Option (List ℕ) → List ℕ → List Call → Shown D → Type 0
IsShownAt seen new held text calls s = Appends held s.held text × (IsTrue (seen new).tells → IsHeldFrom seen s.disk new calls)

-- Before the text of each group, and behind the texts before it, the sink and the disk were shown; each image of the disk from then on
-- holds all calls that were accepted up to the end of the group.
abbrev pub AreInOrder : {D : Type 0} → (D → Seen) → D → Option (List ℕ) → List ℕ → List PoolEntry → List (List Line) → List (Shown D)
    → Type 0
AreInOrder seen new held text before [] [] = Unit {0}
AreInOrder seen new held text before [] (s ∷ shown) = ⊥
AreInOrder seen new held text before (group ∷ groups) [] = ⊥
AreInOrder seen new held text before (group ∷ groups) (s ∷ shown) =
    IsShownAt seen new held text (accepted_calls (before ++ lines_add before group)) s
    × AreInOrder seen new held (text ++ group_text before group) (before ++ lines_add before group) groups shown

-- what was shown since, in this order, while these groups were served
pub record WereShown {D : Type 0} (seen : D → Seen) (new : D) (held : Option (List ℕ)) (shown_old shown_new : List (Shown D))
    (before : List PoolEntry) (groups : List (List Line)) : Type 0 where
  pub shown : List (Shown D)
  pub were_shown : shown_new ≡ shown_old ++ shown
  pub order : AreInOrder seen new held [] before groups shown
