-- What an open journal keeps of its disk.
use Rattle.std.specs.Prelude.{◌≡◌, ◌⊎◌, ℕ, Bool, true, false, List, [], ◌∷◌, ◌++◌, IsTrue}
use Rattle.disk_model.specs.Calls.{Seen, IsPresent, Holds, Passes}
use Rattle.round_journal.specs.Bytes.{Header, measured, front, gate_behind, AreShort, StandsFor, EndsClosed}

-- What contracts see of a journal: its disk, the place of the gate for the next record, whether an append that failed may
-- have begun to open this gate, and the disk as it was when the first sync of the opening had succeeded.
pub record JournalView (D : Type 0) : Type 0 where
  pub disk : D
  pub gate : ℕ
  pub unsettled : Bool
  pub at_first_sync : D

-- these bytes, then some gate, then this piece, then anything
pub record HasStaged (whole piece bytes : List ℕ) : Type 0 where
  pub gate : ℕ
  pub rest : List ℕ
  pub spelled : bytes ≡ whole ++ gate ∷ (piece ++ rest)

-- a length and a body; for each further body an open gate, a length and a body; and the closed gate of the next record
abbrev pub staged_from : List ℕ → List (List ℕ) → List ℕ
staged_from body [] = measured body ++ 0 ∷ []
staged_from body (next ∷ more) = measured body ++ 1 ∷ staged_from next more

-- what is written behind the gate of the first record of a group, which stays closed meanwhile
abbrev pub staged : List (List ℕ) → List ℕ
staged [] = []
staged (body ∷ more) = staged_from body more

-- the piece is what is written of these bodies
pub record IsGroup (group : List (List ℕ)) (piece : List ℕ) : Type 0 where
  pub short : AreShort group
  pub is : piece ≡ staged group

-- it is what is written of some bodies
abbrev pub IsSomeGroup : List ℕ → Type 0
IsSomeGroup piece = (group : List (List ℕ)) × IsGroup group piece

-- a group was tried
abbrev pub is_tried : List (List ℕ) → Bool
is_tried [] = false
is_tried (body ∷ more) = true

-- behind this header the bodies and a gate that is not open, or the bodies and a group more behind some gate
abbrev pub HasBodies : Header → List (List ℕ) → List (List ℕ) → List ℕ → Type 0
HasBodies h bodies [] bytes = EndsClosed (front h bodies) bytes
HasBodies h bodies (body ∷ more) bytes = HasStaged (front h bodies) (staged (body ∷ more)) bytes

-- The disk tells its bytes, and each present image has the bodies. Where a last group was tried and its gate is not settled,
-- each image has that one behind the gate.
pub record IsKeptAt (disk : Seen) (gate : ℕ) (unsettled : Bool) (h : Header) (bodies last : List (List ℕ)) : Type 0 where
  pub tells : IsTrue disk.tells
  pub short : AreShort bodies
  pub fits : AreShort last
  pub place : gate ≡ gate_behind bodies
  pub flag : unsettled ≡ is_tried last
  pub images : (c : List ℕ) → IsPresent disk c → HasBodies h bodies last c

-- a journal keeps this header and these bodies, and perhaps a last group that was tried
abbrev pub IsKept : {D : Type 0} → (D → Seen) → JournalView D → Header → List (List ℕ) → List (List ℕ) → Type 0
IsKept seen journal h bodies last = IsKeptAt (seen journal.disk) journal.gate journal.unsettled h bodies last

-- the bodies are kept, with this group behind a gate that is not open, in each present image
pub record IsStaged (disk : Seen) (gate : ℕ) (h : Header) (bodies group : List (List ℕ)) : Type 0 where
  pub tells : IsTrue disk.tells
  pub short : AreShort bodies
  pub fits : AreShort group
  pub place : gate ≡ gate_behind bodies
  pub images : (c : List ℕ) → IsPresent disk c → HasStaged (front h bodies) (staged group) c

-- An append whose gate was settled failed before it began to open the gate. In each image since, the bodies end with a gate that
-- is not open, and nothing is left to settle.
pub record HasFailedShut (old new : Seen) (gate : ℕ) (unsettled : Bool) (h : Header) (bodies : List (List ℕ)) : Type 0 where
  pub settled : unsettled ≡ false
  pub kept : IsKeptAt new gate unsettled h bodies []
  pub crash : Passes old new (HasBodies h bodies [])

-- It failed once it had begun to open the gate. The group had been synced behind the gate by then, and stands there in each image
-- since.
pub record HasFailedOpening {D : Type 0} (seen : D → Seen) (old new : D) (gate : ℕ) (unsettled : Bool) (h : Header)
    (bodies group : List (List ℕ)) : Type 0 where
  pub begun : D
  pub before : Passes (seen old) (seen begun) (HasBodies h bodies [])
  pub behind : IsStaged (seen begun) gate h bodies group
  pub crash : Passes (seen begun) (seen new) (HasStaged (front h bodies) (staged group))
  pub kept : IsKeptAt (seen new) gate unsettled h bodies group

-- a gate that was unsettled is closed, and no other byte is changed
abbrev pub IsSettled : Bool → ℕ → List ℕ → List ℕ → Type 0
IsSettled false gate old new = new ≡ old
IsSettled true gate old new = Holds old gate (0 ∷ []) new

-- How an append failed: while it closed a gate that an earlier one had left unsettled, which is so still; or once it had none to
-- settle, in one of those two ways.
abbrev pub HasFailedIn : {D : Type 0} → (D → Seen) → D → D → ℕ → Bool → Header → List (List ℕ) → List (List ℕ) → List (List ℕ) → Type 0
HasFailedIn {D} seen old new gate unsettled h bodies last group =
    ((is_tried last ≡ true) × IsKeptAt (seen new) gate unsettled h bodies last × Passes (seen old) (seen new) (HasBodies h bodies last))
    ⊎ ((begun : D) × Passes (seen old) (seen begun) (HasBodies h bodies last) × IsKeptAt (seen begun) gate false h bodies []
    × IsSettled (is_tried last) gate (seen old).reads (seen begun).reads
    × (HasFailedShut (seen begun) (seen new) gate unsettled h bodies ⊎ HasFailedOpening seen begun new gate unsettled h bodies group))

-- what an append that failed may leave as the last group tried: what was, nothing, or its own
abbrev pub IsLast : List (List ℕ) → List (List ℕ) → List (List ℕ) → Type 0
IsLast before group after = (after ≡ before) ⊎ (after ≡ []) ⊎ (after ≡ group)

-- the bodies, alone, or followed by the whole group that is appended, or by the whole last one that was tried
abbrev pub HoldsMore : List (List ℕ) → List (List ℕ) → List (List ℕ) → List ℕ → Type 0
HoldsMore bodies last group bytes = StandsFor bytes bodies ⊎ StandsFor bytes (bodies ++ group) ⊎ StandsFor bytes (bodies ++ last)
