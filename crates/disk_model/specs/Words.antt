-- What writes may leave, byte by byte.
use Rattle.std.specs.Prelude.{◌≡◌, ◌≤◌, ◌<◌, ◌+◌, ◌⊎◌, ◌↔◌, max, ℕ, List, [], ◌∷◌, length, map, slice_index}
use Rattle.disk_model.specs.Calls.{Torn}
use Rattle.disk_model.specs.Runs.{left_after}
use Rattle.disk_model.specs.Runs.DiskCall.{wrote}

-- whether a place is in no range of a list of writes, each with its offset and its number of bytes
abbrev pub IsOutside : ℕ → List (ℕ × ℕ) → Type 0
IsOutside i [] = Unit {0}
IsOutside i (write ∷ writes) = ((i < write.0) ⊎ (write.0 + write.1 ≤ i)) × IsOutside i writes

-- the length after writes
abbrev pub longest : ℕ → List (ℕ × ℕ) → ℕ
longest n [] = n
longest n (write ∷ writes) = longest (max n (write.0 + write.1)) writes

-- whether each write begins within what those before it may have made of a file
abbrev pub BeginWithin : ℕ → List (ℕ × ℕ) → Type 0
BeginWithin n [] = Unit {0}
BeginWithin n (write ∷ writes) = (write.0 ≤ n) × BeginWithin (max n (write.0 + write.1)) writes

-- The length is any one from the old to the new one, and a byte outside all ranges stays. Of the others nothing is said: they are
-- any bytes.
pub record MayLeave (writes : List (ℕ × ℕ)) (old new : List ℕ) : Type 0 where
  pub no_shorter : length old ≤ length new
  pub no_longer : length new ≤ longest (length old) writes
  pub outside : (i : ℕ) → i < length old → IsOutside i writes → slice_index new i ≡ slice_index old i

-- one write that begins within the bytes leaves just what these words allow
abbrev pub TornLaw : Type 0
TornLaw = (at n : ℕ) (old new : List ℕ) → at ≤ length old → Torn at n old new ↔ MayLeave ((at, n) ∷ []) old new

-- what a crash may leave after writes to a file that was synced
abbrev pub left_by : List ℕ → List (ℕ × ℕ) → List ℕ → Type 0
left_by file writes = left_after (λ d. d ≡ file) (map (λ (write : ℕ × ℕ). wrote write.0 write.1) writes)

-- the writes since a sync leave nothing but what these words allow
abbrev pub WritesLaw : Type 0
WritesLaw = (file : List ℕ) (writes : List (ℕ × ℕ)) (c : List ℕ) → left_by file writes c → MayLeave writes file c

-- and all that they allow
abbrev pub AnyBytesLaw : Type 0
AnyBytesLaw =
    (file : List ℕ) (writes : List (ℕ × ℕ)) (c : List ℕ) → BeginWithin (length file) writes → MayLeave writes file c
    → left_by file writes c
