-- What whole reads and writes do to the bytes that a source has left and a sink holds, where they are told.
use Rattle.std.specs.Prelude.{◌≡◌, ℕ, ◌+◌, ◌≤◌, List, ◌++◌, length, Option, Result, IsErr, OnOk}
use Rattle.std.specs.Io.KnownBytes.{Consumes, IsAtEnd, Appends}
use Rattle.fault_count.specs.Counts.{HasRisen}
use Rattle.bureau_edge.specs.declared.whole.ReadEnd.{ReadEnd}
use Rattle.bureau_edge.specs.declared.whole.ReadEnd.TheVariants as ends

-- at most so many bytes were taken
abbrev pub TakesAtMost : ℕ → Option (List ℕ) → Option (List ℕ) → Type 0
TakesAtMost limit old new = (bytes : List ℕ) × Consumes old new bytes × (length bytes ≤ limit)

-- what a whole read that ended without bytes took: one byte more than the limit exactly at TooLong
abbrev pub EndsReading : ℕ → Option (List ℕ) → Option (List ℕ) → ReadEnd → Type 0
EndsReading limit old new ends.Memory = TakesAtMost limit old new
EndsReading limit old new ends.Failed = TakesAtMost limit old new
EndsReading limit old new ends.TooLong = (bytes : List ℕ) × Consumes old new bytes × (length bytes ≡ limit + 1)

-- all bytes that were left, at most limit of them
pub record TakesAll (limit : ℕ) (old new : Option (List ℕ)) (bytes : List ℕ) : Type 0 where
  pub taken : Consumes old new bytes
  pub at_end : IsAtEnd new
  pub within : length bytes ≤ limit

-- some first bytes of a piece were taken
abbrev pub AppendsPart : Option (List ℕ) → Option (List ℕ) → List ℕ → Type 0
AppendsPart old new piece = (front rest : List ℕ) × (piece ≡ front ++ rest) × Appends old new front

-- a sink's count does not fall, a failure has its cause there, and what is Ok keeps it
pub record CountsFaults {T E : Type 0} (before now : ℕ) (result : Result T E) : Type 0 where
  pub later : before ≤ now
  pub cause : IsErr result → HasRisen before now
  pub kept : OnOk result (now ≡ before)
