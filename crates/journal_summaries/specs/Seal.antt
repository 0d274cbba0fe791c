-- The bytes of the acts of a history, as a journal keeps them, and the line that tells their digest.
use Rattle.std.specs.Prelude.{ℕ, Bool, true, List, [], ◌∷◌, ◌++◌, flat_map, length, nat_le}
use Rattle.std.specs.Prelude.{take, codes, decimal, Option, Some, None, if◌then◌else◌}
use Rattle.act_bodies.specs.Bodies.{body_of, four}
use Rattle.hex.specs.Hex.{encode_lower}
use Rattle.sha2.specs.Sha256.{sha256}
use Rattle.printed_text.specs.claim_history.specs.declared.call.PoolEntry.{PoolEntry}
use Rattle.printed_text.specs.claim_history.specs.Pools.{call_of}
use Rattle.printed_text.specs.declared.exit_status.ExitStatus.{ExitStatus}
use Rattle.printed_text.specs.declared.exit_status.ExitStatus.TheVariants as statuses

-- the record of an act: an open gate, the length of its body in four bytes, and the body
abbrev pub record_of : PoolEntry → List ℕ
record_of m = 1 ∷ four (length (body_of (call_of m))) ++ body_of (call_of m)

-- the records one after another
abbrev pub records_of : List PoolEntry → List ℕ
records_of members = flat_map record_of members

-- how many acts these are, how many bytes their records take, and the SHA-256 of these bytes
abbrev pub seal_line : List PoolEntry → List ℕ
seal_line members =
    codes "acts " ++ decimal (length members) ++ codes " bytes " ++ decimal (length (records_of members)) ++ codes " sha256 "
    ++ encode_lower (sha256 (records_of members)) ++ codes "\n"

-- what is told where there are fewer acts
abbrev pub no_act_text : ℕ → List ℕ
no_act_text acts = codes "no act " ++ decimal acts ++ codes "\n"

-- the history has so many acts; it has all of them
abbrev pub has_acts : Option ℕ → List PoolEntry → Bool
has_acts None history = true
has_acts (Some acts) history = nat_le acts (length history)

-- the first so many acts, or all
abbrev pub first_acts : Option ℕ → List PoolEntry → List PoolEntry
first_acts None history = history
first_acts (Some acts) history = take acts history

abbrev pub acts_told : Option ℕ → List ℕ
acts_told None = []
acts_told (Some acts) = no_act_text acts

-- the line of the first so many acts of a history, or of all; or that it has fewer
abbrev pub seal_text : Option ℕ → List PoolEntry → List ℕ
seal_text acts history = if has_acts acts history then seal_line (first_acts acts history) else acts_told acts

-- the status of that
abbrev pub seal_status : Option ℕ → List PoolEntry → ExitStatus
seal_status acts history = if has_acts acts history then statuses.Done else statuses.No
