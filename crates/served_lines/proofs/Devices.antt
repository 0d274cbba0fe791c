-- Whether a member from a place on tells of a device.
use Rattle.std.specs.Prelude.{◌||◌, drop}
use Rattle.std.specs.List.{list_any, slice_get}
use Rattle.std.proofs.Common.{◌≡◌, ◌∙◌, ℕ, suc, ◌+◌, Bool, List, Some, ap, arith}
use Rattle.std.proofs.Math.Seq.{drop-cons}
use Rattle.std.proofs.lemmas.Option.{get_or_from_slice_get, slice_get_within}
use Rattle.limited_book.specs.claim_history.specs.declared.call.PoolEntry.{PoolEntry}
use Rattle.limited_book.specs.claim_history.specs.Needs.{is_of_device}

abbrev pub tells : PoolEntry → Bool
tells m = is_of_device m.entry.reply

-- the first of them, and the others
pub first_tells : (members : List PoolEntry) (place : ℕ) (m : PoolEntry) → slice_get members place ≡ Some m → list_any tells (drop place members) ≡ (tells m || list_any tells (drop (place + 1) members))
first_tells members place m is =
    let next : suc place ≡ place + 1 = omega arith in
    ap (list_any tells) (drop-cons members place m (slice_get_within members place m is))
    ∙ ap (λ (x : PoolEntry). tells x || list_any tells (drop (suc place) members)) (get_or_from_slice_get members place m m is)
    ∙ ap (λ (n : ℕ). tells m || list_any tells (drop n members)) next
