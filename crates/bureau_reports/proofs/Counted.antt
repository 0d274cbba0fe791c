-- Members that are counted in order.
use Rattle.std.specs.Prelude.{cond, count_by}
use Rattle.std.specs.List.{slice_get}
use Rattle.std.proofs.Common.{◌≡◌, ◌∙◌, ℕ, ◌+◌, Bool, List, [], ◌∷◌, ◌++◌, take, Some, ap, arith}
use Rattle.std.proofs.lemmas.List.{take_more}
use Rattle.std.proofs.lemmas.List.Sums.{sum_by-append, sum_by-cons}
use Rattle.std.proofs.lemmas.Option.{get_or_from_slice_get, slice_get_within}
use Rattle.weighed_round.specs.claim_history.specs.declared.call.PoolEntry.{PoolEntry}

-- one more member is counted where it passes the test
pub counted_more : (p : PoolEntry → Bool) (xs : List PoolEntry) (i : ℕ) (m : PoolEntry) → slice_get xs i ≡ Some m → count_by p (take (i + 1) xs) ≡ count_by p (take i xs) + cond (p m) 1 0
counted_more p xs i m is =
    let f : PoolEntry → ℕ = λ x. cond (p x) 1 0 in
    let taken : take (i + 1) xs ≡ take i xs ++ m ∷ [] =
    take_more xs i m (slice_get_within xs i m is) ∙ ap (λ (x : PoolEntry). take i xs ++ x ∷ []) (get_or_from_slice_get xs i m m is) in
    omega (arith, ap (λ (l : List PoolEntry). count_by p l) taken, sum_by-append f (take i xs) (m ∷ []), sum_by-cons f m [])
