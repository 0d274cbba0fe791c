-- Sums over a list, and pools in order.
use Rattle.std.specs.Prelude.{cond, slice_get, sum_by, Some}
use Rattle.std.proofs.Common.{◌≡◌, ◌∙◌, ℕ, ◌+◌, ◌<◌, ◌≤◌, Bool, true, false, List, [], ◌∷◌, length, get_or, map, take, ap, sym, arith}
use Rattle.std.proofs.lemmas.List.{map-append}
use Rattle.std.proofs.lemmas.List.Sums.{sum_by_more}
use Rattle.indexmap.specs.IndexSet.{insert_key}
use Rattle.setoff_model.specs.Same.{same_name}
use Rattle.printed_text.specs.claim_history.specs.declared.call.PoolEntry.{PoolEntry}
use Rattle.printed_text.specs.claim_history.specs.declared.entry.Reply.{Reply}
use Rattle.printed_text.specs.claim_history.specs.declared.entry.Reply.TheVariants as reply
use Rattle.printed_text.specs.claim_history.specs.Cut.{distinct}
use Rattle.printed_text.specs.round_cut.proofs.Distinct.{distinct_push}
use Rattle.printed_text.specs.Printing.{rounds_in}
use Rattle.printed_text.proofs.Members.{one_more}

-- ---- sums

pub at_most_one : (b : Bool) → cond b 1 0 ≤ 1
at_most_one true = omega arith
at_most_one false = omega arith

pub one_round : (r : Reply) → rounds_in r ≤ 1
one_round (reply.Published total) = omega arith
one_round r = omega arith

pub sum_next : {X : Type 0} (f : X → ℕ) (xs : List X) (i : ℕ) (x : X) (sum part : ℕ) → i < length xs → x ≡ get_or xs i x → sum ≡ sum_by f (take i xs) → part ≡ f x → sum + part ≡ sum_by f (take (i + 1) xs)
sum_next f xs i x sum part lt is sum_is part_is = omega (arith, sum_by_more f xs i x lt, ap f is, sum_is, part_is)

-- ---- pools

-- with the pool of one more member
pub pool_next : (members : List PoolEntry) (i : ℕ) (m : PoolEntry) (old new : List (List ℕ)) → slice_get members i ≡ Some m → old ≡ distinct (map (λ x. x.pool) (take i members)) → new ≡ insert_key same_name old m.pool
    → new ≡ distinct (map (λ x. x.pool) (take (i + 1) members))
pool_next members i m old new is old_is new_is =
    new_is ∙ ap (λ (names : List (List ℕ)). insert_key same_name names m.pool) old_is
    ∙ sym (distinct_push (map (λ x. x.pool) (take i members)) m.pool)
    ∙ sym (ap distinct (ap (map (λ (x : PoolEntry). x.pool)) (one_more members i m is) ∙ map-append (λ (x : PoolEntry). x.pool) (take i members) (m ∷ [])))
