-- Calls one after another.
use Rattle.std.proofs.Common.{ℕ, zero, suc, List, [], ◌∷◌, take, sym, subst, arith}
use Rattle.disk_model.specs.Calls.{Seen, IsPresent, Torn, After, Passes}
use Rattle.disk_model.specs.Runs.{DiskCall, left_then, left_after, left_within, IsCall, run_calls, RunLaw}
use Rattle.disk_model.specs.Runs.DiskCall.{looked, wrote, synced}
use Rattle.disk_model.proofs.Moments.{torn_same, passes_still, passes_on, passes_wide, present_has}

pub left_then_wide : (P Q : List ℕ → Type 0) (call : DiskCall) → ((c : List ℕ) → P c → Q c) → (c : List ℕ) → left_then P call c → left_then Q call c
left_then_wide P Q looked wider c has = wider c has
left_then_wide P Q (wrote at n) wider c has = (has.0, wider has.0 has.1, has.2)
left_then_wide P Q (synced file) wider c has = has

pub left_after_wide : (P Q : List ℕ → Type 0) (calls : List DiskCall) → ((c : List ℕ) → P c → Q c) → (c : List ℕ) → left_after P calls c → left_after Q calls c
left_after_wide P Q [] wider c has = wider c has
left_after_wide P Q (call ∷ calls) wider c has = left_after_wide (left_then P call) (left_then Q call) calls (left_then_wide P Q call wider) c has

-- what a crash may leave after a call
pub present_then : (old : Seen) (call : DiskCall) (new : Seen) → IsCall old call new → (c : List ℕ) → IsPresent new c → left_then (IsPresent old) call c
present_then old looked new is c has = present_has old new (IsPresent old) is (λ d there. there) c has
present_then old (wrote at n) new is c has = present_has old new (After (Torn at n) (IsPresent old)) is (λ d there. (d, there, torn_same at n d)) c has
present_then old (synced file) new is c has = is.1 c has

-- what a crash may leave within a call
within_one : (old : Seen) (call : DiskCall) (new : Seen) (calls : List DiskCall) → IsCall old call new → Passes old new (left_within (IsPresent old) (call ∷ calls))
within_one old looked new calls is = passes_wide old new (IsPresent old) (left_within (IsPresent old) (looked ∷ calls)) is (λ c has. (0, omega arith, has))
within_one old (wrote at n) new calls is =
    passes_wide old new (After (Torn at n) (IsPresent old)) (left_within (IsPresent old) (wrote at n ∷ calls)) is (λ c has. (suc zero, omega arith, has))
within_one old (synced file) new calls is = passes_wide old new (IsPresent old) (left_within (IsPresent old) (synced file ∷ calls)) is.0 (λ c has. (0, omega arith, has))

module _ {D : Type 0} (seen : D → Seen) where
  pub run_law : RunLaw seen
  run_law start [] now is = (
    subst (λ (d : D). Passes (seen start) (seen d) (left_within (IsPresent (seen start)) [])) is (passes_still (seen start) (left_within (IsPresent (seen start)) [])),
    λ c has. subst (λ (d : D). IsPresent (seen d) c) (sym is) has,
  )
  run_law start (step ∷ run) now is =
      let images : List ℕ → Type 0 = IsPresent (seen start) in
      let calls = run_calls run in
      let rest = run_law step.1 run now is.1 in
      let next : (c : List ℕ) → IsPresent (seen step.1) c → left_then images step.0 c = present_then (seen start) step.0 (seen step.1) is.0 in
      let later : Passes (seen step.1) (seen now) (left_within images (step.0 ∷ calls)) =
      passes_wide (seen step.1) (seen now) (left_within (IsPresent (seen step.1)) calls) (left_within images (step.0 ∷ calls)) rest.0
      (λ c has. (suc has.0, omega (arith, has.1), left_after_wide (IsPresent (seen step.1)) (left_then images step.0) (take has.0 calls) next c has.2)) in (
        passes_on (seen start) (seen step.1) (seen now) (left_within images (step.0 ∷ calls)) (within_one (seen start) step.0 (seen step.1) calls is.0) later,
        λ c has. left_after_wide (IsPresent (seen step.1)) (left_then images step.0) calls next c (rest.1 c has),
      )
