-- A count of faults that a device's state has under another name.
use Rattle.std.proofs.Common.{◌≡◌, ◌≤◌, ℕ, Ok, Err, subst, arith}
use Rattle.fault_count.specs.Counts.{HasRisen, IsCounted}
use Rattle.bureau_edge.specs.Streams.{CountsFaults}

module _ {T E : Type 0} {before inside : ℕ} (is : inside ≡ before) where
  pub counted_ok : {x : T} → IsCounted {T = T} {E = E} before inside (Ok x)
  counted_ok = record { later = omega arith; cause = λ err. absurd (cc err) }

  pub counted_err : {after : ℕ} {e : E} → inside ≤ after → HasRisen inside after → IsCounted {T = T} {E = E} before after (Err e)
  counted_err {after = after} later rose = record { later = omega arith; cause = λ err. subst (λ (n : ℕ). HasRisen n after) is rose }

  pub sink_ok : {x : T} → CountsFaults {T = T} {E = E} before inside (Ok x)
  sink_ok = record { later = omega arith; cause = λ err. absurd (cc err); kept = is }

  pub sink_err : {after : ℕ} {e : E} → inside ≤ after → HasRisen inside after → CountsFaults {T = T} {E = E} before after (Err e)
  sink_err {after = after} later rose = record { later = omega arith; cause = λ err. subst (λ (n : ℕ). HasRisen n after) is rose; kept = tt }
