-- What is left at the start is in balance, and what is left at the end is nothing.
use Rattle.std.specs.Prelude.{slice_index}
use Rattle.std.proofs.Common.{◌≡◌, ◌⊎◌, ℕ, ◌+◌, ◌-◌, ◌<◌, List, length, ◌∙◌, ap, inl, inr, arith}
use Rattle.std.proofs.lemmas.Bool.{cases_lt}
use Rattle.setoff_model.specs.Setoff.{Obligations, inflow, outflow}
use Rattle.setoff_model.proofs.Circulation.{sum_below-none}
use Rattle.chain_explain.specs.Explained.{ExplainerView, IsDone, one_above, measure, claims_left, parties_left}
use Rattle.chain_explain.specs.Chains.{ChainView}
use Rattle.chain_explain.specs.declared.left.Left.{Left}
use Rattle.chain_explain.specs.Walks.{AreLeft, IsTaken}

pub left_at_start : (o : Obligations) (d rests begins ends : List ℕ) → rests ≡ d → length d ≡ length o.amounts → length begins ≡ length o.spends → length ends ≡ length o.spends →
    ((f : ℕ) → f < length o.spends → slice_index begins f ≡ outflow o d f - inflow o d f) → ((f : ℕ) → f < length o.spends → slice_index ends f ≡ inflow o d f - outflow o d f) →
    AreLeft o rests begins ends
left_at_start o d rests begins ends same many many_begins many_ends began ended = record {
  rest_each = ap length same ∙ many;
  begin_each = many_begins;
  end_each = many_ends;
  even = λ f lt.
      let x = began f lt in
      let y = ended f lt in
      let out = ap (λ ys. outflow o ys f) same in
      let to = ap (λ ys. inflow o ys f) same in
      omega (arith, x, y, out, to);
  one_side = λ f lt.
      let x = began f lt in
      let y = ended f lt in
      elim (cases_lt (outflow o d f) (inflow o d f)) as (λ _. (slice_index begins f ≡ 0) ⊎ (slice_index ends f ≡ 0)) [
        | inl less ↦ inl (omega (arith, x, less))
        | inr more ↦ inr (omega (arith, y, more))
      ];
}

none_above : (n : ℕ) → n ≡ 0 → one_above n ≡ 0
none_above n e = ap one_above e

pub done_none : (o : Obligations) (e : ExplainerView) → IsDone o e → measure o e ≡ 0
done_none o e done =
    let claims = sum_below-none (length o.amounts) (λ c. one_above (slice_index e.rests c)) (λ c lt. none_above (slice_index e.rests c) (done.rests c lt)) in
    let parties = sum_below-none (length o.spends) (λ f. one_above (slice_index e.begins f + slice_index e.ends f))
    (λ f lt. let x = done.begins f lt in let y = done.ends f lt in none_above (slice_index e.begins f + slice_index e.ends f) (omega (arith, x, y))) in
    omega (arith, claims, parties)

-- what is taken off the same is taken off
pub taken_off : (o : Obligations) (old before : Left) (x : ChainView) (new : Left) → before.rests.items ≡ old.rests.items → before.begins.items ≡ old.begins.items → before.ends.items ≡ old.ends.items →
    IsTaken o before x new → IsTaken o old x new
taken_off o old before x new rests begins ends taken = record {
  rests = λ c lt. let e = ap (λ (xs : List ℕ). slice_index xs c) rests in let t = taken.rests c lt in omega (arith, e, t);
  begins = λ f. let e = ap (λ (xs : List ℕ). slice_index xs f) begins in let t = taken.begins f in omega (arith, e, t);
  ends = λ f. let e = ap (λ (xs : List ℕ). slice_index xs f) ends in let t = taken.ends f in omega (arith, e, t);
  falls =
      let claims = ap (claims_left o) rests in
      let parties : parties_left o before.begins.items before.ends.items ≡ parties_left o old.begins.items old.ends.items = ap (λ (xs : List ℕ). parties_left o xs before.ends.items) begins ∙ ap (λ (xs : List ℕ). parties_left o old.begins.items xs) ends in
      omega (arith, claims, parties, taken.falls);
}
