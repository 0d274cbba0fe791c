-- Lists, one place of which is set.
use Rattle.std.proofs.Common.{◌≡◌, ◌∙◌, ◌==◌, ◌+◌, ◌<◌, ◌≤◌, ℕ, Bool, true, false, List, length, get_or, slice_set, refl, sym, subst, arith, eqb-true}
use Rattle.std.proofs.lemmas.Bool.{eqb-false}
use Rattle.std.proofs.lemmas.List.{get_or-set_other, get_or-set_same}
use Rattle.live_intake.specs.Segments.{LiveLane, RingEnd}
use Rattle.live_intake.specs.Meeting.{HasMet, HasMetLane}
use Rattle.live_reading.specs.Rings.{Ring}

-- what holds of each place below the next one
module _ {X Y : Type 0} (P : X → Y → X → Y → Type 0) (xs xs0 : List X) (ys ys0 : List Y) (k : ℕ) (x : X) (y : Y) (ltx : k < length xs) (lty : k < length ys)
    (done : (j : ℕ) (a : X) (b : Y) → j < k → P (get_or xs0 j a) (get_or ys0 j b) (get_or xs j a) (get_or ys j b))
    (rest : (j : ℕ) (a : X) (b : Y) → k ≤ j → (get_or xs j a ≡ get_or xs0 j a) × (get_or ys j b ≡ get_or ys0 j b))
    (here : (a : X) (b : Y) → P (get_or xs0 k a) (get_or ys0 k b) x y) where
  done_by : (j : ℕ) (a : X) (b : Y) → j < k + 1 → (t : Bool) → (j == k) ≡ t → P (get_or xs0 j a) (get_or ys0 j b) (get_or (slice_set xs k x) j a) (get_or (slice_set ys k y) j b)
  done_by j a b lt true is =
      let same : j ≡ k = eqb-true j k is in
      subst (λ n. P (get_or xs0 n a) (get_or ys0 n b) (get_or (slice_set xs k x) n a) (get_or (slice_set ys k y) n b)) (sym same)
      (subst (λ v. P (get_or xs0 k a) (get_or ys0 k b) v (get_or (slice_set ys k y) k b)) (sym (get_or-set_same xs k x a ltx))
      (subst (λ v. P (get_or xs0 k a) (get_or ys0 k b) x v) (sym (get_or-set_same ys k y b lty)) (here a b)))
  done_by j a b lt false is =
      let apart = eqb-false j k is in
      subst (λ v. P (get_or xs0 j a) (get_or ys0 j b) v (get_or (slice_set ys k y) j b)) (sym (get_or-set_other xs k j x a apart))
      (subst (λ v. P (get_or xs0 j a) (get_or ys0 j b) (get_or xs j a) v) (sym (get_or-set_other ys k j y b apart)) (done j a b (omega (arith, lt, apart))))

  pub done_more : (j : ℕ) (a : X) (b : Y) → j < k + 1 → P (get_or xs0 j a) (get_or ys0 j b) (get_or (slice_set xs k x) j a) (get_or (slice_set ys k y) j b)
  done_more j a b lt = done_by j a b lt (j == k) refl

  pub rest_less : (j : ℕ) (a : X) (b : Y) → k + 1 ≤ j → (get_or (slice_set xs k x) j a ≡ get_or xs0 j a) × (get_or (slice_set ys k y) j b ≡ get_or ys0 j b)
  rest_less j a b le =
      let apart : j ≡ k → ⊥ = λ is. absurd (omega (arith, is, le)) in
      let before = rest j a b (omega (arith, le)) in
      (get_or-set_other xs k j x a apart ∙ before.0, get_or-set_other ys k j y b apart ∙ before.1)

-- a lane meets its ring
pub met_here : {D : Type 0} (r0 r r1 : Ring) (l0 l : LiveLane D) (e : RingEnd) → r ≡ r0 → l ≡ l0 → HasMet r l.queue r1 e → HasMetLane r0 l0 r1 (record l { queue = e })
met_here r0 r r1 l0 l e ring_is lane_is met =
    subst (λ x. HasMetLane r0 x r1 (record l { queue = e })) lane_is (subst (λ x. HasMetLane x l r1 (record l { queue = e })) ring_is (record { met = met; seat_is = refl; ends_are = refl }))
