-- Draws one after another.
use Rattle.std.proofs.Common.{◌≡◌, ℕ, ◌+◌, ◌/◌, ◌%◌, ◌<◌, ◌^◌, refl, sym, ap, subst, arith, add-one}
use Rattle.trial_round.specs.Draws.{next_state, state_after, draw}

pub state_none : (seed : ℕ) → state_after seed 0 ≡ seed
unfolding state_after
state_none seed = refl

pub state_more : (seed made : ℕ) → state_after seed (made + 1) ≡ next_state (state_after seed made)
unfolding state_after
state_more seed made = ap (state_after seed) (add-one made)

pub draw_more : (seed made : ℕ) → draw seed (made + 1) ≡ next_state (state_after seed made) / 65536
unfolding draw
draw_more seed made = ap (λ (state : ℕ). state / 65536) (state_more seed made)

below : (a b : ℕ) → b ≡ a % 2 ^ 32 → b / 65536 < 65536
below a b is = omega (arith, is)

pub draw_short : (seed made : ℕ) → draw seed (made + 1) < 65536
unfolding next_state
draw_short seed made = subst (λ (n : ℕ). n < 65536) (sym (draw_more seed made)) (below _ _ refl)
