-- Numbers that are drawn, one from another.
use Rattle.std.specs.Prelude.{ℕ, zero, suc, ◌+◌, ◌*◌, ◌/◌, ◌%◌, ◌^◌}

-- the state after one more draw
unfoldable pub next_state : ℕ → ℕ
next_state state = (state * 1664525 + 1013904223) % 2 ^ 32

-- the state after so many draws; at first it is the seed
unfoldable pub state_after : ℕ → ℕ → ℕ
state_after seed zero = seed
state_after seed (suc draws) = next_state (state_after seed draws)

-- what the draw of this number gives, from 1: the upper 16 bits of the state that it leaves
unfoldable pub draw : ℕ → ℕ → ℕ
draw seed number = state_after seed number / 65536
