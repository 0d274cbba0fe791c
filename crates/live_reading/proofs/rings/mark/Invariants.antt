use Rattle.std.proofs.Common.{◌≡◌, ◌<◌, ◌≤◌, ℕ, length, get_or}
use Rattle.live_reading.specs.declared.handed.Handed.TheVariants as handed
use Rattle.live_reading.specs.Rings.{HasSent, Ring}
use Rattle.live_reading.proofs.rings.mark.Given as goal

abbrev pub invariant-loop-k : goal.invariant-loop-k
invariant-loop-k l = record {
  all : length l.rings ≡ length l.fn.rings;
  done : (j : ℕ) (ring : Ring) → j < l.k → HasSent (get_or l.fn.rings j ring) (get_or l.rings j ring) handed.End;
  rest : (j : ℕ) (ring : Ring) → l.k ≤ j → get_or l.rings j ring ≡ get_or l.fn.rings j ring;
}
