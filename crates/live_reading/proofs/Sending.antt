-- Rings, one more handed at a time.
use Rattle.std.proofs.Common.{◌≡◌, ◌+◌, ℕ, false, List, [], ◌∷◌, ◌++◌, nat_eq, ap, arith}
use Rattle.live_reading.specs.declared.handed.TheConstants.{MOST_HANDED}
use Rattle.std.proofs.lemmas.Bool.{eqb-false}
use Rattle.rtrb.specs.Ring.{sent, known_free}
use Rattle.served_lines.specs.claim_history.specs.declared.act.Act.{Act}
use Rattle.live_reading.specs.declared.handed.Handed.TheVariants as handed
use Rattle.live_reading.specs.Handing.{lines_since}
use Rattle.live_reading.specs.Rings.{HasRoom, IsOpen, Ring}
use Rattle.live_reading.proofs.Handing.{since_line}

module _ (old new : Ring) (line : ℕ) (pool : List ℕ) (a : Act) (open_ : IsOpen old) (sent_is : sent new ≡ sent old ++ handed.Line line pool a ∷ []) (free : known_free old ≡ known_free new + 1) where
  counted : known_free new + lines_since 0 (sent new) ≡ MOST_HANDED + 1
  counted = omega (arith, open_.all, free, ap (lines_since 0) sent_is, since_line 0 (sent old) line pool a)

  pub room_left : HasRoom new
  room_left = record { all = counted; mark = omega (arith, open_.line, free) }

  pub open_still : nat_eq (known_free new) 1 ≡ false → IsOpen new
  open_still more = record { all = counted; line = omega (arith, open_.line, free, eqb-false (known_free new) 1 more) }
