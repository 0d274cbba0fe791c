-- The lines of a weighted set-off, one by one.
use Rattle.std.proofs.Common.{◌≡◌, ℕ, ◌+◌, ◌<◌, List, ◌++◌, length, get_or, drop, add-one, drop-cons, refl}
use Rattle.setoff_model.specs.declared.cut.Party.{Party}
use Rattle.setoff_model.specs.declared.cut.CutClaim.{CutClaim}
use Rattle.weighed_round.specs.Weighed.{weighed_line, weighed_lines}

-- the lines of the claims from a place on
pub lines_from : (parties : List Party) (claims : List CutClaim) (discharges weights : List ℕ) (i : ℕ) (claim : CutClaim) → i < length claims → i < length discharges → i < length weights
    → weighed_lines parties (drop i claims) (drop i discharges) (drop i weights)
    ≡ weighed_line parties (get_or claims i claim) (get_or discharges i 0) (get_or weights i 0) ++ weighed_lines parties (drop (i + 1) claims) (drop (i + 1) discharges) (drop (i + 1) weights)
lines_from parties claims discharges weights i claim lc ld lw = rw (add-one, drop-cons claims i claim, drop-cons discharges i 0, drop-cons weights i 0) refl
