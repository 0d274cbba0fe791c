-- Requests with what came of them, one more at a time.
use Rattle.std.proofs.Common.{◌≡◌, ◌<◌, List, [], ◌∷◌, ◌++◌, length, get_or, refl, ap, arith}
use Rattle.served_lines.specs.request_text.specs.declared.request.Request.{Request}
use Rattle.served_lines.specs.declared.line_end.LineEnd.{LineEnd}
use Rattle.served_lines.specs.Served.{Line}
use Rattle.lane_runner.specs.Lanes.{ended}

-- one request more, whose end is the next one
pub ended_more : (requests : List Request) (request : Request) (ends : List LineEnd) (none : LineEnd) → length requests < length ends
    → ended (requests ++ request ∷ []) ends ≡ ended requests ends ++ record { request = request; end = get_or ends (length requests) none } ∷ []
ended_more [] request [] none lt = absurd (omega (arith, lt))
ended_more [] request (end ∷ ends) none lt = refl
ended_more (r ∷ requests) request [] none lt = absurd (omega (arith, lt))
ended_more (r ∷ requests) request (end ∷ ends) none lt = ap (λ (l : List Line). record { request = r; end = end } ∷ l) (ended_more requests request ends none (omega (arith, lt)))

-- and one end more
pub ended_both : (requests : List Request) (ends : List LineEnd) (request : Request) (end : LineEnd) → length ends ≡ length requests
    → ended (requests ++ request ∷ []) (ends ++ end ∷ []) ≡ ended requests ends ++ record { request = request; end = end } ∷ []
ended_both [] [] request end same = refl
ended_both [] (e ∷ ends) request end same = absurd (omega (arith, same))
ended_both (r ∷ requests) [] request end same = absurd (omega (arith, same))
ended_both (r ∷ requests) (e ∷ ends) request end same = ap (λ (l : List Line). record { request = r; end = e } ∷ l) (ended_both requests ends request end (omega (arith, same)))
