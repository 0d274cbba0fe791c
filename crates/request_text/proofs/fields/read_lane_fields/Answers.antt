use Rattle.std.proofs.Common.{List, ℕ, Bor, ◌∷◌, ap, map}
use Rattle.request_text.proofs.Causes.{lane_cause}
use Rattle.request_text.proofs.fields.read_lane_fields.Goals as goal

pub returns-in-Err-clause-bad : goal.returns-in-Err-clause-bad
returns-in-Err-clause-bad c =
    let after = map (λ (f : Bor (List ℕ)). f.now) c.args.after.now in
    lane_cause _ c.in-Some.lane after c.in-Err.cause c.in-Some.ensures.found.0 (ap (λ (field : List ℕ). field ∷ after) c.in-Some.ensures.found.1) c.in-Err.ensures.bad
