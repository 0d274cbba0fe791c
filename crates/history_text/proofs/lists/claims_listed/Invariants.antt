use Rattle.std.proofs.Common.{◌≤◌, length}
use Rattle.setoff_model.specs.CutView.{obligations}
use Rattle.history_text.specs.Lists.{IsListed}
use Rattle.history_text.proofs.lists.claims_listed.Given as goal

-- the claims from the place on are listed
abbrev pub invariant-loop-place : goal.invariant-loop-place
invariant-loop-place l = record {
  listed : IsListed (obligations l.cut) l.place l.lists;
  within : l.place ≤ length l.cut.claims;
}

abbrev pub decreases-loop-place : goal.decreases-loop-place
decreases-loop-place l = l.place
