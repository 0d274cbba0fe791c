use Rattle.std.proofs.Common.{◌≡◌, ◌*◌, ◌≤◌, map, take, vec_len}
use Rattle.round_cut.specs.CutOfFacts.{claims_due, parties_in, claims_in}
use Rattle.round_cut.proofs.building.add_claims.Given as goal

-- the parties and the claims of a cut of the claims so far
abbrev pub invariant-loop-claim : goal.invariant-loop-claim
invariant-loop-claim l = record {
  names : l.names.names ≡ map (λ p. p.firm) l.parties.items;
  parties : l.parties.items ≡ parties_in l.accounts l.kind (claims_due l.horizon (take l.claim-index l.claims));
  due : l.due.items ≡ claims_in (claims_due l.horizon (take l.claim-index l.claims));
  few : vec_len l.parties ≤ 2 * l.claim-index;
}
