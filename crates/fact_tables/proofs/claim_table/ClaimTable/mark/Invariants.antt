use Rattle.std.specs.Prelude.{map, take, is_some}
use Rattle.std.proofs.Common.{◌≡◌}
use Rattle.claim_history.specs.Facts.{claim_place}
use Rattle.fact_tables.proofs.claim_table.ClaimTable.mark.Given as goal

-- the claims of the cut so far are marked
abbrev pub invariant-loop-claim : goal.invariant-loop-claim
invariant-loop-claim l = record {
  facts : l.self.facts ≡ l.initial.self.facts;
  marks : l.self.marks ≡ map (λ c. is_some (claim_place (take l.claim-index l.cut.claims) c.key)) l.initial.self.facts;
  room : l.self.room ≡ l.initial.self.room;
}
