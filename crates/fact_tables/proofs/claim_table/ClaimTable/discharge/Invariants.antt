use Rattle.std.specs.Prelude.{map}
use Rattle.std.proofs.Common.{◌≡◌}
use Rattle.fact_tables.proofs.Settle.{claim_after}
use Rattle.fact_tables.proofs.claim_table.ClaimTable.discharge.Given as goal

-- the claims, settled by the claims of the cut so far
abbrev pub invariant-loop-i : goal.invariant-loop-i
invariant-loop-i l = record {
  facts : l.self.facts ≡ map (claim_after l.cut l.discharges l.i) l.initial.self.facts;
  marks : l.self.marks ≡ l.initial.self.marks;
  room : l.self.room ≡ l.initial.self.room;
}
