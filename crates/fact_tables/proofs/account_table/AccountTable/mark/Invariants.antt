use Rattle.std.specs.Prelude.{map, take, is_some}
use Rattle.std.proofs.Common.{◌≡◌}
use Rattle.claim_history.specs.Facts.{party_place}
use Rattle.fact_tables.proofs.account_table.AccountTable.mark.Given as goal

-- the parties of the cut so far are marked
abbrev pub invariant-loop-party : goal.invariant-loop-party
invariant-loop-party l = record {
  facts : l.self.facts ≡ l.initial.self.facts;
  marks : l.self.marks ≡ map (λ a. is_some (party_place (take l.party-index l.cut.parties) a.firm)) l.initial.self.facts;
  room : l.self.room ≡ l.initial.self.room;
}
