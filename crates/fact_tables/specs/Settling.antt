-- How a publication changes claims and accounts.
use Rattle.std.specs.Prelude.{pos, ◌+ℤ◌, ◌-ℤ◌}
use Rattle.claim_history.specs.declared.fact.ClaimFact.{ClaimFact}
use Rattle.claim_history.specs.declared.fact.AccountFact.{AccountFact}
use Rattle.claim_history.specs.Facts.{Settled, discharge_of, discharged_to, discharged_by}
use Rattle.fact_tables.specs.Tables.{reduced}

-- the claim with what the round discharged of it taken off
abbrev pub settled_claim : Settled → ClaimFact → ClaimFact
settled_claim round c = reduced (discharge_of c.key round) c

-- the account with what the round discharged towards the firm put in, and what it discharged by it taken out
abbrev pub settled_account : Settled → AccountFact → AccountFact
settled_account round a = record a { balance = (a.balance +ℤ pos (discharged_to a.firm round)) -ℤ pos (discharged_by a.firm round) }
