-- The tables may go to another thread.
use denote.Param.Send.{IsSend, sendable}
use Rattle.std.proofs.Crossing.{crosses}
use Rattle.name_index.proofs.Threads.{names_are_sent, keys_are_sent}
use Rattle.fact_tables.specs.contracts.account_table.AccountTable as accounts
use Rattle.fact_tables.specs.contracts.claim_table.ClaimTable as claims
use Rattle.fact_tables.specs.contracts.firm_sums.FirmSums as sums

sums_are_sent : IsSend (sums.the_field).row
sums_are_sent = search (names_are_sent, crosses, sendable) depth 20

pub accounts_are_sent : IsSend (accounts.the_field).row
accounts_are_sent = search (names_are_sent, crosses, sendable) depth 20

pub claims_are_sent : IsSend (claims.the_field).row
claims_are_sent = search (keys_are_sent, sums_are_sent, crosses, sendable) depth 20
