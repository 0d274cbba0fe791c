use Rattle.std.specs.Prelude.{map}
use Rattle.std.proofs.Common.{◌≡◌}
use Rattle.fact_tables.proofs.Settle.{account_after}
use Rattle.fact_tables.proofs.account_table.discharge_accounts.Given as goal

-- the accounts, settled by the claims of the cut so far
abbrev pub invariant-loop-i : goal.invariant-loop-i
invariant-loop-i l = l.accounts ≡ map (account_after l.cut l.discharges l.i) l.initial.accounts
