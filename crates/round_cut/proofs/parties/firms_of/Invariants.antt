use Rattle.std.proofs.Common.{◌≡◌, map, take}
use Rattle.round_cut.proofs.parties.firms_of.Given as goal

-- the firms of the accounts so far
abbrev pub invariant-loop-account : goal.invariant-loop-account
invariant-loop-account l = l.firms.names ≡ map (λ a. a.firm) (take l.account-index l.accounts)
