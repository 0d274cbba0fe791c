use Rattle.std.proofs.Common.{◌≡◌, ◌≢◌, ℕ, ◌+◌, ◌<◌, slice_index}
use Rattle.setoff_model.specs.CutView.{obligations}
use Rattle.chain_explain.specs.Chains.{first_debtor}
use Rattle.chain_explain.specs.Walks.{IsCarried, stand}
use Rattle.chain_explain.proofs.lowering.lower.Given as goal

-- the claims so far are lowered, and the amount has come to the debtor of the next
abbrev pub invariant-loop-claim : goal.invariant-loop-claim
invariant-loop-claim l = record {
  of_each : (j : ℕ) → j < l.claim-index → slice_index l.initial.rests (slice_index l.chain j) ≡ slice_index l.rests (slice_index l.chain j) + l.amount;
  of_none : (c : ℕ) → ((j : ℕ) → j < l.claim-index → slice_index l.chain j ≢ c) → slice_index l.rests c ≡ slice_index l.initial.rests c;
  carried : IsCarried (obligations l._cut) l.initial.rests l.rests
      (first_debtor (obligations l._cut) l.chain) (stand (obligations l._cut) l.chain (first_debtor (obligations l._cut) l.chain) l.claim-index) l.amount;
}
