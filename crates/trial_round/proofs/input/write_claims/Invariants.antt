use Rattle.std.proofs.Common.{◌≡◌, ◌*◌, ◌≤◌, ◌++◌, vec_capacity}
use Rattle.trial_round.specs.Input.{claim_acts, text_of_acts}
use Rattle.trial_round.proofs.input.write_claims.Given as goal

abbrev pub invariant-loop-filed : goal.invariant-loop-filed
invariant-loop-filed l = record {
  room : 80 ≤ vec_capacity l.room;
  made : l.draws.made ≡ 3 * l.filed;
  seed : l.draws.seed ≡ l.seed;
  written : l.text.items ≡ l.initial.text.items ++ text_of_acts (claim_acts l.firms l.seed l.filed);
}
