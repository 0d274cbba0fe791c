use Rattle.std.proofs.Common.{◌≡◌, ◌≤◌, ◌++◌, vec_capacity}
use Rattle.trial_round.specs.Input.{firm_acts, text_of_acts}
use Rattle.trial_round.proofs.input.write_firms.Given as goal

abbrev pub invariant-loop-registered : goal.invariant-loop-registered
invariant-loop-registered l = record {
  room : 80 ≤ vec_capacity l.room;
  written : l.text.items ≡ l.initial.text.items ++ text_of_acts (firm_acts l.registered);
}
