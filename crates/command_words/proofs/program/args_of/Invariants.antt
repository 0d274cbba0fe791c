use Rattle.std.proofs.Common.{◌≡◌, ◌≤◌, All, map, take, length, false, vec_len, vec_capacity}
use Rattle.clap.specs.Words.{rule_of}
use Rattle.command_words.specs.Program.{value_of}
use Rattle.command_words.proofs.program.args_of.Given as goal

-- the values so far, and the room for all
abbrev pub invariant-loop-id : goal.invariant-loop-id
invariant-loop-id l = record {
  rules : map (λ a. rule_of a) l.args.items ≡ map (λ v. value_of v.0.now v.1) (take l.id-index l.values);
  local : All (λ a. a.global ≡ false) l.args.items;
  so_far : vec_len l.args ≡ l.id-index;
  room : length l.values ≤ vec_capacity l.args;
}
