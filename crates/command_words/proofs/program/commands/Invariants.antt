use Rattle.std.proofs.Common.{◌≡◌, ◌≤◌, All, map, take, length, false, vec_len, vec_capacity}
use Rattle.clap.specs.Words.{shape_of as made}
use Rattle.clap.specs.declared.builder.command.Command.TheViews.{out-Command}
use Rattle.command_words.specs.Program.{shape_of, value_of}
use Rattle.command_words.proofs.program.commands.Given as goal

-- the commands so far, and the room for all
abbrev pub invariant-loop-name : goal.invariant-loop-name
invariant-loop-name l = record {
  shapes : map (λ c. made c) l.commands.items ≡ map (λ r. shape_of r.0.now (map (λ v. value_of v.0.now v.1) r.1.now)) (take l.name-index l.rows);
  local : All (λ c. (out-Command c).has_globals ≡ false) l.commands.items;
  so_far : vec_len l.commands ≡ l.name-index;
  room : length l.rows ≤ vec_capacity l.commands;
}
