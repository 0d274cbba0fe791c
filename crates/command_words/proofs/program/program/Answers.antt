use Rattle.std.proofs.Common.{◌≡◌, ◌∙◌, ap₂, rules}
use Rattle.std.proofs.lemmas.Result.{IfOk-weaker}
use Rattle.clap.specs.Simple.{app_of}
use Rattle.command_words.specs.Program.{bare}
use Rattle.command_words.proofs.Chains.{subcommands_add, with_subcommands}
use Rattle.command_words.proofs.program.program.Goals as goal

pub returns : goal.returns
returns c = record {
  shape =
      let empty : app_of c.subcommand_required.result ≡ bare = search rules in
      IfOk-weaker c.subcommands.result _ _ (λ r adds. subcommands_add c.subcommand_required.result r c.in_ok-commands.commands.items adds c.in_ok-commands.ensures.local ∙ ap₂ with_subcommands empty c.in_ok-commands.ensures.shapes) c.subcommands.ensures;
}
