use Rattle.std.proofs.Common.{◌∙◌, ◌∷◌, [], ◌++◌, All, ap, map, subst, sym}
use Rattle.std.proofs.lemmas.List.{map-append}
use Rattle.std.proofs.lemmas.List.Elements.{All-push}
use Rattle.clap.specs.Simple.{Shape, shape_of as made}
use Rattle.clap.specs.declared.builder.command.Command.{Command}
use Rattle.command_words.proofs.Chains.{IsLocal}
use Rattle.command_words.proofs.program.add.Goals as goal

pub returns-clause-shapes : goal.returns-clause-shapes
returns-clause-shapes c =
    let old = c.args.commands.now.items in
    ap (map (λ (k : Command). made k)) c.push_reserved.ensures.items
    ∙ map-append (λ (k : Command). made k) old (c.in_ok-command_of.field-0 ∷ [])
    ∙ ap (λ (shape : Shape). map (λ (k : Command). made k) old ++ shape ∷ []) c.in_ok-command_of.ensures.shape

pub returns-clause-local : goal.returns-clause-local
returns-clause-local c all =
    subst (All IsLocal) (sym c.push_reserved.ensures.items) (All-push IsLocal c.args.commands.now.items c.in_ok-command_of.field-0 all c.in_ok-command_of.ensures.local)
