use Rattle.std.proofs.lemmas.Result.{IfOk-weaker}
use Rattle.command_words.proofs.Chains.{command_local, command_made}
use Rattle.command_words.proofs.program.command_of.Goals as goal

pub returns-clause-shape : goal.returns-clause-shape
returns-clause-shape c =
    IfOk-weaker c.args-2.result _ _ (λ r adds. command_made c.new.result r c.in_ok-args.args.items c.args.name.now _ adds c.in_ok-args.ensures.local c.new.ensures.local c.new.ensures.app c.in_ok-args.ensures.rules) c.args-2.ensures

pub returns-clause-local : goal.returns-clause-local
returns-clause-local c =
    IfOk-weaker c.args-2.result _ _ (λ r adds. command_local c.new.result r c.in_ok-args.args.items adds c.in_ok-args.ensures.local c.new.ensures.local) c.args-2.ensures
