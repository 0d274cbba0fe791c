use Rattle.std.proofs.Common.{rules}
use Rattle.netting_graph.specs.NetView.{NetView}
use Rattle.netting_graph.specs.Merging.{IsNetOf}
use Rattle.netting_graph.proofs.Sound.{sound}
use Rattle.netting_graph.proofs.net.Net.of.Goals as goal

pub invariant_of-result : goal.invariant_of-result
invariant_of-result c =
    let net : NetView = record { parties = c.in_ok-parties.parties.items; arcs = c.in_ok-arcs.arcs.items } in
    let is : IsNetOf c.args.cut.now net = search rules in
    sound c.args.cut.now net c.requires is

pub returns-clause-net : goal.returns-clause-net
returns-clause-net c =
    let net : NetView = record { parties = c.in_ok-parties.parties.items; arcs = c.in_ok-arcs.arcs.items } in
    let is : IsNetOf c.args.cut.now net = search rules in
    sound c.args.cut.now net c.requires is
