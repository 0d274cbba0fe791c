use Rattle.std.proofs.Common.{◌<◌, length, arith}
use Rattle.setoff_model.specs.CutView.{obligations}
use Rattle.setoff_model.proofs.Columns.{claims_long}
use Rattle.setoff_model.proofs.Flows.{flow_fits}
use Rattle.setoff_model.proofs.SumsBounded.{sums_are_bounded}
use Rattle.history_text.proofs.pages.counted.Goals as goal

pub overflow_add-result : goal.overflow_add-result
overflow_add-result c =
    let cut = c.args.cut.now in
    let d = c.args.discharges.now in
    let within : c.args.place < length d = omega (arith, c.requires.place, c.requires.lawful.one_each, claims_long cut) in
    omega (arith, c.requires.received, flow_fits c.args.place (obligations cut).creditors d c.args.party within, sums_are_bounded.total cut d c.requires.cut c.requires.lawful)

pub overflow_add-result-else-claims-place : goal.overflow_add-result-else-claims-place
overflow_add-result-else-claims-place c =
    let cut = c.args.cut.now in
    let d = c.args.discharges.now in
    let within : c.args.place < length d = omega (arith, c.requires.place, c.requires.lawful.one_each, claims_long cut) in
    omega (arith, c.requires.paid, flow_fits c.args.place (obligations cut).debtors d c.args.party within, sums_are_bounded.total cut d c.requires.cut c.requires.lawful)
