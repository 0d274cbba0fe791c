use Rattle.load_command.proofs.Weaker.{without_order}
use Rattle.load_command.proofs.top.load.Goals as goal

pub returns-clause-ran : goal.returns-clause-ran
returns-clause-ran g c =
    let is = c.load_in_order.ensures.ran in
    record { status = is.status; number_is = is.number_is; holds = without_order _ _ _ _ _ _ _ _ _ _ _ _ is.holds }

pub returns-clause-read_fault : goal.returns-clause-read_fault
returns-clause-read_fault g c = c.load_in_order.ensures.read_fault

pub returns-clause-write_fault : goal.returns-clause-write_fault
returns-clause-write_fault g c = c.load_in_order.ensures.write_fault

pub returns-clause-write_fault_told : goal.returns-clause-write_fault_told
returns-clause-write_fault_told g c = c.load_in_order.ensures.write_fault_told

pub returns-clause-disk_fault : goal.returns-clause-disk_fault
returns-clause-disk_fault g c = c.load_in_order.ensures.disk_fault

pub returns-clause-comes : goal.returns-clause-comes
returns-clause-comes g c = c.load_in_order.ensures.comes

pub returns-clause-only : goal.returns-clause-only
returns-clause-only g c = c.load_in_order.ensures.only

pub returns-clause-complete : goal.returns-clause-complete
returns-clause-complete g c = c.load_in_order.ensures.complete
