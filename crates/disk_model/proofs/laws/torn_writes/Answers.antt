use Rattle.disk_model.proofs.Words.{torn_law, writes_law}
use Rattle.disk_model.proofs.AnyBytes.{any_bytes_law}
use Rattle.disk_model.proofs.laws.torn_writes.Goals as goal

pub returns-clause-torn : goal.returns-clause-torn
returns-clause-torn c = torn_law

pub returns-clause-nothing_else : goal.returns-clause-nothing_else
returns-clause-nothing_else c = writes_law

pub returns-clause-any_bytes : goal.returns-clause-any_bytes
returns-clause-any_bytes c = any_bytes_law
