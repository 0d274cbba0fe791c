use Rattle.load_reading.proofs.Closes.{names_so}
use Rattle.load_reading.proofs.naming.names_close.Goals as goal

pub returns : goal.returns
returns c = names_so c.args.fields.now c.closes_after.result c.in-len1-up.len_at_least c.closes_after.ensures
