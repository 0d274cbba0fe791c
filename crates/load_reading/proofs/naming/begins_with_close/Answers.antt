use Rattle.load_reading.proofs.Closes.{begins_so}
use Rattle.load_reading.proofs.naming.begins_with_close.Goals as goal

pub returns : goal.returns
returns c = begins_so c.args.fields.now c.is_close_verb.result c.in-len1-up.len_at_least c.is_close_verb.ensures
