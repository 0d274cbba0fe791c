use Rattle.load_reading.proofs.Closes.{other_so}
use Rattle.load_reading.proofs.naming.closes_other.Goals as goal

pub returns : goal.returns
returns c = other_so c.args.fields.now c.begins_with_close.result c.in-len1-up.len_at_least (c.has_sign.ensures.0 c.if-not-has_sign.false) c.begins_with_close.ensures
