use Rattle.journal_summaries.proofs.Sealed.{keepable}
use Rattle.journal_summaries.proofs.seal_line.put_body.Goals as goal

pub encode-requires-clause-kept : goal.encode-requires-clause-kept
encode-requires-clause-kept c = keepable c.args.pool.now c.args.act.now c.bytes-name.ensures.named c.requires
