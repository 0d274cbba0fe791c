use Rattle.history_text.proofs.Telling.{told_legal, told_valid}
use Rattle.history_text.proofs.told.told_len.Goals as goal

pub returns-in-None-clause-legal : goal.returns-in-None-clause-legal
returns-in-None-clause-legal c = told_legal c.args.pool.now c.args.books.now.members c.len-len.ensures.legal

pub returns-in-None-clause-valid : goal.returns-in-None-clause-valid
returns-in-None-clause-valid c = told_valid c.args.pool.now c.args.books.now.members c.len-len.ensures.valid

pub returns-in-Some-clause-legal : goal.returns-in-Some-clause-legal
returns-in-Some-clause-legal c = told_legal c.args.pool.now c.args.books.now.members c.len-len.ensures.legal

pub returns-in-Some-clause-valid : goal.returns-in-Some-clause-valid
returns-in-Some-clause-valid c = told_valid c.args.pool.now c.args.books.now.members c.len-len.ensures.valid
