use Rattle.std.proofs.Common.{arith}
use Rattle.limited_book.proofs.Limits.{reserve_two}
use Rattle.limited_book.proofs.limited.LimitedBooks.open_rounds.Goals as goal

pub returns-clause-open : goal.returns-clause-open
returns-clause-open c = omega (arith, c.reserved.ensures.entries, reserve_two c.args.self.now.members)

pub returns-clause-most : goal.returns-clause-most
returns-clause-most c = omega (arith, c.reserved.ensures.entries, c.used-used.ensures.few_entries, reserve_two c.args.self.now.members)
