use Rattle.journal_summaries.proofs.pool_list.put_pool.Goals as goal

pub returns : goal.returns
returns c = rw (c.counts_in-counts.ensures, c.book.ensures) at c.put_counts.ensures
