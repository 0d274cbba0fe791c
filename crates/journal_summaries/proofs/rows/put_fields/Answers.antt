use Rattle.journal_summaries.proofs.rows.put_fields.Goals as goal

pub returns : goal.returns
returns c = rw (c.deref.ensures.value, c.deref-2.ensures.value, c.deref-3.ensures.value, c.deref-4.ensures.value, c.deref-5.ensures.value, c.deref-6.ensures.value, c.deref-7.ensures.value) at c.put_row.ensures
