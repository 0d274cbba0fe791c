use Rattle.journal_summaries.proofs.pool_list.put_counts.Goals as goal

pub returns : goal.returns
returns c =
    rw (c.in_ok-number_field.ensures, c.in_ok-number_field-2.ensures, c.in_ok-number_field-3.ensures, c.in_ok-number_field-4.ensures, c.in_ok-number_field-5.ensures, c.in_ok-number_field-6.ensures) at c.put_texts.ensures
