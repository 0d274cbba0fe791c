use Rattle.std.proofs.Common.{◌≡◌, rules}
use Rattle.setoff_model.specs.Texts.{signed_cents_text}
use Rattle.journal_summaries.proofs.rows.put_entry.Goals as goal

pub returns : goal.returns
returns c =
    let balance : c.in_ok-signed_field.field-0.items ≡ signed_cents_text c.args.position.now.balance = search rules in
    rw (c.in_ok-number_field.ensures, c.in_ok-entry_field.ensures, c.in_ok-cents_field.ensures, c.in_ok-cents_field-2.ensures, balance, c.in_ok-cents_field-3.ensures, c.in_ok-cents_field-4.ensures) at c.put_fields.ensures
