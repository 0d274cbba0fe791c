use Rattle.std.proofs.Common.{◌≡◌, rules}
use Rattle.setoff_model.specs.Texts.{signed_cents_text}
use Rattle.firm_notices.proofs.firms.put_position.Goals as goal

pub returns : goal.returns
returns c =
    let balance : c.in_ok-signed_field.field-0.items ≡ signed_cents_text c.args.account.now.balance = search rules in
    rw (balance, c.in_ok-cents_field.ensures, c.in_ok-cents_field-2.ensures, c.in_ok-cents_field-3.ensures, c.in_ok-cents_field-4.ensures, c.in_ok-cents_field-5.ensures) at c.put_sums.ensures
