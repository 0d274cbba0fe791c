use Rattle.firm_notices.proofs.open_claims.put_notice.Goals as goal

pub returns : goal.returns
returns c =
    rw (c.status_field.ensures, c.in_ok-cents_field.ensures, c.in_ok-cents_field-2.ensures, c.in_ok-cents_field-3.ensures, c.in_ok-day_field.ensures, c.in_ok-overdue_field.ensures) at c.put_claim.ensures
