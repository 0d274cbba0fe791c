use Rattle.firm_notices.proofs.open_claims.put_claim.Goals as goal

pub returns : goal.returns
returns c =
    rw (c.bytes.ensures.bytes, c.bytes-2.ensures.bytes, c.bytes-3.ensures.bytes, c.deref.ensures.value, c.deref-2.ensures.value, c.deref-3.ensures.value, c.deref-4.ensures.value, c.deref-5.ensures.value) at c.put_row.ensures
