use Rattle.std.proofs.Common.{subst, sym}
use Rattle.statement_text.specs.Drafts.{Drafted, MayBeClaim}
use Rattle.statement_text.proofs.Same.{new_key}
use Rattle.statement_text.proofs.Drafts.{key_new, claim_kept, claim_stated}
use Rattle.statement_text.proofs.draft.Draft.with_claim.Goals as goal

pub put_claim-requires : goal.put_claim-requires
put_claim-requires c =
    let next = subst (λ (d : Drafted). MayBeClaim d c.args.claim) (sym c.self.view_is) c.requires.next in
    new_key c.args.claim.key c.self.inside.keys.keys (key_new c.self.inside.firms.names c.self.inside.keys.keys _ c.args.claim c.self.invariant next)

pub invariant_of-self : goal.invariant_of-self
invariant_of-self c =
    let next = subst (λ (d : Drafted). MayBeClaim d c.args.claim) (sym c.self.view_is) c.requires.next in
    rw (c.in_ok-put_claim.ensures.claims, c.in_ok-put_claim.ensures.discharges) (claim_kept c.self.inside.firms.names c.self.inside.keys.keys _ _ c.args.claim c.args.discharge c.self.invariant next c.requires.named c.requires.discharge c.in_ok-put_claim.ensures.keys)

pub returns-clause-stated : goal.returns-clause-stated
returns-clause-stated c =
    let next = subst (λ (d : Drafted). MayBeClaim d c.args.claim) (sym c.self.view_is) c.requires.next in
    rw (c.in_ok-put_claim.ensures.claims, c.in_ok-put_claim.ensures.discharges) (claim_stated _ c.args.claim c.args.discharge c.self.invariant.stated next c.requires.named c.requires.discharge)
