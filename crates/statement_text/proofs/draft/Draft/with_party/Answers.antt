use Rattle.std.proofs.Common.{subst, sym}
use Rattle.std.proofs.lemmas.Int.{to_z-of_z}
use Rattle.statement_text.specs.Drafts.{Drafted, MayBeParty}
use Rattle.statement_text.proofs.Same.{new_name}
use Rattle.statement_text.proofs.Drafts.{firm_new, party_kept, party_stated}
use Rattle.statement_text.proofs.draft.Draft.with_party.Goals as goal

pub put_party-requires : goal.put_party-requires
put_party-requires c =
    let next = subst (λ (d : Drafted). MayBeParty d c.args.party) (sym c.self.view_is) c.requires.next in
    new_name c.args.party.firm c.self.inside.firms.names (firm_new c.self.inside.firms.names c.self.inside.keys.keys _ c.args.party c.self.invariant next)

pub invariant_of-self : goal.invariant_of-self
invariant_of-self c =
    let fits = c.ranges.price in
    let prices = simp to_z-of_z at c.in_ok-put_party.ensures.prices in
    let next = subst (λ (d : Drafted). MayBeParty d c.args.party) (sym c.self.view_is) c.requires.next in
    rw (c.in_ok-put_party.ensures.parties, prices) (party_kept c.self.inside.firms.names _ c.self.inside.keys.keys _ c.args.party c.args.price c.self.invariant next c.requires.named c.requires.price c.in_ok-put_party.ensures.firms)

pub returns-clause-stated : goal.returns-clause-stated
returns-clause-stated c =
    let fits = c.ranges.price in
    let prices = simp to_z-of_z at c.in_ok-put_party.ensures.prices in
    let next = subst (λ (d : Drafted). MayBeParty d c.args.party) (sym c.self.view_is) c.requires.next in
    rw (c.in_ok-put_party.ensures.parties, prices) (party_stated _ c.args.party c.args.price c.self.invariant.stated next c.requires.named c.requires.price)
