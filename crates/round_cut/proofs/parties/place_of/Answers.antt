use Rattle.std.proofs.Common.{rules, ◌≡◌, ◌∙◌, ◌++◌, ◌∷◌, [], List, length, position, None, sym, ap, subst}
use Rattle.std.specs.List.{position_or_len}
use Rattle.setoff_model.specs.declared.cut.Party.{Party}
use Rattle.round_cut.specs.CutOfFacts.{party_in}
use Rattle.setoff_model.specs.Same.{same_name}
use Rattle.name_index.proofs.Rows.{no_row}
use Rattle.round_cut.specs.Growing.{is_party}
use Rattle.round_cut.proofs.Joined.{party_there, party_new, place_new}
use Rattle.round_cut.proofs.parties.place_of.Goals as goal

pub returns-in-Some-clause-parties : goal.returns-in-Some-clause-parties
returns-in-Some-clause-parties c =
    party_there (party_in c.args.accounts.now c.args.kind c.args.firm.now) c.deref.result.now c.args.parties.now.items c.in-Some.place c.in-Some.ensures c.deref.ensures.value

pub returns-in_ok-push-in-None-2-clause-parties : goal.returns-in_ok-push-in-None-2-clause-parties
returns-in_ok-push-in-None-2-clause-parties c =
    c.in_ok-push-in-None-2.ensures.items
    ∙ ap (λ (p : Party). c.args.parties.now.items ++ p ∷ []) c.party_of.ensures
    ∙ party_new (party_in c.args.accounts.now c.args.kind c.args.firm.now) c.deref.result.now c.args.parties.now.items c.in-None.ensures c.deref.ensures.value

pub returns-in_ok-push-in-None-2-clause-place : goal.returns-in_ok-push-in-None-2-clause-place
returns-in_ok-push-in-None-2-clause-place c =
    let p : Party = party_in c.args.accounts.now c.args.kind c.args.firm.now in
    let items : c.push-in-None.new.self.items ≡ c.args.parties.now.items ++ p ∷ [] = c.in_ok-push-in-None-2.ensures.items ∙ ap (λ (p : Party). c.args.parties.now.items ++ p ∷ []) c.party_of.ensures in
    let here = place_new p c.deref.result.now c.args.parties.now.items c.in-None.ensures c.deref.ensures.value in
    let count : c.len-place.result ≡ length c.args.parties.now.items = search rules in
    count ∙ sym here ∙ ap (λ (ps : List Party). position_or_len (is_party c.args.firm.now) ps) (sym items)

pub push-requires : goal.push-requires
push-requires c =
    no_row (λ (p : Party). p.firm) c.args.names.now.names c.args.parties.now.items c.requires.names (same_name c.args.firm.now)
    (subst (λ (ps : List Party). position (is_party c.args.firm.now) ps ≡ None) c.deref.ensures.value (sym c.in-None.ensures))
