use Rattle.std.proofs.Common.{◌≡◌, true, false, subst, sym, refl, ◌∙◌, arith, vec_len, true≢false}
use Rattle.std.proofs.lemmas.Bool.{eqb-true}
use Rattle.std.proofs.lemmas.List.{nil_from_length}
use Rattle.statement_text.specs.Drafts.{Drafted, MayBeParty}
use Rattle.statement_text.proofs.Drafts.{may_be_party, repeat_refused, was_there, is_new}
use Rattle.statement_text.proofs.Same.{name_place}
use Rattle.statement_text.proofs.Causes.{no_firm, firm_is_new}
use Rattle.statement_text.specs.Causes.{HasPartyCause}
use Rattle.statement_text.specs.declared.error.StatementCause.TheVariants as causes
use Rattle.statement_text.proofs.draft.Draft.party_refusal.Goals as goal

pub returns-then-is_some-clause-refused : goal.returns-then-is_some-clause-refused
returns-then-is_some-clause-refused c =
    subst (λ (d : Drafted). (true ≡ false → MayBeParty d c.args.party.now) × (MayBeParty d c.args.party.now → true ≡ false)) c.self.view_is
    (λ e. absurd cc, λ may. absurd (repeat_refused c.self.inside.firms.names c.self.inside.keys.keys _ c.args.party.now c.place.result c.self.invariant (name_place c.args.party.now.firm c.self.inside.firms.names _ c.place.ensures) (sym c.is_some.ensures ∙ c.if-is_some.true) may))

pub returns-else-not-has_window_of-clause-refused :
    goal.returns-else-not-has_window_of-clause-refused
returns-else-not-has_window_of-clause-refused c =
    let none : vec_len c.self.inside.claims ≡ 0 = eqb-true (vec_len c.self.inside.claims) 0 (sym c.is_empty.ensures ∙ c.if-not-is_empty.false) in
    subst (λ (d : Drafted). (false ≡ false → MayBeParty d c.args.party.now) × (MayBeParty d c.args.party.now → false ≡ false)) c.self.view_is (
      λ e. may_be_party c.self.inside.firms.names c.self.inside.keys.keys _ c.args.party.now c.place.result c.self.invariant (omega arith) (omega arith) (name_place c.args.party.now.firm c.self.inside.firms.names _ c.place.ensures)
          (sym c.is_some.ensures ∙ c.if-is_some.false) (c.has_window_of.ensures.0 c.if-not-has_window_of.false),
      λ may. refl,
    )

pub returns-then-is_some-clause-cause : goal.returns-then-is_some-clause-cause
returns-then-is_some-clause-cause c =
    let none : vec_len c.self.inside.claims ≡ 0 = eqb-true (vec_len c.self.inside.claims) 0 (sym c.is_empty.ensures ∙ c.if-not-is_empty.false) in
    subst (λ (d : Drafted). HasPartyCause d c.args.party.now causes.Repeat) c.self.view_is
    (nil_from_length _ (omega arith), omega arith, λ new. was_there c.self.inside.firms.names c.args.party.now.firm c.place.result (name_place c.args.party.now.firm c.self.inside.firms.names _ c.place.ensures) (sym c.is_some.ensures ∙ c.if-is_some.true) (firm_is_new c.self.inside.firms.names c.self.inside.keys.keys _ c.args.party.now.firm c.self.invariant new))

pub returns-then-not-has_window_of-clause-cause : goal.returns-then-not-has_window_of-clause-cause
returns-then-not-has_window_of-clause-cause c =
    let none : vec_len c.self.inside.claims ≡ 0 = eqb-true (vec_len c.self.inside.claims) 0 (sym c.is_empty.ensures ∙ c.if-not-is_empty.false) in
    subst (λ (d : Drafted). HasPartyCause d c.args.party.now causes.Window) c.self.view_is
    (nil_from_length _ (omega arith), omega arith, no_firm c.self.inside.firms.names c.self.inside.keys.keys _ c.args.party.now.firm c.self.invariant (is_new c.self.inside.firms.names c.args.party.now.firm c.place.result (name_place c.args.party.now.firm c.self.inside.firms.names _ c.place.ensures) (sym c.is_some.ensures ∙ c.if-is_some.false)), λ window. true≢false (sym (c.has_window_of.ensures.1 window) ∙ c.if-not-has_window_of.true))
