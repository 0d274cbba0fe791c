use Rattle.std.proofs.Common.{◌≡◌, List, [], ℕ, ap, get_or, inl, inr, subst, sym, ◌∙◌, arith}
use Rattle.statement_text.specs.declared.error.StatementCause.{StatementCause}
use Rattle.statement_text.specs.declared.error.StatementCause.TheVariants as causes
use Rattle.statement_text.specs.Causes.{HasClaimCause}
use Rattle.statement_text.proofs.Causes.{no_firm, firm_is_new, no_key, key_is_new}
use Rattle.setoff_model.specs.declared.cut.CutClaim.{CutClaim}
use Rattle.setoff_model.specs.declared.name.Key.{Key}
use Rattle.statement_text.specs.Drafts.{Drafted, MayBeClaim, IsClaimOf}
use Rattle.statement_text.proofs.Same.{key_place, name_place}
use Rattle.statement_text.proofs.Drafts.{is_new, was_there, may_be_claim, key_refused, creditor_refused, debtor_refused, same_refused}
use Rattle.statement_text.proofs.draft.Draft.place_claim.Goals as goal

abbrev Refused : Drafted → Key → List ℕ → ℕ → Type 0
Refused d key debtor amount = (c : CutClaim) → MayBeClaim d c → IsClaimOf d.cut.parties key debtor amount c → ⊥

pub returns-then-is_some-clause-refused : goal.returns-then-is_some-clause-refused
returns-then-is_some-clause-refused c =
    subst (λ (d : Drafted). Refused d c.args.key.now c.args.debtor.now c.args.amount) c.self.view_is
    (key_refused c.self.inside.firms.names c.self.inside.keys.keys _ c.args.key.now c.args.debtor.now c.args.amount c.self.invariant (was_there c.self.inside.keys.keys c.args.key.now c.place.result (key_place c.args.key.now c.self.inside.keys.keys _ c.place.ensures) (sym c.is_some.ensures ∙ c.if-is_some.true)))

pub returns-in_default-clause-refused : goal.returns-in_default-clause-refused
returns-in_default-clause-refused c =
    subst (λ (d : Drafted). Refused d c.args.key.now c.args.debtor.now c.args.amount) c.self.view_is
    (creditor_refused c.self.inside.firms.names c.self.inside.keys.keys _ c.args.key.now c.args.debtor.now c.args.amount c.self.invariant (name_place c.args.key.now.creditor c.self.inside.firms.names _ c.in_default.ensures))

pub returns-in_default-place-clause-refused : goal.returns-in_default-place-clause-refused
returns-in_default-place-clause-refused c =
    subst (λ (d : Drafted). Refused d c.args.key.now c.args.debtor.now c.args.amount) c.self.view_is
    (debtor_refused c.self.inside.firms.names c.self.inside.keys.keys _ c.args.key.now c.args.debtor.now c.args.amount c.self.invariant (name_place c.args.debtor.now c.self.inside.firms.names _ c.in_default-place.ensures))

pub returns-then-debtor-creditor-clause-refused : goal.returns-then-debtor-creditor-clause-refused
returns-then-debtor-creditor-clause-refused c =
    subst (λ (d : Drafted). Refused d c.args.key.now c.args.debtor.now c.args.amount) c.self.view_is
    (same_refused c.self.inside.firms.names c.self.inside.keys.keys _ c.args.key.now c.args.debtor.now c.args.amount c.in-Some-place.debtor c.in-Some.creditor c.self.invariant (name_place c.args.key.now.creditor c.self.inside.firms.names _ c.in-Some.ensures).1 (name_place c.args.debtor.now c.self.inside.firms.names _ c.in-Some-place.ensures).1 c.if-debtor-creditor.true)

pub returns-clause-found : goal.returns-clause-found
returns-clause-found c =
    let claim : CutClaim = record { key = c.args.key.now; debtor = c.in-Some-place.debtor; creditor = c.in-Some.creditor; amount = c.args.amount } in
    subst (λ (d : Drafted). MayBeClaim d claim × IsClaimOf d.cut.parties c.args.key.now c.args.debtor.now c.args.amount claim) c.self.view_is
    (may_be_claim c.self.inside.firms.names c.self.inside.keys.keys _ c.args.key.now c.args.debtor.now c.args.amount c.in-Some-place.debtor c.in-Some.creditor c.self.invariant (omega arith)
    (is_new c.self.inside.keys.keys c.args.key.now c.place.result (key_place c.args.key.now c.self.inside.keys.keys _ c.place.ensures) (sym c.is_some.ensures ∙ c.if-is_some.false)) (name_place c.args.key.now.creditor c.self.inside.firms.names _ c.in-Some.ensures) (name_place c.args.debtor.now c.self.inside.firms.names _ c.in-Some-place.ensures) c.if-debtor-creditor.false c.requires.some c.requires.amount)

abbrev Caused : Key → List ℕ → StatementCause → Drafted → Type 0
Caused key debtor cause d = HasClaimCause d key debtor cause

pub returns-then-is_some-clause-cause : goal.returns-then-is_some-clause-cause
returns-then-is_some-clause-cause c =
    subst (Caused c.args.key.now c.args.debtor.now causes.Repeat) c.self.view_is
    (omega arith, λ none. was_there c.self.inside.keys.keys c.args.key.now c.place.result (key_place c.args.key.now c.self.inside.keys.keys _ c.place.ensures) (sym c.is_some.ensures ∙ c.if-is_some.true) (key_is_new c.self.inside.firms.names c.self.inside.keys.keys _ c.args.key.now c.self.invariant none))

pub returns-in_default-clause-cause : goal.returns-in_default-clause-cause
returns-in_default-clause-cause c =
    subst (Caused c.args.key.now c.args.debtor.now causes.NoParty) c.self.view_is
    (omega arith, no_key c.self.inside.firms.names c.self.inside.keys.keys _ c.args.key.now c.self.invariant (is_new c.self.inside.keys.keys c.args.key.now c.place.result (key_place c.args.key.now c.self.inside.keys.keys _ c.place.ensures) (sym c.is_some.ensures ∙ c.if-is_some.false)), inl (no_firm c.self.inside.firms.names c.self.inside.keys.keys _ c.args.key.now.creditor c.self.invariant (name_place c.args.key.now.creditor c.self.inside.firms.names _ c.in_default.ensures)))

pub returns-in_default-place-clause-cause : goal.returns-in_default-place-clause-cause
returns-in_default-place-clause-cause c =
    subst (Caused c.args.key.now c.args.debtor.now causes.NoParty) c.self.view_is
    (omega arith, no_key c.self.inside.firms.names c.self.inside.keys.keys _ c.args.key.now c.self.invariant (is_new c.self.inside.keys.keys c.args.key.now c.place.result (key_place c.args.key.now c.self.inside.keys.keys _ c.place.ensures) (sym c.is_some.ensures ∙ c.if-is_some.false)), inr (no_firm c.self.inside.firms.names c.self.inside.keys.keys _ c.args.debtor.now c.self.invariant (name_place c.args.debtor.now c.self.inside.firms.names _ c.in_default-place.ensures)))

pub returns-then-debtor-creditor-clause-cause : goal.returns-then-debtor-creditor-clause-cause
returns-then-debtor-creditor-clause-cause c =
    let firms = c.self.inside.firms.names in
    let one : c.args.key.now.creditor ≡ c.args.debtor.now = sym ((name_place c.args.key.now.creditor c.self.inside.firms.names _ c.in-Some.ensures).1 []) ∙ ap (λ (k : ℕ). get_or firms k []) (sym c.if-debtor-creditor.true) ∙ (name_place c.args.debtor.now c.self.inside.firms.names _ c.in-Some-place.ensures).1 [] in
    subst (Caused c.args.key.now c.args.debtor.now causes.SameFirm) c.self.view_is (
      omega arith,
      no_key firms c.self.inside.keys.keys _ c.args.key.now c.self.invariant (is_new c.self.inside.keys.keys c.args.key.now c.place.result (key_place c.args.key.now c.self.inside.keys.keys _ c.place.ensures) (sym c.is_some.ensures ∙ c.if-is_some.false)),
      λ none. firm_is_new firms c.self.inside.keys.keys _ c.args.key.now.creditor c.self.invariant none c.in-Some.creditor [] (name_place c.args.key.now.creditor c.self.inside.firms.names _ c.in-Some.ensures).0 ((name_place c.args.key.now.creditor c.self.inside.firms.names _ c.in-Some.ensures).1 []),
      λ none. firm_is_new firms c.self.inside.keys.keys _ c.args.debtor.now c.self.invariant none c.in-Some-place.debtor [] (name_place c.args.debtor.now c.self.inside.firms.names _ c.in-Some-place.ensures).0 ((name_place c.args.debtor.now c.self.inside.firms.names _ c.in-Some-place.ensures).1 []),
      one,
    )
