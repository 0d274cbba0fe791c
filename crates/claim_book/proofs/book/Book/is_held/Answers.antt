use Rattle.std.specs.Prelude.{position}
use Rattle.std.proofs.Common.{Bool, true, List, ◌&&◌, ◌≡◌, sym, ◌∙◌, ap, ap₂}
use Rattle.setoff_model.specs.Same.{same_name}
use Rattle.round_cut.specs.claim_history.specs.declared.fact.AccountFact.{AccountFact}
use Rattle.round_cut.specs.claim_history.specs.States.{is_held, state_of}
use Rattle.fact_tables.specs.Marks.{mark_at}
use Rattle.claim_book.specs.Book.{BookView, is_funded_round, is_party}
use Rattle.claim_book.proofs.Marks.{account_mark, held_by}
use Rattle.claim_book.proofs.book.Book.is_held.Goals as goal

pub returns-then-is_funded_round : goal.returns-then-is_funded_round
returns-then-is_funded_round c =
    let firm = c.args.firm.now in
    let entries = c.self.inside.entries.items in
    let open_round = (state_of entries).open_round in
    let funded : is_funded_round open_round ≡ true = ap is_funded_round (sym c.self.invariant.round_is) ∙ sym c.is_funded_round.ensures ∙ c.if-is_funded_round.true in
    let party = c.is_marked.ensures
    ∙ ap₂ (λ (ms : List Bool) (rows : List AccountFact). mark_at ms (position (λ (a : AccountFact). same_name firm a.firm) rows)) c.self.invariant.parties_are c.self.invariant.accounts_are
    ∙ account_mark entries c.self.invariant.legal firm in
    party
    ∙ ap (λ (b : Bool). b && is_party open_round firm) (sym funded)
    ∙ held_by open_round firm
    ∙ ap (λ (b : BookView). is_held (state_of b.history).open_round firm) c.self.view_is
