use Rattle.std.proofs.Common.{◌≡◌, ◌∙◌, [], ◌∷◌, map, take, Some, None, sym, subst}
use Rattle.std.proofs.lemmas.List.{take_all}
use Rattle.claim_book.specs.claim_history.specs.Facts.{position_of}
use Rattle.claim_book.specs.Book.{ledger_of}
use Rattle.firm_notices.specs.Tables.{HoldsText, csv_text}
use Rattle.firm_notices.specs.Positions.{position_names, position_fields, positions_text}
use Rattle.firm_notices.proofs.Growing.{one_row, mapped_more, whole}
use Rattle.firm_notices.proofs.Listed.{known_position}
use Rattle.firm_notices.proofs.firms.positions.Goals as goal

pub loop-account-init : goal.loop-account-init
loop-account-init c = record { held = subst (λ text. HoldsText c.put_row.new.table text) (one_row position_names) (c.in_ok-put_row.ensures [] c.new_table-table.ensures) }

pub unreachable-requires : goal.unreachable-requires
unreachable-requires c =
    let known = known_position (ledger_of c.args.book.now.history) c.accounts-accounts.result.now c.loop-account.account-index c.account-item.result c.accounts-accounts.ensures.accounts c.loop-account-test.true c.account-item.is in
    let none : None ≡ Some (position_of (ledger_of c.args.book.now.history) c.account-item.result.firm) = sym c.in-None.is ∙ c.position.ensures ∙ known in cc

pub loop-account-preserved : goal.loop-account-preserved
loop-account-preserved c =
    let l = ledger_of c.args.book.now.history in
    let accounts = c.accounts-accounts.result.now in
    let i = c.loop-account.account-index in
    let account = c.account-item.result in
    let known = known_position l accounts i account c.accounts-accounts.ensures.accounts c.loop-account-test.true c.account-item.is in
    let found : Some c.in-Some.position ≡ Some (position_of l account.firm) = sym c.in-Some.is ∙ c.position.ensures ∙ known in
    let position : c.in-Some.position ≡ position_of l account.firm = cc in
    let more = mapped_more (λ a. position_fields a (position_of l a.firm)) position_names accounts i account c.loop-account-test.true c.account-item.is in
    let held = c.in_ok-put_position-in-Some.ensures (csv_text (position_names ∷ map (λ a. position_fields a (position_of l a.firm)) (take i accounts))) c.loop-account.invariant.held in
    record { held = subst (λ text. HoldsText c.put_position.new.table text) (sym more) (rw position at held) }

pub returns : goal.returns
returns c =
    let l = ledger_of c.args.book.now.history in
    let all = take_all c.loop-account.account-index c.accounts-accounts.result.now c.loop-account-test.false ∙ c.accounts-accounts.ensures.accounts in
    let held = subst (λ accounts. HoldsText c.loop-account.table (csv_text (position_names ∷ map (λ a. position_fields a (position_of l a.firm)) accounts))) all c.loop-account.invariant.held in
    whole c.text_of.result c.loop-account.table (positions_text l) c.text_of.ensures held
