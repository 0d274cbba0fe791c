-- The positions: the account of each firm, with what it is owed and owes.
use Rattle.std.specs.Prelude.{ℕ, List, [], ◌∷◌, map, codes}
use Rattle.setoff_model.specs.Texts.{cents_text, signed_cents_text}
use Rattle.claim_book.specs.claim_history.specs.Facts.{Ledger, account_facts, position_of}
use Rattle.claim_book.specs.claim_history.specs.declared.fact.AccountFact.{AccountFact}
use Rattle.claim_book.specs.claim_history.specs.declared.fact.Position.{Position}
use Rattle.firm_notices.specs.Tables.{csv_text}

-- the names of the fields
abbrev pub position_names : List (List ℕ)
position_names = codes "firm" ∷ codes "balance" ∷ codes "credit" ∷ codes "ceiling" ∷ codes "offer" ∷ codes "receivable"
    ∷ codes "payable" ∷ []

-- the fields of an account and a position
abbrev pub position_fields : AccountFact → Position → List (List ℕ)
position_fields account position =
    account.firm ∷ signed_cents_text account.balance ∷ cents_text account.credit ∷ cents_text account.ceiling ∷ cents_text account.offer
    ∷ cents_text position.receivable ∷ cents_text position.payable ∷ []

-- the names, and a row for each firm in order of registration
abbrev pub position_rows : Ledger → List (List (List ℕ))
position_rows l = position_names ∷ map (λ account. position_fields account (position_of l account.firm)) (account_facts l)

-- as CSV
abbrev pub positions_text : Ledger → List ℕ
positions_text l = csv_text (position_rows l)
