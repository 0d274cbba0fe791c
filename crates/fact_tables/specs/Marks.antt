-- The marks of the tables: which rows are in a cut.
use Rattle.std.specs.Prelude.{ℕ, Bool, false, List, [], ◌∷◌, ◌++◌, map, Option, Some, None, is_some, get_or, if◌then◌else◌}
use Rattle.setoff_model.specs.CutView.{CutView}
use Rattle.claim_history.specs.declared.act.Act.{Act}
use Rattle.claim_history.specs.declared.act.Act.TheVariants as act
use Rattle.claim_history.specs.declared.entry.Entry.{Entry}
use Rattle.claim_history.specs.declared.fact.ClaimFact.{ClaimFact}
use Rattle.claim_history.specs.declared.fact.AccountFact.{AccountFact}
use Rattle.claim_history.specs.Facts.{claim_place, party_place}
use Rattle.claim_history.specs.History.{is_accepted}

-- for each claim whether it is one of the cut
abbrev pub claims_in : CutView → List ClaimFact → List Bool
claims_in cut claims = map (λ c. is_some (claim_place cut.claims c.key)) claims

-- for each account whether its firm is a party of the cut
abbrev pub accounts_in : CutView → List AccountFact → List Bool
accounts_in cut accounts = map (λ a. is_some (party_place cut.parties a.firm)) accounts

-- for each row that it has no mark
abbrev pub no_marks : {X : Type 0} → List X → List Bool
no_marks rows = map (λ _. false) rows

-- the marks of the claims after an accepted act: a claim that is filed has none
abbrev pub claim_marks_after : Act → List Bool → List Bool
claim_marks_after (act.File key debtor amount due) marks = marks ++ false ∷ []
claim_marks_after _ marks = marks

-- the marks of the claims after an entry; a refusal changes nothing
abbrev pub claim_marks_with : Entry → List Bool → List Bool
claim_marks_with e marks = if is_accepted e then claim_marks_after e.act marks else marks

-- the marks of the accounts after an accepted act: the account of a firm that is registered has none
abbrev pub account_marks_after : Act → List Bool → List Bool
account_marks_after (act.Firm firm) marks = marks ++ false ∷ []
account_marks_after _ marks = marks

-- the marks of the accounts after an entry; a refusal changes nothing
abbrev pub account_marks_with : Entry → List Bool → List Bool
account_marks_with e marks = if is_accepted e then account_marks_after e.act marks else marks

-- the mark at the place of a row; none where there is no such row
abbrev pub mark_at : List Bool → Option ℕ → Bool
mark_at marks None = false
mark_at marks (Some place) = get_or marks place false
