-- The lines of a weighted set-off, beside those that a statement has.
use Rattle.std.specs.Prelude.{ℕ, List, [], ◌∷◌, ◌++◌, codes, decimal}
use Rattle.setoff_model.specs.declared.kind.Kind.{Kind}
use Rattle.setoff_model.specs.declared.name.Key.{Key}
use Rattle.setoff_model.specs.Texts.{cents_text, kind_text}
use Rattle.statement_text.specs.Lines.{claim_fields}

-- `WEIGHED KIND`
abbrev pub weighed_head_fields : Kind → List (List ℕ)
weighed_head_fields kind = codes "WEIGHED" ∷ kind_text kind ∷ []

-- `CLAIM creditor invoice debtor amount discharged weight`
abbrev pub weighed_claim_fields : Key → List ℕ → ℕ → ℕ → ℕ → List (List ℕ)
weighed_claim_fields key debtor amount discharge weight = claim_fields key debtor amount discharge ++ decimal weight ∷ []

-- `TOTAL total`
abbrev pub total_fields : ℕ → List (List ℕ)
total_fields total = codes "TOTAL" ∷ cents_text total ∷ []
