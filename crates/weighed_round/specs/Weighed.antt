-- A weighted set-off of what a history says, and its text.
use Rattle.std.specs.Prelude.{◌≡◌, ℕ, ◌+◌, ◌-◌, ◌/◌, min, List, [], ◌∷◌, ◌++◌, map, codes}
use Rattle.printed_text.specs.text_lines.specs.Fields.{line_of}
use Rattle.setoff_model.specs.declared.kind.Kind.{Kind}
use Rattle.setoff_model.specs.declared.cut.Party.{Party}
use Rattle.setoff_model.specs.declared.cut.CutClaim.{CutClaim}
use Rattle.setoff_model.specs.CutView.{CutView, OutcomeView, obligations}
use Rattle.setoff_model.specs.Weighted.{ProvesWeighted, weighted_total_of}
use Rattle.printed_text.specs.claim_history.specs.Facts.{Ledger}
use Rattle.printed_text.specs.claim_history.specs.Cut.{cut_of, due_claims}
use Rattle.printed_text.specs.statement_text.specs.Statements.{firm_at, party_lines}
use Rattle.printed_text.specs.statement_text.specs.Weighed.{total_fields, weighed_claim_fields, weighed_head_fields}
use Rattle.printed_text.specs.Printing.{lines_bytes}

-- how much a cent of a claim counts that is due on this day: 1, and one more for each 30 days that it is overdue, at most 9
abbrev pub weight_at : ℕ → ℕ → ℕ
weight_at today due = 1 + min 8 ((today - due) / 30)

-- the weights of the claims that take part, in order of filing
abbrev pub weights_of : Ledger → ℕ → List ℕ
weights_of l today = map (λ f. weight_at today f.due) (due_claims l today)

-- the cut of the claims that are due by now, of no round
abbrev pub cut_by : Ledger → Kind → ℕ → CutView
cut_by l kind today = cut_of 0 l kind today

-- ---- the text

-- the line of a claim
abbrev pub weighed_line : List Party → CutClaim → ℕ → ℕ → List ℕ
weighed_line parties c discharge weight = line_of (weighed_claim_fields c.key (firm_at parties c.debtor) c.amount discharge weight)
    ++ codes "\n"

-- one line for each claim, with its discharge and its weight
abbrev pub weighed_lines : List Party → List CutClaim → List ℕ → List ℕ → List ℕ
weighed_lines parties [] discharges weights = []
weighed_lines parties (c ∷ cs) [] weights = []
weighed_lines parties (c ∷ cs) (d ∷ discharges) [] = []
weighed_lines parties (c ∷ cs) (d ∷ discharges) (w ∷ weights) = weighed_line parties c d w ++ weighed_lines parties cs discharges weights

-- the head, the parties with their prices, the claims, the weighted total and the end
abbrev pub weighed_text : CutView → List ℕ → OutcomeView → List ℕ
weighed_text cut weights outcome =
    (line_of (weighed_head_fields cut.kind) ++ codes "\n")
    ++ lines_bytes (party_lines cut.parties outcome.prices)
    ++ weighed_lines cut.parties cut.claims outcome.discharges weights
    ++ (line_of (total_fields (weighted_total_of weights outcome.discharges)) ++ codes "\n")
    ++ codes "END\n"

-- The text is that of the cut with an outcome whose prices prove that no lawful set-off of it has a larger total by these weights.
pub record IsWeighedText (kind : Kind) (today : ℕ) (l : Ledger) (text : List ℕ) : Type 0 where
  pub outcome : OutcomeView
  pub proves : ProvesWeighted (obligations (cut_by l kind today)) (weights_of l today) outcome.discharges outcome.prices
  pub text_is : text ≡ weighed_text (cut_by l kind today) (weights_of l today) outcome
