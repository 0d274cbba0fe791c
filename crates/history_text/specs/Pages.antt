-- The pages of a published round, one for each party: its window and price, its claims, and what is discharged towards and by it.
use Rattle.std.specs.Prelude.{◌≡◌, ℕ, ◌+◌, ◌*◌, ◌==◌, ◌||◌, Bool, List, [], ◌∷◌, ◌++◌}
use Rattle.std.specs.Prelude.{length, All, codes, count_by, ℤ, Option, Some, if◌then◌else◌}
use Rattle.setoff_model.specs.declared.cut.Party.{Party}
use Rattle.setoff_model.specs.declared.cut.CutClaim.{CutClaim}
use Rattle.setoff_model.specs.CutView.{CutView, OutcomeView, WellFormed, obligations}
use Rattle.setoff_model.specs.Setoff.{inflow, outflow}
use Rattle.setoff_model.specs.Sums.{sum_below}
use Rattle.setoff_model.specs.Texts.{cents_text}
use Rattle.claim_history.specs.declared.act.Act.{Act}
use Rattle.claim_history.specs.declared.act.Act.TheVariants as act
use Rattle.claim_history.specs.declared.entry.Reply.{Reply}
use Rattle.claim_history.specs.declared.entry.Reply.TheVariants as reply
use Rattle.printed_text.specs.statement_text.specs.declared.line.Line.{Line}
use Rattle.printed_text.specs.statement_text.specs.declared.line.Line.TheVariants as line
use Rattle.printed_text.specs.statement_text.specs.Statements.{claim_line, claim_lines}
use Rattle.printed_text.specs.Printing.{line_bytes, lines_bytes}

-- ---- pages

-- the claim names the party at this place, as its creditor or its debtor
abbrev pub names : ℕ → CutClaim → Bool
names place c = (c.creditor == place) || (c.debtor == place)

-- of the lines of the claims, each with its discharge, those of the claims that name the party
abbrev pub page_claims : List Party → ℕ → List CutClaim → List ℕ → List Line
page_claims parties place [] discharges = []
page_claims parties place (c ∷ cs) [] = []
page_claims parties place (c ∷ cs) (d ∷ discharges) =
    (if names place c then claim_line parties c d ∷ [] else []) ++ page_claims parties place cs discharges

-- `NET in out`
abbrev pub net_text : ℕ → ℕ → List ℕ
net_text received paid = codes "NET " ++ cents_text received ++ codes " " ++ cents_text paid ++ codes "\n"

-- what is discharged towards the party and by it
abbrev pub net_of : CutView → List ℕ → ℕ → List ℕ
net_of cut discharges place = net_text (inflow (obligations cut) discharges place) (outflow (obligations cut) discharges place)

-- the page of the party at a place
abbrev pub page_text : CutView → List ℕ → ℕ → Party → ℤ → List ℕ
page_text cut discharges place party price =
    line_bytes (line.Head cut.round cut.kind) ++ (line_bytes (line.Party party price)
    ++ (lines_bytes (page_claims cut.parties place cut.claims discharges) ++ (net_of cut discharges place ++ line_bytes line.End)))

-- the pages of parties, the first of which is at a place, each with its price
abbrev pub pages_from : CutView → List ℕ → ℕ → List Party → List ℤ → List ℕ
pages_from cut discharges place [] prices = []
pages_from cut discharges place (f ∷ fs) [] = []
pages_from cut discharges place (f ∷ fs) (price ∷ prices) =
    page_text cut discharges place f price ++ pages_from cut discharges (place + 1) fs prices

-- the pages of a cut and its outcome, in the order of the statement
abbrev pub pages_text : CutView → OutcomeView → List ℕ
pages_text cut outcome = pages_from cut outcome.discharges 0 cut.parties outcome.prices

-- those of the cut, where the act publishes an outcome and is accepted
abbrev pub pages_of : Option CutView → Act → Reply → List ℕ
pages_of (Some cut) (act.Publish number outcome) (reply.Published total) = pages_text cut outcome
pages_of _ _ _ = []

-- ---- what holds of pages

-- on how many pages the claim stands
abbrev pub pages_with : CutView → CutClaim → ℕ
pages_with cut c = sum_below (length cut.parties) (λ place. if names place c then 1 else 0)

-- how many lines of a kind all pages have of claims
abbrev pub lines_on_pages : (Line → Bool) → CutView → List ℕ → ℕ
lines_on_pages kind cut discharges =
    sum_below (length cut.parties) (λ place. count_by kind (page_claims cut.parties place cut.claims discharges))

-- Each claim of a cut stands on two pages, so that of the lines of any kind that the statement has of claims, the pages have twice as
-- many. What is discharged towards the parties of all pages is what is discharged by them.
pub record PagesLaw : Type 0 where
  pub two : (cut : CutView) → WellFormed cut → All (λ c. pages_with cut c ≡ 2) cut.claims
  pub twice : (cut : CutView) (discharges : List ℕ) (kind : Line → Bool) → WellFormed cut
      → lines_on_pages kind cut discharges ≡ 2 * count_by kind (claim_lines cut.parties cut.claims discharges)
  pub balanced : (cut : CutView) (discharges : List ℕ) → WellFormed cut
      → sum_below (length cut.parties) (inflow (obligations cut) discharges)
      ≡ sum_below (length cut.parties) (outflow (obligations cut) discharges)
