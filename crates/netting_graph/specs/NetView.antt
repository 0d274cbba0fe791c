-- What contracts see of a net.
use Rattle.std.specs.Prelude.{◌≡◌, ◌≢◌, ◌⊎◌, ◌<◌, ◌≤◌, ℕ, ◌+◌, ◌*◌, List, [], ◌∷◌, ◌++◌}
use Rattle.std.specs.Prelude.{length, map, slice_index_or, slice_set, All, AllPairs}
use Rattle.setoff_model.specs.declared.limits.TheConstants.{MOST_FIRMS, MOST_CLAIMS, MOST_AMOUNT, MOST_WINDOW}
use Rattle.setoff_model.specs.declared.cut.Party.{Party}
use Rattle.setoff_model.specs.Setoff.{Obligations, total_of}
use Rattle.setoff_model.specs.CutView.{spends, rooms}
use Rattle.netting_graph.specs.declared.arc.Arc.{Arc}
use Rattle.netting_graph.specs.Pairs.{Pairs, IsPairAt}

-- the parties with their windows, and the arcs between them
pub record NetView : Type 0 where
  pub parties : List Party
  pub arcs : List Arc

-- the places of the debtors
abbrev pub arc_debtors : List Arc → List ℕ
arc_debtors arcs = map (λ a. a.debtor) arcs

-- the places of the creditors
abbrev pub arc_creditors : List Arc → List ℕ
arc_creditors arcs = map (λ a. a.creditor) arcs

-- the cents of the arcs
abbrev pub arc_amounts : List Arc → List ℕ
arc_amounts arcs = map (λ a. a.amount) arcs

-- the obligations of parties by arcs
abbrev pub obligations_of_arcs : List Party → List Arc → Obligations
obligations_of_arcs parties arcs = record {
  debtors = arc_debtors arcs;
  creditors = arc_creditors arcs;
  amounts = arc_amounts arcs;
  spends = spends parties;
  rooms = rooms parties;
}

-- the obligations of a net: its arcs in place of claims
abbrev pub obligations_of_net : NetView → Obligations
obligations_of_net net = obligations_of_arcs net.parties net.arcs

-- the debtor and the creditor of each arc
abbrev pub pairs_of : List Arc → Pairs
pairs_of arcs = record { debtors = arc_debtors arcs; creditors = arc_creditors arcs }

-- an arc with so many cents more
abbrev pub grown : Arc → ℕ → Arc
grown arc cents = record { debtor = arc.debtor; creditor = arc.creditor; amount = arc.amount + cents }

-- the cents are added to the arc of their debtor and creditor, or to a new one at the end where they have none
abbrev pub IsAdded : List Arc → ℕ → ℕ → ℕ → List Arc → Type 0
IsAdded old debtor creditor cents new =
    ((a : ℕ) × IsPairAt (pairs_of old) debtor creditor a
    × ((none : Arc) → new ≡ slice_set old a (grown (slice_index_or old a none) cents)))
    ⊎ (((a : ℕ) → IsPairAt (pairs_of old) debtor creditor a → ⊥)
    × (new ≡ old ++ record { debtor = debtor; creditor = creditor; amount = cents } ∷ []))

-- the arc goes between two parties and has cents
pub record IsArcAmong (parties : List Party) (a : Arc) : Type 0 where
  pub debtor : a.debtor < length parties
  pub creditor : a.creditor < length parties
  pub apart : a.debtor ≢ a.creditor
  pub some : 1 ≤ a.amount
  pub limit : a.amount ≤ MOST_CLAIMS * MOST_AMOUNT

-- what holds of every net
pub record IsNet (net : NetView) : Type 0 where
  pub few_parties : length net.parties ≤ MOST_FIRMS
  pub few_arcs : length net.arcs ≤ MOST_CLAIMS
  pub pairs : AllPairs (λ a b. a.debtor ≡ b.debtor → a.creditor ≢ b.creditor) net.arcs
  pub arcs : All (IsArcAmong net.parties) net.arcs
  pub total : total_of (arc_amounts net.arcs) ≤ MOST_CLAIMS * MOST_AMOUNT
  pub spends : All (λ f. f.spend ≤ MOST_WINDOW) net.parties
  pub rooms : All (λ f. f.room ≤ MOST_WINDOW) net.parties
