-- How the claims of a cut are merged to the arcs of its net, and how a flow on the arcs is spread over the claims.
use Rattle.std.specs.Prelude.{◌≡◌, ℕ, ◌<◌, ◌≤◌, List, length, map, slice_index, if◌then◌else◌, ◌==◌, ◌&&◌}
use Rattle.setoff_model.specs.Sums.{sum_below}
use Rattle.setoff_model.specs.Setoff.{Obligations, IsOldestFirst}
use Rattle.setoff_model.specs.CutView.{CutView, obligations, debtors, creditors, amounts}
use Rattle.netting_graph.specs.NetView.{NetView, obligations_of_net, arc_debtors, arc_creditors}

-- of the first m claims, what of x stands where the debtor and the creditor are these
abbrev pub flow_between : ℕ → List ℕ → List ℕ → List ℕ → ℕ → ℕ → ℕ
flow_between m debtors creditors x debtor creditor =
    sum_below m (λ c. if slice_index debtors c == debtor && slice_index creditors c == creditor then slice_index x c else 0)

-- claim c is of the debtor and the creditor of arc a
pub record IsOnArc (claims arcs : Obligations) (c a : ℕ) : Type 0 where
  pub debtor : slice_index claims.debtors c ≡ slice_index arcs.debtors a
  pub creditor : slice_index claims.creditors c ≡ slice_index arcs.creditors a

-- one arc for each debtor and creditor of the first m claims, in order of the first claim, with the sum of the amounts
pub record IsMerged (m : ℕ) (claims arcs : Obligations) : Type 0 where
  pub apart : (a b : ℕ) → a < b → b < length arcs.amounts → IsOnArc arcs arcs a b → ⊥
  pub amount : (a : ℕ) → a < length arcs.amounts →
      slice_index arcs.amounts a
      ≡ flow_between m claims.debtors claims.creditors claims.amounts (slice_index arcs.debtors a) (slice_index arcs.creditors a)
  pub arc_of : (c : ℕ) → c < m → (a : ℕ) × (a < length arcs.amounts) × IsOnArc claims arcs c a
  pub claim_of : (a : ℕ) → a < length arcs.amounts → (c : ℕ) × (c < m) × IsOnArc claims arcs c a
  pub in_order : (a b c : ℕ) → a < b → b < length arcs.amounts → c < m → IsOnArc claims arcs c b →
      (e : ℕ) × (e < c) × IsOnArc claims arcs e a

-- the net has the parties of the cut, and the claims of the cut merged
pub record IsNetOf (cut : CutView) (net : NetView) : Type 0 where
  pub parties : net.parties ≡ cut.parties
  pub merged : IsMerged (length cut.claims) (obligations cut) (obligations_of_net net)

-- of each arc, the sum of the discharges of its claims
abbrev pub merged : CutView → NetView → List ℕ → List ℕ
merged cut net d =
    map (λ a. flow_between (length cut.claims) (debtors cut.claims) (creditors cut.claims) d a.debtor a.creditor) net.arcs

-- the discharges of each arc's claims sum to its flow, and of two claims of one arc the earlier is filled first
pub record IsSpread (cut : CutView) (net : NetView) (flows d : List ℕ) : Type 0 where
  pub one_each : length d ≡ length cut.claims
  pub within : (c : ℕ) → c < length cut.claims → slice_index d c ≤ slice_index (amounts cut.claims) c
  pub sums : (a : ℕ) → a < length net.arcs →
      flow_between (length cut.claims) (debtors cut.claims) (creditors cut.claims) d
      (slice_index (arc_debtors net.arcs) a) (slice_index (arc_creditors net.arcs) a)
      ≡ slice_index flows a
  pub oldest_first : IsOldestFirst (obligations cut) d
