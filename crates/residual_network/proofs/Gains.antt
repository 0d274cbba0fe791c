-- Raises and squeezing keep the facts.
use Rattle.std.specs.Prelude.{ℤ, pos, ◌+ℤ◌, ◌-ℤ◌, ◌<ℤ◌, ◌≤ℤ◌, slice_index, Bool}
use Rattle.std.proofs.Common.{◌≡◌, ℕ, ◌<◌, ◌≤◌, List, length, sym, ◌∙◌, inl, inr, arith}
use Rattle.std.proofs.lemmas.Int.{ints}
use Rattle.std.proofs.lemmas.Bool.{cases_lt}
use Rattle.setoff_model.specs.declared.limits.TheConstants.{MOST_WEIGHT}
use Rattle.setoff_model.specs.Squeezing.{IsSqueezedTo}
use Rattle.setoff_model.proofs.Narrowed.{gain_above_back, gain_below_back, gain_even}
use Rattle.residual_network.specs.Network.{Arcs, arc_gain, IsFlow, ArcSlack, AreArcsAmong}
use Rattle.residual_network.specs.Labels.{mark, IsBelowRaises, IsRaised}
use Rattle.residual_network.specs.Laws.{RaiseLaw, SqueezingLaw}
use Rattle.residual_network.proofs.Cut.{mark_cases}

-- ---- the gains after a raise

pub gain_inside : (arcs : Arcs) (p q : List ℤ) (labelled : List Bool) (d a : ℕ) → AreArcsAmong (length labelled) arcs
    → IsRaised p q labelled d → a < length arcs.capacities
    → mark labelled (slice_index arcs.tails a) ≡ mark labelled (slice_index arcs.heads a) → arc_gain arcs q a ≡ arc_gain arcs p a
gain_inside arcs p q labelled d a is raised in' same =
    let e = raised.both (slice_index arcs.tails a) (slice_index arcs.heads a) (is.tail a in') (is.head a in') same in
    omega (arith, ints, e)

pub gain_out : (arcs : Arcs) (p q : List ℤ) (labelled : List Bool) (d a : ℕ) → AreArcsAmong (length labelled) arcs
    → IsRaised p q labelled d → a < length arcs.capacities → mark labelled (slice_index arcs.tails a) ≡ 1
    → mark labelled (slice_index arcs.heads a) ≡ 0 → arc_gain arcs q a ≡ arc_gain arcs p a +ℤ pos d
gain_out arcs p q labelled d a is raised in' t h =
    let e = raised.up (slice_index arcs.tails a) (slice_index arcs.heads a) (is.tail a in') (is.head a in') t h in
    omega (arith, ints, e)

pub gain_into : (arcs : Arcs) (p q : List ℤ) (labelled : List Bool) (d a : ℕ) → AreArcsAmong (length labelled) arcs
    → IsRaised p q labelled d → a < length arcs.capacities → mark labelled (slice_index arcs.tails a) ≡ 0
    → mark labelled (slice_index arcs.heads a) ≡ 1 → arc_gain arcs q a ≡ arc_gain arcs p a -ℤ pos d
gain_into arcs p q labelled d a is raised in' t h =
    let e = raised.up (slice_index arcs.heads a) (slice_index arcs.tails a) (is.head a in') (is.tail a in') h t in
    omega (arith, ints, e)

-- ---- the facts of one arc

-- full where its gain is above 0, and empty where it is below
abbrev ArcKept : ℤ → ℕ → ℕ → Type 0
ArcKept g x u = (pos 0 <ℤ g → x ≡ u) × (g <ℤ pos 0 → x ≡ 0)

-- four kinds of arc: both ends labelled or none, its tail alone, its head alone
fact_same : (g h : ℤ) (x u : ℕ) → h ≡ g → ArcKept g x u → ArcKept h x u
fact_same g h x u e facts = (λ a. facts.0 (omega (arith, ints, e, a)), λ b. facts.1 (omega (arith, ints, e, b)))

fact_out : (g h : ℤ) (x u d : ℕ) → h ≡ g +ℤ pos d → x ≤ u → (x < u → (g +ℤ pos d) ≤ℤ pos 0) → ArcKept g x u → ArcKept h x u
fact_out g h x u d e within most facts = (
  λ a. elim (cases_lt x u) as (λ _. x ≡ u) [ inl lt ↦ let le = most lt in absurd (omega (arith, ints, e, a, le)) | inr ge ↦ omega arith ],
  λ b. facts.1 (omega (arith, ints, e, b)),
)

fact_into : (g h : ℤ) (x u d : ℕ) → h ≡ g -ℤ pos d → (0 < x → pos d ≤ℤ g) → ArcKept g x u → ArcKept h x u
fact_into g h x u d e most facts = (
  λ a. facts.0 (omega (arith, ints, e, a)),
  λ b. elim (cases_lt 0 x) as (λ _. x ≡ 0) [ inl lt ↦ let le = most lt in absurd (omega (arith, ints, e, b, le)) | inr ge ↦ omega arith ],
)

raised_arc : (arcs : Arcs) (x : List ℕ) (p q : List ℤ) (labelled : List Bool) (d a : ℕ)
    → AreArcsAmong (length labelled) arcs → IsFlow arcs x → ArcSlack arcs x p → IsRaised p q labelled d
    → IsBelowRaises arcs x p labelled d → a < length arcs.capacities →
    ArcKept (arc_gain arcs q a) (slice_index x a) (slice_index arcs.capacities a)
raised_arc arcs x p q labelled d a is flow facts raised least in' =
    let old : ArcKept (arc_gain arcs p a) (slice_index x a) (slice_index arcs.capacities a) = (facts.full a in', facts.empty a in') in
    elim (mark_cases labelled (slice_index arcs.tails a))
    as (λ _. ArcKept (arc_gain arcs q a) (slice_index x a) (slice_index arcs.capacities a)) [
      | inl t0 ↦ elim (mark_cases labelled (slice_index arcs.heads a))
          as (λ _. ArcKept (arc_gain arcs q a) (slice_index x a) (slice_index arcs.capacities a)) [
            | inl h0 ↦ fact_same (arc_gain arcs p a) (arc_gain arcs q a) _ _ (gain_inside arcs p q labelled d a is raised in' (t0 ∙ sym h0)) old
            | inr h1 ↦ fact_into (arc_gain arcs p a) (arc_gain arcs q a) (slice_index x a) (slice_index arcs.capacities a) d
                (gain_into arcs p q labelled d a is raised in' t0 h1) (least.into a in' t0 h1) old
          ]
      | inr t1 ↦ elim (mark_cases labelled (slice_index arcs.heads a))
          as (λ _. ArcKept (arc_gain arcs q a) (slice_index x a) (slice_index arcs.capacities a)) [
            | inl h0 ↦ fact_out (arc_gain arcs p a) (arc_gain arcs q a) (slice_index x a) (slice_index arcs.capacities a) d
                (gain_out arcs p q labelled d a is raised in' t1 h0) (flow.within a in') (least.out a in' t1 h0) old
            | inr h1 ↦ fact_same (arc_gain arcs p a) (arc_gain arcs q a) _ _ (gain_inside arcs p q labelled d a is raised in' (t1 ∙ sym h1)) old
          ]
    ]

pub raise_slack : (arcs : Arcs) (x : List ℕ) (p q : List ℤ) (labelled : List Bool) (d : ℕ)
    → AreArcsAmong (length labelled) arcs → IsFlow arcs x → ArcSlack arcs x p → IsRaised p q labelled d
    → IsBelowRaises arcs x p labelled d → ArcSlack arcs x q
raise_slack arcs x p q labelled d is flow facts raised least = record {
  full = λ a in'. (raised_arc arcs x p q labelled d a is flow facts raised least in').0;
  empty = λ a in'. (raised_arc arcs x p q labelled d a is flow facts raised least in').1;
}

pub raise_law : RaiseLaw
raise_law = record { slack = raise_slack; inside = gain_inside; out = gain_out; into = gain_into }

-- ---- the gains after squeezing

pub squeezing_slack : (arcs : Arcs) (x : List ℕ) (p q : List ℤ) (n : ℕ) → AreArcsAmong n arcs → IsSqueezedTo MOST_WEIGHT p q
    → ArcSlack arcs x p → ArcSlack arcs x q
squeezing_slack arcs x p q n is squeezed facts = record {
  full = λ a in' h. facts.full a in' (gain_above_back MOST_WEIGHT p q squeezed (slice_index arcs.rewards a)
      (slice_index arcs.tails a) (slice_index arcs.heads a) (is.reward a in') h);
  empty = λ a in' h. facts.empty a in' (gain_below_back MOST_WEIGHT p q squeezed (slice_index arcs.rewards a)
      (slice_index arcs.tails a) (slice_index arcs.heads a) (is.reward a in') h);
}

pub squeezing_law : SqueezingLaw
squeezing_law = record {
  slack = squeezing_slack;
  even = λ arcs p q n a is squeezed in' h. gain_even MOST_WEIGHT p q squeezed (slice_index arcs.rewards a)
      (slice_index arcs.tails a) (slice_index arcs.heads a) (is.reward a in') h;
}
