-- What an explainer has left, and what it gives.
use Rattle.std.specs.Prelude.{◌≡◌, ℕ, zero, suc, ◌+◌, ◌-◌, ◌<◌, List, [], ◌∷◌, length, slice_index, ◌++◌}
use Rattle.setoff_model.specs.Sums.{sum_below}
use Rattle.setoff_model.specs.Setoff.{Obligations, inflow, outflow}
use Rattle.setoff_model.specs.CutView.{CutView, obligations}
use Rattle.chain_explain.specs.Chains.{ChainView, IsChainOf, share, begun, ended, Explains}

-- the cut, the rest of each claim, what is still to begin and to end at each party, and the claims of the last chain
pub record ExplainerView : Type 0 where
  pub cut : CutView
  pub rests : List ℕ
  pub begins : List ℕ
  pub ends : List ℕ
  pub claims : List ℕ

-- nothing is explained yet of the discharges
pub record IsStart (cut : CutView) (d : List ℕ) (e : ExplainerView) : Type 0 where
  pub same : e.cut ≡ cut
  pub rests : e.rests ≡ d
  pub begins : (f : ℕ) → f < length (obligations cut).spends →
      slice_index e.begins f ≡ outflow (obligations cut) d f - inflow (obligations cut) d f
  pub ends : (f : ℕ) → f < length (obligations cut).spends →
      slice_index e.ends f ≡ inflow (obligations cut) d f - outflow (obligations cut) d f
  pub claims : e.claims ≡ []

-- all is explained
pub record IsDone (o : Obligations) (e : ExplainerView) : Type 0 where
  pub rests : (c : ℕ) → c < length o.amounts → slice_index e.rests c ≡ 0
  pub begins : (f : ℕ) → f < length o.spends → slice_index e.begins f ≡ 0
  pub ends : (f : ℕ) → f < length o.spends → slice_index e.ends f ≡ 0

-- 1 where the number is above 0
abbrev pub one_above : ℕ → ℕ
one_above zero = 0
one_above (suc n) = 1

-- how many claims have a rest, and at how many parties something is to begin or to end
abbrev pub claims_left : Obligations → List ℕ → ℕ
claims_left o rests = sum_below (length o.amounts) (λ c. one_above (slice_index rests c))

abbrev pub parties_left : Obligations → List ℕ → List ℕ → ℕ
parties_left o begins ends = sum_below (length o.spends) (λ f. one_above (slice_index begins f + slice_index ends f))

abbrev pub measure : Obligations → ExplainerView → ℕ
measure o e = claims_left o e.rests + parties_left o e.begins e.ends

-- one chain more is explained
pub record HasGiven (o : Obligations) (old : ExplainerView) (x : ChainView) (new : ExplainerView) : Type 0 where
  pub chain : IsChainOf o x
  pub cut : new.cut ≡ old.cut
  pub claims : new.claims ≡ x.claims
  pub rests : (c : ℕ) → c < length o.amounts → slice_index old.rests c ≡ slice_index new.rests c + share x c
  pub begins : (f : ℕ) → f < length o.spends → slice_index old.begins f ≡ slice_index new.begins f + begun o x f
  pub ends : (f : ℕ) → f < length o.spends → slice_index old.ends f ≡ slice_index new.ends f + ended o x f
  pub falls : measure o new < measure o old

-- the chains are given one after another, from one state to another
abbrev pub Gives : Obligations → ExplainerView → List ChainView → ExplainerView → Type 0
Gives o e [] last = last ≡ e
Gives o e (x ∷ xs) last = (next : ExplainerView) × (HasGiven o e x next × Gives o next xs last)

-- the chains of an explainer explain the discharges that it was made for, once all is explained
pub record ChainsLaw : Type 0 where
  pub one_more : (o : Obligations) (e : ExplainerView) (xs : List ChainView) (x : ChainView) (mid last : ExplainerView) →
      Gives o e xs mid → HasGiven o mid x last → Gives o e (xs ++ x ∷ []) last
  pub explain : (cut : CutView) (d : List ℕ) (e : ExplainerView) (xs : List ChainView) (last : ExplainerView) →
      IsStart cut d e → Gives (obligations cut) e xs last → IsDone (obligations cut) last → Explains (obligations cut) d xs
