-- A state at rest has found a greatest set-off.
use Rattle.std.specs.Prelude.{slice_index, take, pos, ◌≤ℤ◌}
use Rattle.std.proofs.Common.{◌≡◌, ℕ, ◌+◌, ◌<◌, List, [], ◌∷◌, ◌++◌, length, sym, ◌∙◌, ap, arith, length-append}
use Rattle.std.proofs.lemmas.Int.{ints}
use Rattle.std.proofs.lemmas.List.{length-take, get_or-take}
use Rattle.setoff_model.specs.Setoff.{Obligations, price_at}
use Rattle.setoff_model.proofs.Weighed.{total_same, bound_same}
use Rattle.residual_network.specs.Network.{AtRest}
use Rattle.residual_network.proofs.Balance.{excess_law}
use Rattle.residual_network.proofs.Resting.{rest_law}
use Rattle.residual_state.specs.declared.state.State.{State}
use Rattle.residual_state.specs.Edges.{network_of, rewards}
use Rattle.residual_state.specs.States.{Weighed, IsStateOf, IsFound}

pub found : (g : Weighed) (w : State) (d : List ℕ) → IsStateOf g w → ((v : ℕ) → v < length w.excess.items → price_at w.excess.items v ≤ℤ pos 0) →
    d ≡ take (length g.obligations.amounts) w.flows.items → IsFound g d w.prices.items
found g w d state low is =
    let o : Obligations = g.obligations in
    let weights : List ℕ = g.weights in
    let nodes : length (o.spends ++ 0 ∷ []) ≡ length o.spends + 1 = length-append o.spends (0 ∷ []) in
    let rest : AtRest (network_of o.spends w.edges.items) w.flows.items = excess_law.rests o (network_of o.spends w.edges.items) w.flows.items state.network state.among
    (λ v lt. let i : v < length w.excess.items = omega (arith, lt, nodes, state.node_each) in let b = state.balanced v i in let l = low v i in omega (arith, ints, b, l)) in
    let long : length d ≡ length o.amounts = ap length is ∙ omega (arith, length-take (length o.amounts) w.flows.items, state.sound.flow.one_each, state.network.arcs) in
    let same : (c : ℕ) → c < length o.amounts → slice_index d c ≡ slice_index w.flows.items c = λ c lt. ap (λ (xs : List ℕ). slice_index xs c) is ∙ get_or-take (length o.amounts) w.flows.items c 0 lt in
    let prices : length w.prices.items ≡ length o.spends = omega (arith, state.sound.price_each, state.node_each) in
    let tight = rest_law.tight o (network_of o.spends w.edges.items) w.flows.items d w.prices.items state.network state.sound.flow rest state.sound.slack prices long same in
    record {
      lawful = rest_law.lawful o (network_of o.spends w.edges.items) w.flows.items d state.network state.sound.flow rest long same;
      price_each = prices;
      near = state.sound.near;
      tight = sym (total_same (rewards w.edges.items) weights d (λ c lt. state.counts c (omega (arith, long, lt)))) ∙ tight ∙ bound_same o (rewards w.edges.items) weights w.prices.items state.counts;
    }

-- the same state, where the columns of the obligations and the weights are named otherwise
pub state_of_columns : (ds ds' cs cs' us us' vs vs' ss rs : List ℕ) (w : State) → ds ≡ ds' → cs ≡ cs' → us ≡ us' → vs ≡ vs' →
    IsStateOf (record { obligations = record { debtors = ds; creditors = cs; amounts = us; spends = ss; rooms = rs }; weights = vs }) w →
    IsStateOf (record { obligations = record { debtors = ds'; creditors = cs'; amounts = us'; spends = ss; rooms = rs }; weights = vs' }) w
state_of_columns ds ds' cs cs' us us' vs vs' ss rs w ed ec eu ev is = rw (← ed, ← ec, ← eu, ← ev) is
