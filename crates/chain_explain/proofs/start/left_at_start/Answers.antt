use Rattle.std.specs.Vec.{with_items}
use Rattle.std.proofs.Common.{◌≡◌, ℕ, ◌-◌, ◌<◌, List, length, slice_index, sym, ◌∙◌, ap, arith, rules}
use Rattle.std.proofs.lemmas.List.{with_items_is}
use Rattle.setoff_model.specs.Setoff.{inflow, outflow, flow_at}
use Rattle.setoff_model.specs.CutView.{obligations, debtors, creditors}
use Rattle.setoff_model.specs.declared.cut.CutClaim.{CutClaim}
use Rattle.setoff_model.proofs.Columns.{claims_long, parties_long}
use Rattle.setoff_model.proofs.SumsBounded.{sums_are_bounded}
use Rattle.chain_explain.proofs.Started.{left_at_start}
use Rattle.chain_explain.proofs.start.left_at_start.Goals as goal

pub sum_flows-requires-clause-fits : goal.sum_flows-requires-clause-fits
sum_flows-requires-clause-fits c =
    omega (arith, sums_are_bounded.total c.args.cut.now c.args.discharges.now c.requires.cut c.requires.lawful)

pub returns : goal.returns
returns c =
    let cut = c.args.cut.now in
    let o = obligations cut in
    let d = c.args.discharges.now in
    let outs = c.sum_flows.new.outflows in
    let ins = c.sum_flows.new.inflows in
    let first_begins = with_items c.in_ok-begins.begins outs in
    let first_ends = with_items c.in_ok-ends.ends ins in
    let begins = (with_items first_begins c.net.new.begins).items in
    let ends = (with_items first_ends c.net.new.ends).items in
    let outs_are : first_begins.items ≡ outs = with_items_is c.in_ok-begins.begins outs (c.sum_flows.auto.outflows ∙ c.deref_mut-2.ensures.len) in
    let ins_are : first_ends.items ≡ ins = with_items_is c.in_ok-ends.ends ins (c.sum_flows.auto.inflows ∙ c.deref_mut.ensures.len) in
    let begins_are : begins ≡ c.net.new.begins = with_items_is first_begins c.net.new.begins (c.net.auto.begins ∙ c.deref_mut-3.ensures.len) in
    let ends_are : ends ≡ c.net.new.ends = with_items_is first_ends c.net.new.ends (c.net.auto.ends ∙ c.deref_mut-4.ensures.len) in
    let read_begins : c.deref_mut-3.result.now ≡ outs = c.deref_mut-3.ensures.value ∙ outs_are in
    let read_ends : c.deref_mut-4.result.now ≡ ins = c.deref_mut-4.ensures.value ∙ ins_are in
    let many_outs : length outs ≡ length o.spends =
    let p = ap length c.parties.ensures in omega (arith, c.sum_flows.auto.outflows, c.deref_mut-2.ensures.len, c.in_ok-begins.ensures.len, p, parties_long cut) in
    let many_ins : length ins ≡ length o.spends =
    let p = ap length c.parties-2.ensures in omega (arith, c.sum_flows.auto.inflows, c.deref_mut.ensures.len, c.in_ok-ends.ensures.len, p, parties_long cut) in
    let claims : c.claims.result.now ≡ cut.claims = c.claims.ensures in
    let out_at : (f : ℕ) → f < length o.spends → slice_index outs f ≡ outflow o d f =
    λ f lt. c.sum_flows.ensures.outflows f (omega (arith, many_outs)) ∙ ap (λ (cs : List CutClaim). flow_at (length cs) (debtors cs) d f) claims ∙ ap (λ n. flow_at n o.debtors d f) (sym (claims_long cut)) in
    let in_at : (f : ℕ) → f < length o.spends → slice_index ins f ≡ inflow o d f =
    λ f lt. c.sum_flows.ensures.inflows f (omega (arith, many_ins)) ∙ ap (λ (cs : List CutClaim). flow_at (length cs) (creditors cs) d f) claims ∙ ap (λ n. flow_at n o.creditors d f) (sym (claims_long cut)) in
    let began : (f : ℕ) → f < length o.spends → slice_index begins f ≡ outflow o d f - inflow o d f =
    λ f lt.
    let net = c.net.ensures.begins f (omega (arith, ap length read_begins, many_outs)) in
    let b = ap (λ (xs : List ℕ). slice_index xs f) read_begins in
    let e = ap (λ (xs : List ℕ). slice_index xs f) read_ends in
    let x = ap (λ (xs : List ℕ). slice_index xs f) begins_are in
    let y = out_at f lt in
    let z = in_at f lt in
    omega (arith, net, b, e, x, y, z) in
    let ended : (f : ℕ) → f < length o.spends → slice_index ends f ≡ inflow o d f - outflow o d f =
    λ f lt.
    let net = c.net.ensures.ends f (omega (arith, ap length read_begins, many_outs)) in
    let b = ap (λ (xs : List ℕ). slice_index xs f) read_begins in
    let e = ap (λ (xs : List ℕ). slice_index xs f) read_ends in
    let x = ap (λ (xs : List ℕ). slice_index xs f) ends_are in
    let y = out_at f lt in
    let z = in_at f lt in
    omega (arith, net, b, e, x, y, z) in
    let many_begins : length begins ≡ length o.spends = ap length begins_are ∙ c.net.auto.begins ∙ ap length read_begins ∙ many_outs in
    let many_ends : length ends ≡ length o.spends = ap length ends_are ∙ c.net.auto.ends ∙ ap length read_ends ∙ many_ins in
    let rests : c.in_ok-rests.rests.items ≡ d = search rules in
    record {
      left_is = record {
        left_each = left_at_start o d c.in_ok-rests.rests.items begins ends rests c.requires.lawful.one_each many_begins many_ends began ended;
        begun = λ k lt. absurd (omega arith);
        settled = λ k lt. absurd (omega arith);
      };
      rests = rests;
      begins = began;
      ends = ended;
    }
