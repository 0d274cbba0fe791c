use Rattle.std.specs.Prelude.{min, if◌then◌else◌, ◌==◌}
use Rattle.std.specs.Vec.{with_items}
use Rattle.std.proofs.Common.{◌≡◌, ◌⊎◌, ℕ, ◌+◌, ◌-◌, ◌<◌, ◌≤◌, false, List, length, slice_index, set, ◌∙◌, sym, ap, subst, inl, inr, arith}
use Rattle.std.proofs.lemmas.Grind.{get_or_default_zero}
use Rattle.std.proofs.lemmas.List.{with_items_is}
use Rattle.setoff_model.specs.CutView.{obligations}
use Rattle.chain_explain.specs.Chains.{first_debtor, last_creditor, begun, ended}
use Rattle.chain_explain.specs.Explained.{claims_left, parties_left}
use Rattle.chain_explain.specs.Walks.{AreLeft, NoneBelow, IsLowered, IsCarried}
use Rattle.chain_explain.proofs.Lowered.{share_of, no_more}
use Rattle.chain_explain.proofs.Taken.{open_left, open_falls, lowered_at, least_of_three}
use Rattle.chain_explain.proofs.lowering.take_open.Goals as goal

pub returns-clause-left : goal.returns-clause-left
returns-clause-left c =
    let o = obligations c.args.cut.now in
    let left = c.args.left.now in
    let chain = c.args.chain.now in
    let from = c.args.from in
    let at = c.args.at in
    let begins = left.begins.items in
    let ends = left.ends.items in
    let is = c.requires.left.left_each in
    let a = c.min-amount.result in
    let new = (with_items left.rests c.lower.new.rests).items in
    let same : new ≡ c.lower.new.rests = with_items_is left.rests c.lower.new.rests (c.lower.auto.rests ∙ c.deref_mut.ensures.len) in
    let lowered : IsLowered left.rests.items chain a new = subst (λ (ys : List ℕ). IsLowered left.rests.items chain a ys) (sym same) (subst (λ (xs : List ℕ). IsLowered xs chain a c.lower.new.rests) c.deref_mut.ensures.value c.lower.ensures.lowered) in
    let carried : IsCarried o left.rests.items new (first_debtor o chain) (last_creditor o chain) a =
    subst (λ (ys : List ℕ). IsCarried o left.rests.items ys (first_debtor o chain) (last_creditor o chain) a) (sym same) (subst (λ (xs : List ℕ). IsCarried o xs c.lower.new.rests (first_debtor o chain) (last_creditor o chain) a) c.deref_mut.ensures.value c.lower.ensures.carried) in
    let carried_to : IsCarried o left.rests.items new from at a =
    subst (λ (p : ℕ). IsCarried o left.rests.items new p at a) (sym c.requires.from) (subst (λ (p : ℕ). IsCarried o left.rests.items new (first_debtor o chain) p a) (sym c.requires.at) carried) in
    let many : length new ≡ length left.rests.items = ap length same ∙ c.lower.auto.rests ∙ ap length c.deref_mut.ensures.value in
    let from_in : from < length begins = omega (arith, is.begin_each, c.requires.parties.0) in
    let at_in : at < length ends = omega (arith, is.end_each, c.requires.parties.1) in
    let b : c.index.result.now ≡ slice_index begins from = c.index.ensures ∙ get_or_default_zero begins from _ from_in in
    let e : c.index-2.result.now ≡ slice_index ends at = c.index-2.ensures ∙ get_or_default_zero ends at _ at_in in
    let b' : c.index_mut.result.now ≡ slice_index begins from = c.index_mut.ensures.value ∙ get_or_default_zero begins from _ from_in in
    let e' : c.index_mut-2.result.now ≡ slice_index ends at = c.index_mut-2.ensures.value ∙ get_or_default_zero ends at _ at_in in
    let one : c.min.result ≡ min c.least_rest.result c.index.result.now = c.min.ensures in
    let two : a ≡ min c.min.result c.index-2.result.now = c.min-amount.ensures in
    let enough_begun : a ≤ slice_index begins from = omega (arith, one, two, b) in
    let enough_ended : a ≤ slice_index ends at = omega (arith, one, two, e) in
    record {
      left_each = subst (λ (x : ℕ). AreLeft o new (set begins from (x - a)) (set ends at (c.index_mut-2.result.now - a))) (sym b')
          (subst (λ (y : ℕ). AreLeft o new (set begins from (slice_index begins from - a)) (set ends at (y - a))) (sym e')
          (open_left o left.rests.items begins ends new from at a is many carried_to from_in at_in enough_begun enough_ended));
      begun = subst (λ (x : ℕ). NoneBelow (set begins from (x - a)) left.spender) (sym b')
          (λ k lt. let le = lowered_at begins from a from_in enough_begun k in let z = c.requires.left.begun k lt in omega (arith, le, z));
      settled = λ k lt. let le = no_more left.rests.items new chain a lowered k in let z = c.requires.left.settled k lt in omega (arith, le, z);
    }

pub returns-clause-taken : goal.returns-clause-taken
returns-clause-taken c =
    let o = obligations c.args.cut.now in
    let left = c.args.left.now in
    let chain = c.args.chain.now in
    let from = c.args.from in
    let at = c.args.at in
    let begins = left.begins.items in
    let ends = left.ends.items in
    let is = c.requires.left.left_each in
    let a = c.min-amount.result in
    let new = (with_items left.rests c.lower.new.rests).items in
    let same : new ≡ c.lower.new.rests = with_items_is left.rests c.lower.new.rests (c.lower.auto.rests ∙ c.deref_mut.ensures.len) in
    let lowered : IsLowered left.rests.items chain a new = subst (λ (ys : List ℕ). IsLowered left.rests.items chain a ys) (sym same) (subst (λ (xs : List ℕ). IsLowered xs chain a c.lower.new.rests) c.deref_mut.ensures.value c.lower.ensures.lowered) in
    let from_in : from < length begins = omega (arith, is.begin_each, c.requires.parties.0) in
    let at_in : at < length ends = omega (arith, is.end_each, c.requires.parties.1) in
    let b : c.index.result.now ≡ slice_index begins from = c.index.ensures ∙ get_or_default_zero begins from _ from_in in
    let e : c.index-2.result.now ≡ slice_index ends at = c.index-2.ensures ∙ get_or_default_zero ends at _ at_in in
    let b' : c.index_mut.result.now ≡ slice_index begins from = c.index_mut.ensures.value ∙ get_or_default_zero begins from _ from_in in
    let e' : c.index_mut-2.result.now ≡ slice_index ends at = c.index_mut-2.ensures.value ∙ get_or_default_zero ends at _ at_in in
    let one : c.min.result ≡ min c.least_rest.result c.index.result.now = c.min.ensures in
    let two : a ≡ min c.min.result c.index-2.result.now = c.min-amount.ensures in
    let all : a ≡ min (min c.least_rest.result (slice_index begins from)) (slice_index ends at) = omega (arith, one, two, b, e) in
    let least = least_of_three c.least_rest.result (slice_index begins from) (slice_index ends at) a all in
    let met = c.least_rest.ensures.met in
    let k = slice_index chain met.0 in
    let whole : slice_index left.rests.items k ≡ c.least_rest.result = subst (λ (xs : List ℕ). slice_index xs k ≡ c.least_rest.result) c.deref.ensures.value met.2 in
    let lower_by = lowered.of_each met.0 met.1 in
    let ends_it : (slice_index new k ≡ 0) ⊎ ((a ≡ slice_index begins from) ⊎ (a ≡ slice_index ends at)) =
    elim least.1 as (λ _. (slice_index new k ≡ 0) ⊎ ((a ≡ slice_index begins from) ⊎ (a ≡ slice_index ends at))) [ inl s ↦ inl (omega (arith, s, whole, lower_by)) | inr s ↦ inr s ] in
    let falls = open_falls o left.rests.items begins ends new from at a k is (no_more left.rests.items new chain a lowered) c.requires.parties.0 c.requires.parties.1 least.0.1 least.0.2 c.requires.begins c.requires.ends (c.requires.trail.places met.0 met.1) (c.requires.held met.0 met.1) ends_it in
    record {
      rests = λ k _. share_of left.rests.items new chain a lowered k;
      begins = subst (λ (x : ℕ). (f : ℕ) → slice_index begins f ≡ slice_index (set begins from (x - a)) f + begun o (record { closed = false; amount = a; claims = chain }) f) (sym b')
          (subst (λ (p : ℕ). (f : ℕ) → slice_index begins f ≡ slice_index (set begins from (slice_index begins from - a)) f + (if p == f then a else 0)) c.requires.from
          (lowered_at begins from a from_in least.0.1));
      ends = subst (λ (x : ℕ). (f : ℕ) → slice_index ends f ≡ slice_index (set ends at (x - a)) f + ended o (record { closed = false; amount = a; claims = chain }) f) (sym e')
          (subst (λ (p : ℕ). (f : ℕ) → slice_index ends f ≡ slice_index (set ends at (slice_index ends at - a)) f + (if p == f then a else 0)) c.requires.at
          (lowered_at ends at a at_in least.0.2));
      falls = subst (λ (x : ℕ). claims_left o new + parties_left o (set begins from (x - a)) (set ends at (c.index_mut-2.result.now - a)) < claims_left o left.rests.items + parties_left o begins ends) (sym b')
          (subst (λ (y : ℕ). claims_left o new + parties_left o (set begins from (slice_index begins from - a)) (set ends at (y - a)) < claims_left o left.rests.items + parties_left o begins ends) (sym e') falls);
    }
