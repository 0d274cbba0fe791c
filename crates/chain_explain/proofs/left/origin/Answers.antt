use Rattle.std.proofs.Common.{◌≡◌, ◌<◌, ℕ, List, length, slice_index, ◌∙◌, sym, subst, inl, inr, arith}
use Rattle.std.proofs.lemmas.Grind.{get_or_default_zero}
use Rattle.setoff_model.specs.CutView.{obligations}
use Rattle.chain_explain.specs.Walks.{NoneBelow}
use Rattle.chain_explain.proofs.Walking.{debtors_among, creditors_among, begins_owe, none_end, none_at_all}
use Rattle.chain_explain.proofs.left.origin.Goals as goal

pub returns-then-left-len-clause-origin : goal.returns-then-left-len-clause-origin
returns-then-left-len-clause-origin c =
    let o = obligations c.args.cut.now in
    let left = c.args.left.now in
    let f = c.first_above-left.result in
    let is = c.requires.left.left_each in
    let party : f < length o.spends = omega (arith, is.begin_each) in
    let some : 0 < slice_index left.begins.items f =
    subst (λ (xs : List ℕ). 0 < slice_index xs f) c.deref.ensures.value (c.first_above-left.ensures.here (omega arith)) in
    (party, inl some, begins_owe o left.rests.items left.begins.items left.ends.items f is party some)

pub returns-then-index-gt0-clause-origin : goal.returns-then-index-gt0-clause-origin
returns-then-index-gt0-clause-origin c =
    let o = obligations c.args.cut.now in
    let left = c.args.left.now in
    let is = c.requires.left.left_each in
    let k = c.args.advised in
    let below : NoneBelow left.begins.items c.first_above-left.result =
    subst (λ (xs : List ℕ). NoneBelow xs c.first_above-left.result) c.deref.ensures.value c.first_above-left.ensures.below in
    let none : (f : ℕ) → slice_index left.begins.items f ≡ 0 = none_at_all left.begins.items c.first_above-left.result below (omega arith) in
    let within : k < length left.rests.items = omega arith in
    let read : c.index.result.now ≡ slice_index left.rests.items k = c.index.ensures ∙ get_or_default_zero left.rests.items k _ within in
    let some : 0 < slice_index left.rests.items k = subst (λ (v : ℕ). 0 < v) read c.if-index-gt0.true in (
      c.debtor_of.ensures.party,
      inr (none_end o left.rests.items left.begins.items left.ends.items (debtors_among c.args.cut.now c.requires.cut) (creditors_among c.args.cut.now c.requires.cut) is none),
      (k, omega (arith, is.rest_each), sym c.debtor_of.ensures.value, some),
    )

pub returns-then-left-len-2-clause-origin : goal.returns-then-left-len-2-clause-origin
returns-then-left-len-2-clause-origin c =
    let o = obligations c.args.cut.now in
    let left = c.args.left.now in
    let is = c.requires.left.left_each in
    let k = c.first_above-left-2.result in
    let below : NoneBelow left.begins.items c.first_above-left.result =
    subst (λ (xs : List ℕ). NoneBelow xs c.first_above-left.result) c.deref.ensures.value c.first_above-left.ensures.below in
    let none : (f : ℕ) → slice_index left.begins.items f ≡ 0 = none_at_all left.begins.items c.first_above-left.result below (omega arith) in
    let some : 0 < slice_index left.rests.items k =
    subst (λ (xs : List ℕ). 0 < slice_index xs k) c.deref-2.ensures.value (c.first_above-left-2.ensures.here (omega arith)) in (
      c.debtor_of-then-left-len-2.ensures.party,
      inr (none_end o left.rests.items left.begins.items left.ends.items (debtors_among c.args.cut.now c.requires.cut) (creditors_among c.args.cut.now c.requires.cut) is none),
      (k, omega (arith, is.rest_each), sym c.debtor_of-then-left-len-2.ensures.value, some),
    )
