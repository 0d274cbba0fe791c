use Rattle.std.proofs.Common.{◌≡◌, ℕ, ◌-◌, ◌<◌, true, List, length, take, drop, slice_index, ◌∙◌, subst, sym, ap, inl, inr, refl, arith}
use Rattle.setoff_model.specs.CutView.{obligations}
use Rattle.chain_explain.specs.Chains.{IsTrail, IsClosed, share}
use Rattle.chain_explain.specs.Walks.{IsTaken, IsOrigin}
use Rattle.chain_explain.proofs.Given.{some_part, trail_part, first_of_part, last_of_part, held_part, not_of_part, cut_back}
use Rattle.chain_explain.proofs.giving.give_closed.Goals as goal

pub take_closed-amount-requires : goal.take_closed-amount-requires
take_closed-amount-requires c =
    let o = obligations c.args.cut.now in
    let left = c.args.left.now in
    let w = c.args.walk.now in
    let a = c.args.place in
    let is = c.requires.walk in
    let part = take (w.walked - a) (drop a w.path.items) in
    let same : part ≡ take (w.walked - a) (drop a c.deref.result.now) = ap (λ xs. take (w.walked - a) (drop a xs)) (sym c.deref.ensures.value) in
    let closed : IsClosed o part =
    last_of_part o left.rests.items w.path.items w.marks.items w.from w.at w.walked is a c.requires.back.0
    ∙ sym c.requires.back.1 ∙ sym (first_of_part o left.rests.items w.path.items w.marks.items w.from w.at w.walked is a c.requires.back.0) in
    record {
      cut = c.requires.cut;
      left = c.requires.left;
      some = subst (λ (xs : List ℕ). 0 < length xs) same (some_part o left.rests.items w.path.items w.marks.items w.from w.at w.walked is a c.requires.back.0);
      trail = subst (λ (xs : List ℕ). IsTrail o xs) same (trail_part o left.rests.items w.path.items w.marks.items w.from w.at w.walked is a c.requires.back.0);
      closed = subst (λ (xs : List ℕ). IsClosed o xs) same closed;
      held = subst (λ (xs : List ℕ). (i : ℕ) → i < length xs → 0 < slice_index left.rests.items (slice_index xs i)) same (held_part o left.rests.items w.path.items w.marks.items w.from w.at w.walked is a c.requires.back.0);
    }

pub returns : goal.returns
returns c =
    let o = obligations c.args.cut.now in
    let left = c.args.left.now in
    let new = c.take_closed-amount.new.left in
    let w = c.args.walk.now in
    let a = c.args.place in
    let n = w.walked in
    let is = c.requires.walk in
    let in' = c.requires.back.0 in
    let part = take (n - a) (drop a w.path.items) in
    let same : take (n - a) (drop a c.deref.result.now) ≡ part = ap (λ xs. take (n - a) (drop a xs)) c.deref.ensures.value in
    let taken : IsTaken o left (record { closed = true; amount = c.take_closed-amount.result; claims = part }) new =
    subst (λ (xs : List ℕ). IsTaken o left (record { closed = true; amount = c.take_closed-amount.result; claims = xs }) new) same c.take_closed-amount.ensures.taken in
    let closed : IsClosed o part =
    last_of_part o left.rests.items w.path.items w.marks.items w.from w.at n is a in'
    ∙ sym c.requires.back.1 ∙ sym (first_of_part o left.rests.items w.path.items w.marks.items w.from w.at n is a in') in
    let still : (i : ℕ) → i < a → 0 < slice_index new.rests.items (slice_index w.path.items i) =
    λ i lt.
    let none : share (record { closed = true; amount = c.take_closed-amount.result; claims = part }) (slice_index w.path.items i) ≡ 0 =
    rw (not_of_part o left.rests.items w.path.items w.marks.items w.from w.at n is a in' i lt) refl in
    let before : i < n = omega arith in
    let was = taken.rests (slice_index w.path.items i) (is.claims i before) in
    omega (arith, was, none, is.held i before) in
    record {
      between = record {
        left_is = c.take_closed-amount.ensures.left;
        path_each = is.room;
        mark_each = is.mark_each;
        walk_is = λ _. cut_back o left.rests.items w.path.items w.marks.items w.from w.at n is a in' new.rests.items c.requires.back.1 still;
        origin = λ _. elim c.requires.origin as (λ _. IsOrigin new w.from) [
          | inl some ↦ let e = taken.begins w.from in inl (omega (arith, e, some))
          | inr none ↦ inr (λ f. let e = taken.ends f in let z = none f in omega (arith, e, z))
        ];
        behind = omega (arith, in');
        fits = is.fits;
      };
      chain = record {
        chain = record {
          some = some_part o left.rests.items w.path.items w.marks.items w.from w.at n is a in';
          trail = trail_part o left.rests.items w.path.items w.marks.items w.from w.at n is a in';
          ends = inl closed;
        };
        closed = ((λ _. closed), (λ _. refl));
        some = c.take_closed-amount.ensures.amount;
      };
      taken = taken;
    }
