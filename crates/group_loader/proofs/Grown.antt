-- How the moments of groups go on.
use Rattle.std.proofs.Common.{◌≡◌, inl, inr, ⊎_elim, ℕ, ◌+◌, ◌<◌, ◌≤◌, Bool, if◌then◌else◌, nat_le, List, [], ◌∷◌, ◌++◌, length, get_or, sym, ◌∙◌, ap, subst, arith, length-append}
use Rattle.std.proofs.lemmas.List.{append-nil, flat_map_more, get_or_append_left, get_or_push, take-append-le, take_all}
use Rattle.std.proofs.lemmas.Bool.{cases_lt, le-leb, lt-leb}
use Rattle.disk_model.specs.Calls.{Seen, Passes}
use Rattle.claim_history.specs.declared.call.Call.{Call}
use Rattle.group_loader.specs.Groups.{HasGroupMoments, StandsForCalls, StandsForWhole, calls_after, joined}

pub calls_whole : (base : List Call) (groups : List (List Call)) → calls_after base groups (length groups) ≡ base ++ joined groups
calls_whole base groups = ap (λ (gs : List (List Call)). base ++ joined gs) (take_all (length groups) groups (omega arith))

pub calls_more : (base : List Call) (groups : List (List Call)) (group : List Call) → base ++ joined (groups ++ group ∷ []) ≡ calls_after base groups (length groups) ++ group
calls_more base groups group =
    sym (flat_map_more (λ (g : List Call). g) base groups group) ∙ ap (λ (l : List Call). l ++ group) (sym (calls_whole base groups))

calls_before : (base : List Call) (groups : List (List Call)) (group : List Call) (i : ℕ) → i ≤ length groups → calls_after base (groups ++ group ∷ []) i ≡ calls_after base groups i
calls_before base groups group i le = ap (λ (gs : List (List Call)). base ++ joined gs) (take-append-le i groups (group ∷ []) le)

-- no group more is no call more
whole_wide : (calls group : List Call) (c : List ℕ) → StandsForWhole calls [] c → StandsForWhole calls group c
whole_wide calls group c (inl alone) = inl alone
whole_wide calls group c (inr more) = inl (subst (StandsForCalls c) (append-nil calls) more)

module _ (d d' : Seen) (opened : ℕ) (base : List Call) (groups : List (List Call)) (group : List Call)
    (has : HasGroupMoments d opened base groups [])
    (passes : Passes d d' (StandsForWhole (calls_after base groups (length groups)) group)) where
  -- the spans of all but the last stay
  earlier : (i t : ℕ) (c : List ℕ) → i < length groups → has.at i ≤ t → t < has.at (i + 1) → d'.image t c → StandsForWhole (calls_after base groups i) (get_or groups i []) c
  earlier i t c high since until there =
      has.spans i t c high since until (passes.no_more t c (omega (arith, until, has.below (i + 1) (omega (arith, high)))) there)

  -- the last goes on
  goes_on : (t : ℕ) (c : List ℕ) → has.at (length groups) ≤ t → t ≤ d'.moment → d'.image t c → StandsForWhole (calls_after base groups (length groups)) group c
  goes_on t c since le there = ⊎_elim
      (λ late. passes.since t c late le there)
      (λ early. whole_wide (calls_after base groups (length groups)) group c (has.last t c since early (passes.no_more t c early there)))
      (cases_lt d.moment t)

  -- a group that failed
  pub groups_tried : HasGroupMoments d' opened base groups group
  groups_tried = record {
    at = has.at;
    begins = has.begins;
    rises = has.rises;
    below = λ i le. omega (arith, has.below i le, passes.later);
    spans = earlier;
    last = goes_on;
  }

  -- one that is kept: its moment is the present one
  module _ (durable : (c : List ℕ) → d'.image d'.moment c → StandsForCalls c (calls_after base groups (length groups) ++ group)) where
    abbrev at' : ℕ → ℕ
    at' i = if nat_le i (length groups) then has.at i else d'.moment

    abbrev groups' : List (List Call)
    groups' = groups ++ group ∷ []

    at_old : (i : ℕ) → i ≤ length groups → at' i ≡ has.at i
    at_old i le = ap (λ (b : Bool). if b then has.at i else d'.moment) (le-leb i (length groups) le)

    at_new : (i : ℕ) → length groups < i → at' i ≡ d'.moment
    at_new i lt = ap (λ (b : Bool). if b then has.at i else d'.moment) (lt-leb i (length groups) lt)

    long : length groups' ≡ length groups + 1
    long = length-append groups (group ∷ [])

    below_now : (i : ℕ) → at' i ≤ d'.moment
    below_now i = ⊎_elim
        (λ past. omega (arith, at_new i past))
        (λ le. omega (arith, at_old i le, has.below i le, passes.later))
        (cases_lt (length groups) i)

    spans' : (i t : ℕ) (c : List ℕ) → i < length groups' → at' i ≤ t → t < at' (i + 1) → d'.image t c → StandsForWhole (calls_after base groups' i) (get_or groups' i []) c
    spans' i t c high since until there =
        let le : i ≤ length groups = omega (arith, high, long) in
        let since_old : has.at i ≤ t = subst (λ (m : ℕ). m ≤ t) (at_old i le) since in
        subst (λ (calls : List Call). StandsForWhole calls (get_or groups' i []) c) (sym (calls_before base groups group i le))
        (⊎_elim
        (λ inner.
        subst (λ (g : List Call). StandsForWhole (calls_after base groups i) g c) (sym (get_or_append_left groups (group ∷ []) [] i inner))
        (earlier i t c inner since_old (subst (λ (m : ℕ). t < m) (at_old (i + 1) (omega (arith, inner))) until) there))
        (λ outer.
        let is : length groups ≡ i = omega (arith, le, outer) in
        subst (λ (g : List Call). StandsForWhole (calls_after base groups i) g c) (sym (get_or_push groups group [] i is))
        (subst (λ (k : ℕ). StandsForWhole (calls_after base groups k) group c) is
        (goes_on t c (subst (λ (k : ℕ). has.at k ≤ t) (sym is) since_old) (omega (arith, until, below_now (i + 1))) there)))
        (cases_lt i (length groups)))

    last' : (t : ℕ) (c : List ℕ) → at' (length groups') ≤ t → t ≤ d'.moment → d'.image t c → StandsForWhole (calls_after base groups' (length groups')) [] c
    last' t c since le there =
        let is : t ≡ d'.moment = omega (arith, since, le, at_new (length groups') (omega (arith, long))) in
        inl (subst (StandsForCalls c) (sym (calls_whole base groups' ∙ calls_more base groups group)) (durable c (subst (λ (m : ℕ). d'.image m c) is there)))

    pub groups_grow : HasGroupMoments d' opened base groups' []
    groups_grow = record {
      at = at';
      begins = at_old 0 (omega arith) ∙ has.begins;
      rises = λ i high. ⊎_elim
          (λ inner. omega (arith, at_old i (omega (arith, inner)), at_old (i + 1) (omega (arith, inner)), has.rises i inner))
          (λ outer. omega (arith, at_new (i + 1) (omega (arith, outer)), below_now i))
          (cases_lt i (length groups));
      below = λ i high. below_now i;
      spans = spans';
      last = last';
    }
