-- What a walk keeps, and that it is never stuck.
use Rattle.std.specs.Prelude.{slice_index, if◌then◌else◌, ◌==◌}
use Rattle.std.proofs.Common.{◌≡◌, ◌≢◌, ◌⊎◌, ℕ, zero, suc, ◌+◌, ◌<◌, ◌≤◌, List, length, set, refl, sym, ◌∙◌, ap, subst, inl, inr, add-one, arith}
use Rattle.std.proofs.Math.ListN.{length-set}
use Rattle.std.proofs.lemmas.Bool.{cases_eq, cases_lt}
use Rattle.std.proofs.lemmas.List.{get_or_past}
use Rattle.setoff_model.specs.Setoff.{Obligations, inflow, outflow}
use Rattle.setoff_model.specs.CutView.{CutView, WellFormed, obligations}
use Rattle.setoff_model.proofs.Circulation.{sum_below-same, sum_below-add}
use Rattle.setoff_model.proofs.Columns.{claims_long, parties_long, debtor_in, creditor_in}
use Rattle.chain_explain.specs.Chains.{debtor_at}
use Rattle.chain_explain.specs.Walks.{IsEven, NoneBelow, AreLeft, HasWay, stand, IsPath}
use Rattle.setoff_model.proofs.Sums.{all_flow, choose_yes, choose_no}
use Rattle.chain_explain.proofs.Lists.{set_cases, sum_below-some, sum_below-term, few_below}

-- the debtors and the creditors of a cut are among its parties
pub debtors_among : (cut : CutView) → WellFormed cut → (c : ℕ) → c < length (obligations cut).amounts → slice_index (obligations cut).debtors c < length (obligations cut).spends
debtors_among cut formed c lt = omega (arith, debtor_in cut c formed (omega (arith, claims_long cut, lt)), parties_long cut)

pub creditors_among : (cut : CutView) → WellFormed cut → (c : ℕ) → c < length (obligations cut).amounts → slice_index (obligations cut).creditors c < length (obligations cut).spends
creditors_among cut formed c lt = omega (arith, creditor_in cut c formed (omega (arith, claims_long cut, lt)), parties_long cut)

-- ---- never stuck

counts : (a b x : ℕ) → 0 < (if a == b then x else 0) → (a ≡ b) × (0 < x)
counts a b x some = elim (cases_eq a b) as (λ _. (a ≡ b) × (0 < x)) [
  | inl e ↦ (e, omega (arith, choose_yes a b x e, some))
  | inr ne ↦ absurd (omega (arith, choose_no a b x ne, some))
]

-- who owes something has a claim with a rest
pub owes : (o : Obligations) (rests : List ℕ) (f : ℕ) → 0 < outflow o rests f → HasWay o rests f
owes o rests f some =
    let e = sum_below-some (length o.amounts) (λ c. if slice_index o.debtors c == f then slice_index rests c else 0) some in
    let is = counts (slice_index o.debtors e.0) f (slice_index rests e.0) e.2 in
    (e.0, e.1, is.0, is.1)

-- who is owed a claim with a rest is owed something
pub is_owed : (o : Obligations) (rests : List ℕ) (c : ℕ) → c < length o.amounts → 0 < slice_index rests c → 0 < inflow o rests (slice_index o.creditors c)
is_owed o rests c in' some =
    let f = slice_index o.creditors c in
    omega (arith, choose_yes f f (slice_index rests c) refl, some, sum_below-term (length o.amounts) c (λ k. if slice_index o.creditors k == f then slice_index rests k else 0) in')

-- a party at which something is to begin owes something
pub begins_owe : (o : Obligations) (rests begins ends : List ℕ) (f : ℕ) → AreLeft o rests begins ends → f < length o.spends → 0 < slice_index begins f → HasWay o rests f
begins_owe o rests begins ends f left in' some =
    owes o rests f (elim (left.one_side f in') as (λ _. 0 < outflow o rests f) [
      | inl none ↦ absurd (omega (arith, none, some))
      | inr none ↦ omega (arith, none, some, left.even f in')
    ])

-- where nothing is to begin, nothing is to end
pub none_end : (o : Obligations) (rests begins ends : List ℕ) → ((c : ℕ) → c < length o.amounts → slice_index o.debtors c < length o.spends) →
    ((c : ℕ) → c < length o.amounts → slice_index o.creditors c < length o.spends) → AreLeft o rests begins ends →
    ((f : ℕ) → slice_index begins f ≡ 0) → (f : ℕ) → slice_index ends f ≡ 0
none_end o rests begins ends debtors creditors left none f =
    let m = length o.amounts in
    let n = length o.spends in
    let out = all_flow m n (λ c. slice_index o.debtors c) (λ c. slice_index rests c) debtors in
    let in' = all_flow m n (λ c. slice_index o.creditors c) (λ c. slice_index rests c) creditors in
    let outs = sum_below-add n (outflow o rests) (λ f. slice_index ends f) in
    let same = sum_below-same n (λ f. outflow o rests f + slice_index ends f) (inflow o rests) (λ f lt. let e = none f in omega (arith, left.even f lt, e)) in
    elim (cases_lt f n) as (λ _. slice_index ends f ≡ 0) [
      | inl lt ↦ omega (arith, out, in', outs, same, sum_below-term n f (λ f. slice_index ends f) lt)
      | inr past ↦ get_or_past ends f 0 (omega (arith, past, left.end_each))
    ]

-- where none of the first has something, and there are no others, none has
pub none_at_all : (xs : List ℕ) (n : ℕ) → NoneBelow xs n → length xs ≤ n → (k : ℕ) → slice_index xs k ≡ 0
none_at_all xs n none all k = elim (cases_lt k n) as (λ _. slice_index xs k ≡ 0) [
  | inl lt ↦ none k lt
  | inr past ↦ get_or_past xs k 0 (omega (arith, past, all))
]

-- where a walk has come to, it goes on, unless something is to end there
pub goes_on : (o : Obligations) (rests begins ends path marks : List ℕ) (from at n : ℕ) → IsEven o rests begins ends →
    IsPath o rests path marks from at n → 0 < n → slice_index ends at ≡ 0 → HasWay o rests at
goes_on o rests begins ends path marks from at zero even is some none = absurd (omega arith)
goes_on o rests begins ends path marks from at (suc n) even is some none =
    let c = slice_index path n in
    let owed : 0 < inflow o rests at = subst (λ (f : ℕ). 0 < inflow o rests f) (sym is.stands) (is_owed o rests c (is.claims n (omega arith)) (is.held n (omega arith))) in
    owes o rests at (omega (arith, owed, none, even at is.here))

-- where something is to end, the walk has come from a party at which something is to begin
pub opens : (o : Obligations) (rests begins ends path marks : List ℕ) (from at n : ℕ) → AreLeft o rests begins ends → IsPath o rests path marks from at n →
    ((0 < slice_index begins from) ⊎ ((e : ℕ) → slice_index ends e ≡ 0)) → 0 < slice_index ends at → (0 < n) × (0 < slice_index begins from)
opens o rests begins ends path marks from at (suc n) left is origin some = elim origin as (λ _. (0 < suc n) × (0 < slice_index begins from)) [
  | inl begun ↦ (omega arith, begun)
  | inr none ↦ let e = none at in absurd (omega (arith, e, some))
]
opens o rests begins ends path marks from at zero left is origin some = elim origin as (λ _. (0 < zero) × (0 < slice_index begins from)) [
  | inl begun ↦
      let ends_at : slice_index ends at ≡ slice_index ends from = ap (λ f. slice_index ends f) is.stands in
      elim (left.one_side from (omega (arith, is.here, is.stands))) as (λ _. (0 < zero) × (0 < slice_index begins from)) [
        | inl z ↦ absurd (omega (arith, z, begun))
        | inr z ↦ absurd (omega (arith, z, ends_at, some))
      ]
  | inr none ↦ let e = none at in absurd (omega (arith, e, some))
]

-- no firm is debtor twice on a path
pub once : (o : Obligations) (rests path marks : List ℕ) (from at n : ℕ) → IsPath o rests path marks from at n →
    (i j : ℕ) → i < j → j < n → debtor_at o path i ≢ debtor_at o path j
once o rests path marks from at n is i j lt in' same =
    let a = is.marked i (omega arith) in
    let b = is.marked j in' in
    let e = ap (λ f. slice_index marks f) same in
    omega (arith, a, b, e)

-- ---- one claim more

-- where the walk stands before a step hangs on the earlier claims alone
stand_kept : (o : Obligations) (path : List ℕ) (from n c i : ℕ) → n < length path → i ≤ n → stand o (set path n c) from i ≡ stand o path from i
stand_kept o path from n c zero in' le = refl
stand_kept o path from n c (suc i) in' le =
    elim (set_cases path n c i in') as (λ _. stand o (set path n c) from (suc i) ≡ stand o path from (suc i)) [
      | inl s ↦ absurd (omega (arith, s.0, le))
      | inr s ↦ ap (λ k. slice_index o.creditors k) s.1
    ]

module _ (o : Obligations) (rests path marks : List ℕ) (from at n : ℕ) (among : (c : ℕ) → c < length o.amounts → slice_index o.debtors c < length o.spends)
    (is : IsPath o rests path marks from at n) (off : (i : ℕ) → i < n → debtor_at o path i ≢ at) where
  stand_among : (i : ℕ) → i < suc n → stand o path from i < length o.spends
  stand_among i lt = elim (cases_eq i n) as (λ _. stand o path from i < length o.spends) [
    | inl e ↦ subst (λ (k : ℕ). stand o path from k < length o.spends) (sym e) (omega (arith, is.here, is.stands))
    | inr ne ↦ let before : i < n = omega (arith, ne, lt) in omega (arith, is.linked i before, among (slice_index path i) (is.claims i before))
  ]

  stands_apart : (i j : ℕ) → i < j → j < suc n → stand o path from i ≢ stand o path from j
  stands_apart i j lt in' same =
      let first = is.linked i (omega arith) in
      elim (cases_eq j n) as (λ _. ⊥) [
        | inl e ↦ off i (omega (arith, e, lt)) (first ∙ same ∙ ap (stand o path from) e ∙ sym is.stands)
        | inr ne ↦ let before : j < n = omega (arith, ne, in') in once o rests path marks from at n is i j lt before (first ∙ same ∙ sym (is.linked j before))
      ]

  -- so there is room for one claim more
  pub has_room : n < length o.spends
  has_room = omega (arith, few_below (suc n) (length o.spends) (stand o path from) stand_among stands_apart)

  pub gone_over : (c : ℕ) → c < length o.amounts → slice_index o.debtors c ≡ at → 0 < slice_index rests c → slice_index o.creditors c < length o.spends →
      IsPath o rests (set path n c) (set marks at n) from (slice_index o.creditors c) (n + 1)
  gone_over c within owed some party =
      let in' : n < length path = omega (arith, has_room, is.room) in
      let mark_in : at < length marks = omega (arith, is.here, is.mark_each) in
      let last : slice_index (set path n c) n ≡ c = elim (set_cases path n c n in') as (λ _. slice_index (set path n c) n ≡ c) [ inl s ↦ s.1 | inr s ↦ absurd (s.0 refl) ] in
      record {
        room = length-set path n c ∙ is.room;
        mark_each = length-set marks at n ∙ is.mark_each;
        fits = omega (arith, has_room);
        here = party;
        stands = rw add-one (ap (λ k. slice_index o.creditors k) (sym last));
        claims = λ i lt. elim (set_cases path n c i in') as (λ _. slice_index (set path n c) i < length o.amounts) [
          | inl s ↦ omega (arith, s.1, within)
          | inr s ↦ let apart : i ≢ n = s.0 in omega (arith, s.1, is.claims i (omega (arith, apart, lt)))
        ];
        held = λ i lt. elim (set_cases path n c i in') as (λ _. 0 < slice_index rests (slice_index (set path n c) i)) [
          | inl s ↦ subst (λ (k : ℕ). 0 < slice_index rests k) (sym s.1) some
          | inr s ↦ let apart : i ≢ n = s.0 in subst (λ (k : ℕ). 0 < slice_index rests k) (sym s.1) (is.held i (omega (arith, apart, lt)))
        ];
        linked = λ i lt. elim (set_cases path n c i in') as (λ _. debtor_at o (set path n c) i ≡ stand o (set path n c) from i) [
          | inl s ↦ ap (λ k. slice_index o.debtors k) s.1 ∙ owed ∙ is.stands ∙ ap (stand o path from) (sym s.0) ∙ sym (stand_kept o path from n c i in' (omega (arith, s.0)))
          | inr s ↦ let apart : i ≢ n = s.0 in ap (λ k. slice_index o.debtors k) s.1 ∙ is.linked i (omega (arith, apart, lt)) ∙ sym (stand_kept o path from n c i in' (omega (arith, lt)))
        ];
        marked = λ i lt. elim (set_cases path n c i in') as (λ _. slice_index (set marks at n) (debtor_at o (set path n c) i) ≡ i) [
          | inl s ↦
              let e : debtor_at o (set path n c) i ≡ at = ap (λ k. slice_index o.debtors k) s.1 ∙ owed in
              elim (set_cases marks at n (debtor_at o (set path n c) i) mark_in) as (λ _. slice_index (set marks at n) (debtor_at o (set path n c) i) ≡ i) [ inl m ↦ m.1 ∙ sym s.0 | inr m ↦ absurd (m.0 e) ]
          | inr s ↦
              let apart : i ≢ n = s.0 in
              let before : i < n = omega (arith, apart, lt) in
              let e : debtor_at o (set path n c) i ≡ debtor_at o path i = ap (λ k. slice_index o.debtors k) s.1 in
              elim (set_cases marks at n (debtor_at o (set path n c) i) mark_in) as (λ _. slice_index (set marks at n) (debtor_at o (set path n c) i) ≡ i) [
                | inl m ↦ absurd (off i before (sym e ∙ m.0))
                | inr m ↦ m.1 ∙ ap (λ f. slice_index marks f) e ∙ is.marked i before
              ]
        ];
      }
