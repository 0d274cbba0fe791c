-- Whatever the words allow may be left.
use Rattle.std.proofs.Common.{◌≡◌, ◌⊎◌, inl, inr, ⊎_elim, ℕ, ◌+◌, ◌<◌, ◌≤◌, min, max, List, [], ◌∷◌, length, map, get_or, refl, sym, ◌∙◌, subst, arith}
use Rattle.std.specs.List.{range_with_len}
use Rattle.std.proofs.lemmas.Bool.{cases_lt}
use Rattle.std.proofs.lemmas.Grind.{same_number_lists}
use Rattle.std.proofs.lemmas.List.FromFn.{length-map-range_with_len, get_or-map-range_with_len}
use Rattle.disk_model.specs.Calls.{Torn, After}
use Rattle.disk_model.specs.Runs.{left_after}
use Rattle.disk_model.specs.Runs.DiskCall.{wrote}
use Rattle.disk_model.specs.Words.{IsOutside, BeginWithin, longest, MayLeave, AnyBytesLaw}
use Rattle.disk_model.proofs.Moments.{torn_same}
use Rattle.disk_model.proofs.Words.{leaves_torn}

longest_above : (n : ℕ) (writes : List (ℕ × ℕ)) → n ≤ longest n writes
longest_above n [] = omega arith
longest_above n (write ∷ writes) = omega (arith, longest_above (max n (write.0 + write.1)) writes)

module _ (d c : List ℕ) (at n : ℕ) (writes : List (ℕ × ℕ)) where
  -- a byte that stands between: as before outside the range, and as at the end where no later write may change it
  abbrev Between : ℕ → ℕ → Type 0
  Between i x = (i < length d → (i < at) ⊎ (at + n ≤ i) → x ≡ get_or d i 0) × (IsOutside i writes → get_or c i 0 ≡ x)

  abbrev Same : ℕ → Type 0
  Same i = i < length d → (i < at) ⊎ (at + n ≤ i) → IsOutside i writes → get_or c i 0 ≡ get_or d i 0

  as_before : (i : ℕ) → Same i → i < length d → (i < at) ⊎ (at + n ≤ i) → (x : ℕ) × Between i x
  as_before i same here out = (get_or d i 0, ((λ lt o. refl), (λ o. same here out o)))

  as_after : (i : ℕ) → (i < length d → (i < at) ⊎ (at + n ≤ i) → ⊥) → (x : ℕ) × Between i x
  as_after i none = (get_or c i 0, ((λ lt o. absurd (none lt o)), (λ o. refl)))

  byte_between : (i : ℕ) → Same i → (x : ℕ) × Between i x
  byte_between i same = ⊎_elim
      (λ here. ⊎_elim
      (λ front. as_before i same here (inl front))
      (λ from. ⊎_elim
      (λ inside. as_after i (λ lt out. ⊎_elim (λ front. omega (arith, front, from)) (λ behind. omega (arith, behind, inside)) out))
      (λ behind. as_before i same here (inr behind))
      (cases_lt i (at + n)))
      (cases_lt i at))
      (λ past. as_after i (λ lt out. omega (arith, lt, past)))
      (cases_lt i (length d))

  module _ (same : (i : ℕ) → Same i) (m : ℕ) where
    abbrev between : List ℕ
    between = map (λ (i : ℕ). (byte_between i (same i)).0) (range_with_len 0 m)

    between_length : length between ≡ m
    between_length = length-map-range_with_len (λ (i : ℕ). (byte_between i (same i)).0) 0 m

    between_at : (i : ℕ) → i < m → get_or between i 0 ≡ (byte_between i (same i)).0
    between_at i lt = get_or-map-range_with_len (λ (k : ℕ). (byte_between k (same k)).0) 0 m i i 0 lt (omega arith)

    torn_between : at ≤ length d → length d ≤ m → m ≤ max (length d) (at + n) → Torn at n d between
    torn_between begins no_shorter no_longer = leaves_torn at n d between begins (record {
      no_shorter = omega (arith, between_length, no_shorter);
      no_longer = omega (arith, between_length, no_longer);
      outside = λ i lt out. between_at i (omega (arith, lt, no_shorter)) ∙ (byte_between i (same i)).1.0 lt out.0;
    })

    leaves_between : m ≤ length c → length c ≤ longest m writes → MayLeave writes between c
    leaves_between no_shorter no_longer = record {
      no_shorter = omega (arith, between_length, no_shorter);
      no_longer = subst (λ (l : ℕ). length c ≤ longest l writes) (sym between_length) no_longer;
      outside = λ i lt out. (byte_between i (same i)).1.1 out ∙ sym (between_at i (omega (arith, lt, between_length)));
    }

abbrev IsLong : ℕ → List ℕ → List ℕ → Type 0
IsLong so_far d c = (length d ≡ so_far) ⊎ (length d ≡ length c)

pub any_bytes : (images : List ℕ → Type 0) (so_far : ℕ) (d c : List ℕ) (writes : List (ℕ × ℕ)) → images d → BeginWithin so_far writes → IsLong so_far d c → MayLeave writes d c
    → left_after images (map (λ (write : ℕ × ℕ). wrote write.0 write.1) writes) c
any_bytes images so_far d c [] has begin long leaves =
    subst images (sym (same_number_lists c d (omega (arith, leaves.no_shorter, leaves.no_longer)) (λ i lt. leaves.outside i (omega (arith, lt, leaves.no_longer)) tt))) has
any_bytes images so_far d c (write ∷ writes) has begin long leaves = ⊎_elim
    (λ short.
    let whole : length d ≡ length c = ⊎_elim (λ e. absurd (omega (arith, e, short, begin.0))) (λ e. e) long in
    any_bytes (After (Torn write.0 write.1) images) (max so_far (write.0 + write.1)) d c writes (d, has, torn_same write.0 write.1 d) begin.1 (inr whole) (record {
      no_shorter = leaves.no_shorter;
      no_longer = omega (arith, whole, longest_above (length d) writes);
      outside = λ i lt out. leaves.outside i lt (inl (omega (arith, lt, short)), out);
    }))
    (λ within.
    let same : (i : ℕ) → Same d c write.0 write.1 writes i = λ i lt out o. leaves.outside i lt (out, o) in
    let m : ℕ = min (length c) (max (length d) (write.0 + write.1)) in
    let e : List ℕ = between d c write.0 write.1 writes same m in
    let e_length : length e ≡ m = between_length d c write.0 write.1 writes same m in
    let long_enough : length c ≤ longest m writes = ⊎_elim
    (λ less. subst (λ (k : ℕ). length c ≤ longest k writes) (c_shorter (length c) (max (length d) (write.0 + write.1)) less) (longest_above (length c) writes))
    (λ more. subst (λ (k : ℕ). length c ≤ longest k writes) (c_longer (length c) (max (length d) (write.0 + write.1)) more) leaves.no_longer)
    (cases_lt (length c) (max (length d) (write.0 + write.1))) in
    any_bytes (After (Torn write.0 write.1) images) (max so_far (write.0 + write.1)) e c writes
    (d, has, torn_between d c write.0 write.1 writes same m within (omega (arith, leaves.no_shorter)) (omega arith)) begin.1
    (long_next (length c) (length d) (length e) so_far (write.0 + write.1) e_length long)
    (leaves_between d c write.0 write.1 writes same m (omega arith) long_enough))
    (cases_lt (length d) write.0)
  where
    c_shorter : (a b : ℕ) → a < b → a ≡ min a b
    c_shorter a b lt = omega (arith, lt)

    c_longer : (a b : ℕ) → b ≤ a → b ≡ min a b
    c_longer a b le = omega (arith, le)

    long_next : (c_len d_len e_len so end : ℕ) → e_len ≡ min c_len (max d_len end) → (d_len ≡ so) ⊎ (d_len ≡ c_len) → (e_len ≡ max so end) ⊎ (e_len ≡ c_len)
    long_next c_len d_len e_len so end is before = ⊎_elim
        (λ less. inr (omega (arith, is, less)))
        (λ more. ⊎_elim (λ e. inl (omega (arith, is, more, e))) (λ e. inr (omega (arith, is, more, e))) before)
        (cases_lt c_len (max d_len end))

pub any_bytes_law : AnyBytesLaw
any_bytes_law file writes c begin leaves = any_bytes (λ d. d ≡ file) (length file) file c writes refl begin (inl refl) leaves
