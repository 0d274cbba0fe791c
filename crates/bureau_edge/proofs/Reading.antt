-- A read from a place in some bytes.
use Rattle.std.proofs.Common.{◌≡◌, ℕ, ◌+◌, ◌<◌, List, [], ◌++◌, length, take, drop, sym, ap, ◌∙◌, arith, length-drop, drop-drop}
use Rattle.std.specs.Prelude.{min}
use Rattle.std.proofs.lemmas.List.{take-append-drop, nil_from_length}

pub moved : (all buffer : List ℕ) (at n : ℕ) → take n buffer ≡ take n (drop at all) → drop at all ≡ take n buffer ++ drop (at + n) all
moved all buffer at n same =
    sym (take-append-drop n (drop at all)) ∙ ap (λ (t : List ℕ). t ++ drop n (drop at all)) (sym same) ∙ ap (λ (t : List ℕ). take n buffer ++ t) (drop-drop n at all)

-- what a read from a place does to the bytes that are left
pub read_there : (all rest room buffer : List ℕ) (at n : ℕ) → rest ≡ drop at all → n ≡ min (length rest) (length room) → length buffer ≡ length room → take n buffer ≡ take n rest
    → (drop at all ≡ take n buffer ++ drop (at + n) all) × (n ≡ 0 → 0 < length buffer → drop (at + n) all ≡ [])
read_there all rest room buffer at n e count same front = (
  moved all buffer at n (front ∙ ap (take n) e),
  λ none some.
      let gone : length rest ≡ 0 = omega arith in
      let short : length (drop at all) ≡ 0 = sym (ap length e) ∙ gone in
      nil_from_length _ (omega (arith, length-drop (at + n) all, length-drop at all)),
)
