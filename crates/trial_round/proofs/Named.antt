-- Names of firms and invoices by their numbers.
use Rattle.std.proofs.Common.{◌≡◌, ◌∙◌, ℕ, ◌+◌, ◌%◌, ◌<◌, ◌≤◌, ◌^◌, Bool, true, false, List, [], ◌∷◌, ◌++◌, length, refl, ap, ap₂, arith, decimal}
use Rattle.std.specs.Prelude.{◌&&◌, ◌||◌, ◌==◌, Some, None, if◌then◌else◌}
use Rattle.std.specs.List.{list_all}
use Rattle.std.proofs.lemmas.Bool.{le-leb}
use Rattle.std.proofs.lemmas.List.Folds.{list_all-append}
use Rattle.std.proofs.lemmas.Fmt.{decimal_by_steps, length-decimal-le}
use Rattle.setoff_model.specs.Names.{is_letter, is_name, is_name_byte, name_of}
use Rattle.trial_round.specs.Input.{firm_name, invoice_name}

-- a digit is a byte of a name
digit_byte : (d : ℕ) → d < 10 → is_name_byte (48 + d) ≡ true
digit_byte d small = rw (le-leb 48 (48 + d) (omega arith), le-leb (48 + d) 57 (omega arith)) (or_true (is_letter (48 + d)) ((48 + d) == 45)) where
  or_true : (a b : Bool) → (a || true || b) ≡ true
  or_true true true = refl
  or_true true false = refl
  or_true false true = refl
  or_true false false = refl

one_digit : (d : ℕ) → d < 10 → list_all is_name_byte ((48 + d) ∷ []) ≡ true
one_digit d small = ap (λ (b : Bool). b && true) (digit_byte d small)

pub decimal_bytes : (n : ℕ) → n < 2 ^ 64 → list_all is_name_byte (decimal n) ≡ true
decimal_bytes n lt = decimal_by_steps (λ m ds. list_all is_name_byte ds ≡ true) one_digit
    (λ m ds large h. list_all-append is_name_byte ds ((48 + m % 10) ∷ []) ∙ ap₂ (λ (a b : Bool). a && b) h (one_digit (m % 10) (omega arith))) n lt

-- a letter, a dash and a number of at most 10 digits
pub is_named : (letter n : ℕ) → is_letter letter ≡ true → n < 2 ^ 32 → is_name (letter ∷ 45 ∷ decimal n) ≡ true
is_named letter n is lt =
    let short : length (45 ∷ decimal n) ≤ 15 = omega (arith, length-decimal-le 10 n (omega arith) (omega arith) (omega arith)) in
    ap₂ (λ (a b : Bool). a && b) (ap₂ (λ (a b : Bool). a && b) is (le-leb (length (45 ∷ decimal n)) 15 short)) (decimal_bytes n (omega arith))

pub firm_is_named : (n : ℕ) → n < 2 ^ 32 → is_name (firm_name n) ≡ true
firm_is_named n lt = is_named 70 n refl lt

pub invoice_is_named : (n : ℕ) → n < 2 ^ 32 → is_name (invoice_name n) ≡ true
invoice_is_named n lt = is_named 73 n refl lt

-- what is written so is a name
pub written_is_named : (before written text : List ℕ) (letter n : ℕ) → is_letter letter ≡ true → n < 2 ^ 32 → before ≡ [] → written ≡ before ++ letter ∷ 45 ∷ [] → text ≡ written ++ decimal n → name_of text ≡ Some (letter ∷ 45 ∷ decimal n)
written_is_named before written text letter n is lt none dash digits =
    let whole : text ≡ letter ∷ 45 ∷ decimal n = digits ∙ ap (λ (t : List ℕ). t ++ decimal n) (dash ∙ ap (λ (t : List ℕ). t ++ letter ∷ 45 ∷ []) none) in
    ap name_of whole ∙ ap (λ (b : Bool). if b then Some (letter ∷ 45 ∷ decimal n) else None) (is_named letter n is lt)
