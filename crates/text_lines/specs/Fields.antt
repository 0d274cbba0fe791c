-- The fields of a line: its pieces between single spaces.
use Rattle.std.specs.Prelude.{Bool, List, codes, decimal, false, true, unsigned_abs, ℕ, ℤ, ◌++◌, ◌<◌, ◌^◌, ◌∷◌, ◌≡◌}
use Rattle.std.specs.Str.Lines.{lines}
use Rattle.std.specs.List.{slice_split, join_with_byte, All, AllByRecursion}
use Rattle.std.proofs.Common.{eqb}
use Rattle.setoff_model.specs.declared.limits.TheConstants.{SUM_LIMIT}
use Rattle.setoff_model.specs.Names.{is_name}
use Rattle.setoff_model.specs.Texts.{cents_text, integer_text}

abbrev pub is_space : ℕ → Bool
is_space b = eqb b 32

abbrev pub fields : List ℕ → List (List ℕ)
fields line = slice_split is_space line

-- fields with single spaces between them
abbrev pub line_of : List (List ℕ) → List ℕ
line_of fields = join_with_byte 32 fields

abbrev pub HasNoSpace : List ℕ → Type 0
HasNoSpace field = All (λ (b : ℕ). is_space b ≡ false) field

-- a line is its fields with spaces between them, and fields without spaces are those of their line
pub record JoinLaw : Type 0 where
  pub joined : (line : List ℕ) → line_of (fields line) ≡ line
  pub cut : (first : List ℕ) (others : List (List ℕ)) → HasNoSpace first → AllByRecursion HasNoSpace others
      → fields (line_of (first ∷ others)) ≡ first ∷ others

-- the texts of values have no space
pub record NoSpaceLaw : Type 0 where
  pub names : (text : List ℕ) → is_name text ≡ true → HasNoSpace text
  pub whole : (n : ℕ) → n < 2 ^ 64 → HasNoSpace (decimal n)
  pub cents : (n : ℕ) → n < SUM_LIMIT → HasNoSpace (cents_text n)

-- each byte is above a space, so it is neither a space nor a byte that ends lines
abbrev pub IsVisible : List ℕ → Type 0
IsVisible text = All (λ (b : ℕ). 32 < b) text

-- the texts of values are visible
pub record VisibleLaw : Type 0 where
  pub names : (text : List ℕ) → is_name text ≡ true → IsVisible text
  pub whole : (n : ℕ) → n < 2 ^ 64 → IsVisible (decimal n)
  pub cents : (n : ℕ) → n < SUM_LIMIT → IsVisible (cents_text n)
  pub integers : (z : ℤ) → unsigned_abs z < 10 ^ 9 → IsVisible (integer_text z)

-- a line of visible fields that is ended by a line feed is the first line
abbrev pub EndedLaw : Type 0
EndedLaw = (first : List ℕ) (others : List (List ℕ)) (rest : List ℕ) → IsVisible first → AllByRecursion IsVisible others
    → lines (line_of (first ∷ others) ++ codes "\n" ++ rest) ≡ line_of (first ∷ others) ∷ lines rest
