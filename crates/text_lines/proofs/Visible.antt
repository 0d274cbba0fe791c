-- Texts without a space or an end of a line, and the lines that are made of them.
use Rattle.std.proofs.Common.{◌≡◌, ℕ, suc, ◌+◌, ◌-◌, ◌/◌, ◌%◌, ◌<◌, ◌≤◌, ◌^◌, Bool, true, false, cond, List, [], ◌∷◌, ◌++◌, length, take, refl, ap, ◌∙◌, inl, inr, arith, decimal, append_assoc}
use Rattle.std.specs.Prelude.{◌&&◌, ◌||◌, ◌==◌, nat_le, codes, slice_index_or, slice_index, ℤ, pos, negsuc, unsigned_abs}
use Rattle.std.specs.List.{list_all, All, AllByRecursion}
use Rattle.std.specs.Str.Lines.{lines, lines_of_parts, strip_carriage_return}
use Rattle.std.proofs.lemmas.Bool.{and_parts, ne_eqb, leb-true, le-leb, eqb-true, or_cases}
use Rattle.std.proofs.lemmas.List.Sums.{AllPass-from_list_all}
use Rattle.std.proofs.lemmas.List.Elements.{All-append, All-nil, All-cons}
use Rattle.std.proofs.lemmas.List.Splits.{slice_split_at}
use Rattle.std.proofs.lemmas.Fmt.{decimal_by_steps}
use Rattle.setoff_model.specs.declared.limits.TheConstants.{SUM_LIMIT}
use Rattle.setoff_model.specs.Names.{is_name, is_letter, is_name_byte}
use Rattle.setoff_model.specs.Texts.{cents_text, integer_text}
use Rattle.text_lines.specs.Fields.{line_of, IsVisible, VisibleLaw, EndedLaw}
use Rattle.text_lines.proofs.Cutting.{feed, some_parts}

above_range : (low high b : ℕ) → 33 ≤ low → (nat_le low b && nat_le b high) ≡ true → nat_le 33 b ≡ true
above_range low high b from h = le-leb 33 b (omega (arith, leb-true low b (and_parts (nat_le low b) (nat_le b high) h).0))

name_byte_above : (b : ℕ) → is_name_byte b ≡ true → nat_le 33 b ≡ true
name_byte_above b h =
    elim (or_cases (is_letter b || (nat_le 48 b && nat_le b 57)) (b == 45) h) [
      | inl p ↦ elim (or_cases (is_letter b) (nat_le 48 b && nat_le b 57) p) [
        | inl q ↦ above_range 65 90 b (omega arith) q
        | inr q ↦ above_range 48 57 b (omega arith) q
      ]
      | inr p ↦ le-leb 33 b (omega (arith, eqb-true b 45 p))
    ]

pub join : (a b : List ℕ) → IsVisible a → IsVisible b → IsVisible (a ++ b)
join a b h k = All-append (λ (x : ℕ). 32 < x) a b h k

pub one : (b : ℕ) → 32 < b → IsVisible (b ∷ [])
one b h = All-cons (λ (x : ℕ). 32 < x) b [] h (All-nil (λ (x : ℕ). 32 < x))

abbrev pub is_visible : ℕ → Bool
is_visible b = nat_le 33 b

-- a text that is known
pub known : (text : List ℕ) → list_all is_visible text ≡ true → IsVisible text
known text h = λ k d lt. omega (arith, leb-true 33 (slice_index_or text k d) (AllPass-from_list_all is_visible text h k d lt))

bytes_above : (text : List ℕ) → list_all is_name_byte text ≡ true → IsVisible text
bytes_above text h = λ k d lt. omega (arith, leb-true 33 (slice_index_or text k d) (name_byte_above (slice_index_or text k d) (AllPass-from_list_all is_name_byte text h k d lt)))

name_visible : (text : List ℕ) → is_name text ≡ true → IsVisible text
name_visible [] h = absurd cc
name_visible (c ∷ cs) h =
    let p = and_parts (is_letter c && nat_le (length cs) 15) (list_all is_name_byte cs) h in
    let q = and_parts (is_letter c) (nat_le (length cs) 15) p.0 in
    All-cons (λ (x : ℕ). 32 < x) c cs (omega (arith, leb-true 65 c (and_parts (nat_le 65 c) (nat_le c 90) q.0).0)) (bytes_above cs p.1)

pub decimal_visible : (n : ℕ) → n < 2 ^ 64 → IsVisible (decimal n)
decimal_visible n lt = decimal_by_steps (λ m ds. IsVisible ds) (λ m small. one (48 + m) (omega arith)) (λ m ds large h. join ds ((48 + m % 10) ∷ []) h (one (48 + m % 10) (omega arith))) n lt

pub two : (a b : ℕ) → 32 < a → 32 < b → IsVisible (a ∷ b ∷ [])
two a b ha hb = join (a ∷ []) (b ∷ []) (one a ha) (one b hb)

cents_visible : (n : ℕ) → n < SUM_LIMIT → IsVisible (cents_text n)
cents_visible n lt =
    join (decimal (n / 100) ++ codes ".") ((48 + n % 100 / 10) ∷ (48 + n % 10) ∷ [])
    (join (decimal (n / 100)) (codes ".") (decimal_visible (n / 100) (omega arith)) (one 46 (omega arith)))
    (two (48 + n % 100 / 10) (48 + n % 10) (omega arith) (omega arith))

integer_visible : (z : ℤ) → unsigned_abs z < 10 ^ 9 → IsVisible (integer_text z)
integer_visible (pos n) lt = decimal_visible n (omega arith)
integer_visible (negsuc n) lt = join (45 ∷ []) (decimal (suc n)) (one 45 (omega arith)) (decimal_visible (suc n) (omega arith))

pub visible_law : VisibleLaw
visible_law = record { names = name_visible; whole = decimal_visible; cents = cents_visible; integers = integer_visible }

-- ---- a line that is ended

-- the bytes of a line of visible fields are spaces and above
line_bytes : (first : List ℕ) (others : List (List ℕ)) → IsVisible first → AllByRecursion IsVisible others → All (λ (b : ℕ). 31 < b) (line_of (first ∷ others))
line_bytes first [] h hs = λ k d lt. omega (arith, h k d lt)
line_bytes first (second ∷ others) h hs =
    All-append (λ (b : ℕ). 31 < b) first (32 ∷ line_of (second ∷ others)) (λ k d lt. omega (arith, h k d lt))
    (All-cons (λ (b : ℕ). 31 < b) 32 (line_of (second ∷ others)) (omega arith) (line_bytes second others hs.0 hs.1))

no_feed : (line : List ℕ) → All (λ (b : ℕ). 31 < b) line → All (λ (b : ℕ). feed b ≡ false) line
no_feed line h = λ k d lt. ne_eqb (slice_index_or line k d) 10 (λ e. absurd (omega (arith, h k d lt)))

last_byte : (line : List ℕ) → All (λ (b : ℕ). 31 < b) line → (slice_index line (length line - 1) == 13) ≡ false
last_byte [] h = refl
last_byte (b ∷ line) h = ne_eqb (slice_index (b ∷ line) (length (b ∷ line) - 1)) 13 (λ e. absurd (omega (arith, h (length (b ∷ line) - 1) 0 (omega arith))))

no_return : (line : List ℕ) → All (λ (b : ℕ). 31 < b) line → strip_carriage_return line ≡ line
no_return line h = ap (λ (t : Bool). cond t (take (length line - 1) line) line) (last_byte line h)

ended : (line rest : List ℕ) → All (λ (b : ℕ). 31 < b) line → lines (line ++ codes "\n" ++ rest) ≡ line ∷ lines rest
ended line rest h =
    ap lines (append_assoc line (10 ∷ []) rest)
    ∙ ap lines_of_parts (slice_split_at feed line 10 rest (no_feed line h) refl)
    ∙ some_parts rest line
    ∙ ap (λ (l : List ℕ). l ∷ lines rest) (no_return line h)

pub ended_law : EndedLaw
ended_law first others rest h hs = ended (line_of (first ∷ others)) rest (line_bytes first others h hs)
