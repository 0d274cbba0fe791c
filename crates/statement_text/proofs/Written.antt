-- The bytes of a statement are its lines.
use Rattle.std.specs.Prelude.{◌&&◌, ◌||◌, ◌==◌, nat_le, codes, if◌then◌else◌, slice_index, All, flat_map, ℤ, pos, negsuc, unsigned_abs}
use Rattle.std.proofs.Common.{◌≡◌, ◌≢◌, ℕ, suc, ◌+◌, ◌-◌, ◌/◌, ◌%◌, ◌<◌, ◌≤◌, ◌^◌, Bool, true, false, List, [], ◌∷◌, ◌++◌, length, get_or, take, drop, map, refl, sym, ap, ◌∙◌, arith, append_assoc, decimal}
use Rattle.std.specs.List.{AllByRecursion, list_all}
use Rattle.std.specs.Str.Lines.{lines, strip_carriage_return}
use Rattle.std.proofs.Math.Seq.{drop-append_seam, take-append_seam, get_or-append_seam}
use Rattle.std.proofs.lemmas.Bool.{ne_eqb, leb-true, and_parts}
use Rattle.std.proofs.lemmas.Bool.Decides.{nat_tests}
use Rattle.std.proofs.lemmas.Fmt.{decimal_by_steps}
use Rattle.std.proofs.lemmas.List.{length-append, get_or_append_left}
use Rattle.std.proofs.lemmas.List.Elements.{All-append, All-nil, All-cons, All-weaker}
use Rattle.std.proofs.lemmas.List.Sums.{AllPass-from_list_all}
use Rattle.setoff_model.specs.declared.limits.TheConstants.{SUM_LIMIT}
use Rattle.setoff_model.specs.declared.kind.Kind.{Kind}
use Rattle.setoff_model.specs.declared.kind.Kind.TheVariants.{Plain, Funded}
use Rattle.setoff_model.specs.Names.{is_name, is_letter, is_name_byte}
use Rattle.setoff_model.specs.Texts.{cents_text, integer_text, kind_text}
use Rattle.text_lines.specs.Fields.{line_of}
use Rattle.text_lines.proofs.Cutting.{first_line}
use Rattle.statement_text.specs.declared.line.Line.{Line}
use Rattle.statement_text.specs.declared.line.Line.TheVariants as line
use Rattle.statement_text.specs.Lines.{line_fields, line_text, IsInRange}
use Rattle.statement_text.specs.Statements.{front_of, statement_lines, WrittenLaw}
use Rattle.statement_text.proofs.Lines.{statement_in_range}

-- no byte ends a line
abbrev IsPlain : List ℕ → Type 0
IsPlain text = All (λ b. 32 ≤ b) text

-- ---- a line that is plain is cut off whole

last_plain : (text : List ℕ) → IsPlain text → get_or text (length text - 1) 0 ≢ 13
last_plain [] h e = absurd cc
last_plain (b ∷ text) h e =
    let here = h (length (b ∷ text) - 1) 0 (omega arith) in
    absurd (omega (arith, here))

kept : (text : List ℕ) → IsPlain text → strip_carriage_return text ≡ text
kept text h =
    let no : (slice_index text (length text - 1) == 13) ≡ false = ne_eqb _ 13 (last_plain text h) in
    ap (λ (b : Bool). if b then take (length text - 1) text else text) no

one_line : (text rest : List ℕ) → IsPlain text → lines ((text ++ codes "\n") ++ rest) ≡ text ∷ lines rest
one_line text rest h =
    let whole : (text ++ codes "\n") ++ rest ≡ text ++ 10 ∷ rest = append_assoc text (codes "\n") rest in
    let long : length text < length (text ++ 10 ∷ rest) = omega (arith, length-append text (10 ∷ rest)) in
    let before : (k : ℕ) → k < length text → get_or (text ++ 10 ∷ rest) k 0 ≢ 10 = λ k lt e. absurd (omega (arith, h k 0 lt, get_or_append_left text (10 ∷ rest) 0 k lt)) in
    let after : drop (length text + 1) (text ++ 10 ∷ rest) ≡ rest =
    ap (λ (n : ℕ). drop n (text ++ 10 ∷ rest)) (sym (length-append text (codes "\n"))) ∙ ap (drop (length (text ++ codes "\n"))) (sym whole) ∙ drop-append_seam (text ++ codes "\n") rest in
    ap lines whole ∙ first_line (text ++ 10 ∷ rest) (length text) long before (get_or-append_seam text 10 rest 0)
    ∙ ap (λ (t : List ℕ). strip_carriage_return t ∷ lines (drop (length text + 1) (text ++ 10 ∷ rest))) (take-append_seam text (10 ∷ rest))
    ∙ ap (λ (t : List ℕ). t ∷ lines (drop (length text + 1) (text ++ 10 ∷ rest))) (kept text h)
    ∙ ap (λ (r : List ℕ). text ∷ lines r) after

all_lines : (texts : List (List ℕ)) → AllByRecursion IsPlain texts → lines (flat_map (λ t. t ++ codes "\n") texts) ≡ texts
all_lines [] h = refl
all_lines (t ∷ texts) h = one_line t (flat_map (λ x. x ++ codes "\n") texts) h.0 ∙ ap (λ (ts : List (List ℕ)). t ∷ ts) (all_lines texts h.1)

-- ---- the texts of lines are plain

known_plain : (text : List ℕ) → list_all (nat_le 32) text ≡ true → IsPlain text
known_plain text h = All-weaker (λ b. nat_le 32 b ≡ true) (λ b. 32 ≤ b) (λ b e. leb-true 32 b e) text (AllPass-from_list_all (nat_le 32) text h)

one_plain : (b : ℕ) → 32 ≤ b → IsPlain (b ∷ [])
one_plain b h = All-cons (λ x. 32 ≤ x) b [] h (All-nil _)

append_plain : (a b : List ℕ) → IsPlain a → IsPlain b → IsPlain (a ++ b)
append_plain a b h k = All-append (λ x. 32 ≤ x) a b h k

name_byte_plain : (b : ℕ) → is_name_byte b ≡ true → 32 ≤ b
name_byte_plain b h = grind (arith, nat_tests)

letter_is_name_byte : (c : ℕ) → is_letter c ≡ true → is_name_byte c ≡ true
letter_is_name_byte c h = ap (λ (b : Bool). b || (nat_le 48 c && nat_le c 57) || c == 45) h

name_plain : (text : List ℕ) → is_name text ≡ true → IsPlain text
name_plain [] h = absurd cc
name_plain (c ∷ cs) h =
    let p : ((is_letter c && nat_le (length cs) 15) ≡ true) × (list_all is_name_byte cs ≡ true) = and_parts _ _ h in
    let q : (is_letter c ≡ true) × (nat_le (length cs) 15 ≡ true) = and_parts _ _ p.0 in
    All-cons (λ x. 32 ≤ x) c cs (name_byte_plain c (letter_is_name_byte c q.0))
    (All-weaker (λ b. is_name_byte b ≡ true) (λ b. 32 ≤ b) name_byte_plain cs (AllPass-from_list_all is_name_byte cs p.1))

decimal_plain : (n : ℕ) → n < 2 ^ 64 → IsPlain (decimal n)
decimal_plain n lt = decimal_by_steps (λ m ds. IsPlain ds) (λ m small. one_plain (48 + m) (omega arith)) (λ m ds large h. append_plain ds ((48 + m % 10) ∷ []) h (one_plain (48 + m % 10) (omega arith))) n lt

cents_plain : (n : ℕ) → n < SUM_LIMIT → IsPlain (cents_text n)
cents_plain n lt =
    append_plain (decimal (n / 100) ++ codes ".") ((48 + n % 100 / 10) ∷ (48 + n % 10) ∷ [])
    (append_plain (decimal (n / 100)) (codes ".") (decimal_plain (n / 100) (omega arith)) (known_plain (codes ".") refl))
    (All-cons (λ x. 32 ≤ x) (48 + n % 100 / 10) ((48 + n % 10) ∷ []) (omega arith) (one_plain (48 + n % 10) (omega arith)))

price_plain : (price : ℤ) → unsigned_abs price < 10 ^ 9 → IsPlain (integer_text price)
price_plain (pos n) h = decimal_plain n (omega arith)
price_plain (negsuc n) h = append_plain (codes "-") (decimal (suc n)) (known_plain (codes "-") refl) (decimal_plain (suc n) (omega arith))

kind_plain : (kind : Kind) → IsPlain (kind_text kind)
kind_plain Plain = known_plain (codes "PLAIN") refl
kind_plain Funded = known_plain (codes "FUNDED") refl

joined_plain : (fields : List (List ℕ)) → AllByRecursion IsPlain fields → IsPlain (line_of fields)
joined_plain [] h = All-nil _
joined_plain (f ∷ []) h = h.0
joined_plain (f ∷ g ∷ fields) h = append_plain f (32 ∷ line_of (g ∷ fields)) h.0 (All-cons (λ x. 32 ≤ x) 32 (line_of (g ∷ fields)) (omega arith) (joined_plain (g ∷ fields) h.1))

fields_plain : (l : Line) → IsInRange l → AllByRecursion IsPlain (line_fields l)
fields_plain (line.Head round kind) h = (known_plain (codes "ROUND") refl, (decimal_plain round (omega (arith, h.1)), (kind_plain kind, tt)))
fields_plain (line.Party f price) h = (known_plain (codes "PARTY") refl, (name_plain f.firm h.0, (cents_plain f.spend (omega (arith, h.1)), (cents_plain f.room (omega (arith, h.2)), (price_plain price h.3, tt)))))
fields_plain (line.Claim key debtor amount d) h =
    (known_plain (codes "CLAIM") refl, (name_plain key.creditor h.0, (name_plain key.invoice h.1, (name_plain debtor h.2, (cents_plain amount (omega (arith, h.4)), (cents_plain d h.5, tt))))))
fields_plain line.End h = (known_plain (codes "END") refl, tt)

texts_plain : (ls : List Line) → AllByRecursion IsInRange ls → AllByRecursion IsPlain (map line_text ls)
texts_plain [] h = tt
texts_plain (l ∷ ls) h = (joined_plain (line_fields l) (fields_plain l h.0), texts_plain ls h.1)

pub written_law : WrittenLaw
written_law cut outcome s = record {
  stated = s;
  spelled = all_lines (statement_lines cut outcome) (texts_plain (front_of cut outcome ++ line.End ∷ []) (statement_in_range cut outcome s));
}
