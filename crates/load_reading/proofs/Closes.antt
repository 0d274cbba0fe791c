-- Fields with the verb CLOSE.
use Rattle.std.specs.Prelude.{◌↔◌, ◌-◌, drop, take, codes}
use Rattle.std.specs.Str.Lines.{lines}
use Rattle.std.proofs.Common.{◌≡◌, ◌∙◌, ℕ, ◌+◌, ◌≤◌, Bool, true, false, true≢false, IsTrue, List, [], ◌∷◌, ◌++◌, All, Bor, get_or, length, map, refl, sym, ap, subst, append_assoc, arith, length-append}
use Rattle.std.proofs.lemmas.List.{append-nil, take_all}
use Rattle.std.proofs.lemmas.List.Elements.{All-nil, All-push}
use Rattle.text_lines.specs.Fields.{fields}
use Rattle.request_text.specs.Pools.{pool_field}
use Rattle.load_reading.specs.Reading.{BeginsWithClose, ClosesIn, ClosesOther, IsFirstNaming, NamesClose, NamesNone}

-- a field, and where there is none, one that is empty
abbrev no_field : Bor (List ℕ)
no_field = record { ref_ptr = (0, 0); now = [] }

abbrev pub field_at : List (Bor (List ℕ)) → ℕ → List ℕ
field_at xs i = (get_or xs i no_field).now

abbrev pub texts : List (Bor (List ℕ)) → List (List ℕ)
texts xs = map (λ (f : Bor (List ℕ)). f.now) xs

pub begins_so : (xs : List (Bor (List ℕ))) (r : Bool) → 1 ≤ length xs → (IsTrue r ↔ (field_at xs 0 ≡ codes "CLOSE")) → IsTrue r ↔ BeginsWithClose (texts xs)
begins_so [] r some h = absurd (omega (arith, some))
begins_so (x ∷ xs) r some h = (
  (λ is. (texts xs, ap (λ (v : List ℕ). v ∷ texts xs) (h.0 is))),
  (λ b. h.1 (ap (λ (l : List (List ℕ)). get_or l 0 []) b.1)),
)

-- the fields behind the first
abbrev others_of : List (Bor (List ℕ)) → List (Bor (List ℕ))
others_of xs = take (length xs - 1) (drop 1 xs)

others_are : (x : Bor (List ℕ)) (xs : List (Bor (List ℕ))) → others_of (x ∷ xs) ≡ xs
others_are x xs = take_all (length (x ∷ xs) - 1) xs (omega arith)

pub other_so : (xs : List (Bor (List ℕ))) (r : Bool) → 1 ≤ length xs → (name : List ℕ) × (field_at xs 0 ≡ pool_field name) → (IsTrue r ↔ BeginsWithClose (texts (others_of xs))) → IsTrue r ↔ ClosesOther (texts xs)
other_so [] r some sign h = absurd (omega (arith, some))
other_so (x ∷ xs) r some sign h = (
  (λ is. (sign.0, (texts xs, (ap (λ (v : List ℕ). v ∷ texts xs) sign.1, subst (λ (ys : List (Bor (List ℕ))). BeginsWithClose (texts ys)) (others_are x xs) (h.0 is))))),
  (λ b. h.1 (subst (λ (ys : List (Bor (List ℕ))). BeginsWithClose (texts ys)) (sym (others_are x xs)) (subst BeginsWithClose (sym (ap (drop 1) b.1.1.0)) b.1.1.1))),
)

pub none_other : (xs : List (Bor (List ℕ))) → 1 ≤ length xs → ((name : List ℕ) × (field_at xs 0 ≡ pool_field name) → ⊥) → ClosesOther (texts xs) → ⊥
none_other [] some none b = omega (arith, some)
none_other (x ∷ xs) some none b = none (b.0, ap (λ (l : List (List ℕ)). get_or l 0 []) b.1.1.0)

pub names_so : (xs : List (Bor (List ℕ))) (r : Bool) → 1 ≤ length xs → (IsTrue r ↔ ClosesIn (texts (others_of xs))) → IsTrue r ↔ NamesClose (texts xs)
names_so [] r some h = absurd (omega (arith, some))
names_so (x ∷ xs) r some h = (
  (λ is. (x.now, (texts xs, (refl, subst (λ (ys : List (Bor (List ℕ))). ClosesIn (texts ys)) (others_are x xs) (h.0 is))))),
  (λ n. h.1 (subst (λ (ys : List (Bor (List ℕ))). ClosesIn (texts ys)) (sym (others_are x xs)) (subst ClosesIn (sym (ap (drop 1) n.1.1.0)) n.1.1.1))),
)

-- ---- lines in turn

-- the lines up to a rest
pub record PassesNone (input rest : List ℕ) (number : ℕ) : Type 0 where
  pub before : List (List ℕ)
  pub cut : lines input ≡ before ++ lines rest
  pub number_is : number ≡ length before + 1
  pub none : All NamesNone before

pub passes_first : (input : List ℕ) → PassesNone input input 1
passes_first input = record { before = []; cut = refl; number_is = refl; none = All-nil NamesNone }

pub passes_next : (input rest line after : List ℕ) (number : ℕ) → PassesNone input rest number → lines rest ≡ line ∷ lines after → NamesNone line → PassesNone input after (number + 1)
passes_next input rest line after number p cut none = record {
  before = p.before ++ line ∷ [];
  cut = p.cut ∙ ap (λ (ls : List (List ℕ)). p.before ++ ls) cut ∙ sym (append_assoc p.before (line ∷ []) (lines after));
  number_is = omega (arith, p.number_is, length-append p.before (line ∷ []));
  none = All-push NamesNone p.before line p.none none;
}

pub names_first : (input rest line after : List ℕ) (number : ℕ) → PassesNone input rest number → lines rest ≡ line ∷ lines after → NamesClose (fields line) → IsFirstNaming input number
names_first input rest line after number p cut names = record {
  before = p.before;
  line = line;
  after = lines after;
  cut = p.cut ∙ ap (λ (ls : List (List ℕ)). p.before ++ ls) cut;
  number_is = p.number_is;
  none = p.none;
  names = names;
}

pub names_none : (input rest : List ℕ) (number : ℕ) → PassesNone input rest number → lines rest ≡ [] → All NamesNone (lines input)
names_none input rest number p end = subst (All NamesNone) (sym (p.cut ∙ ap (λ (ls : List (List ℕ)). p.before ++ ls) end ∙ append-nil p.before)) p.none

-- what is told of the fields of a line
pub named_so : (r : Bool) (xs ys : List (Bor (List ℕ))) (line : List ℕ) → xs ≡ ys → texts ys ≡ fields line → r ≡ true → (IsTrue r ↔ NamesClose (texts xs)) → NamesClose (fields line)
named_so r xs ys line same are is told = subst NamesClose (ap texts same ∙ are) (told.0 is)

pub none_named : (r : Bool) (xs ys : List (Bor (List ℕ))) (line : List ℕ) → xs ≡ ys → texts ys ≡ fields line → r ≡ false → (IsTrue r ↔ NamesClose (texts xs)) → NamesNone line
none_named r xs ys line same are is told names = true≢false (sym (told.1 (subst NamesClose (sym (ap texts same ∙ are)) names)) ∙ is)
