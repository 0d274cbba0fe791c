-- CSV texts grow by rows.
use Rattle.std.proofs.Common.{◌≡◌, ℕ, ◌+◌, ◌<◌, Bool, true, false, List, [], ◌∷◌, ◌++◌, length, map, take, get_or, refl, sym, ap, ◌∙◌}
use Rattle.std.specs.Prelude.{filter, Result, Ok, Err, IfOk, Vec}
use Rattle.std.specs.declared.alloc.Global.{Global}
use Rattle.std.specs.declared.alloc.AllocError.{AllocError}
use Rattle.csv.specs.declared.writer.Writer.{Writer}
use Rattle.std.proofs.lemmas.List.{append-nil, map-append, take_more}
use Rattle.std.proofs.lemmas.List.Elements.{filter-append}
use Rattle.std.proofs.lemmas.List.Concat.{flat_map-cons}
use Rattle.std.proofs.lemmas.Grind.{flat_map-append}
use Rattle.csv.specs.Writing.{row_text, default_writer}
use Rattle.firm_notices.specs.Tables.{csv_text, HoldsText}

abbrev row : List (List ℕ) → List ℕ
row fields = row_text default_writer fields

-- the text of one row
pub one_row : (fields : List (List ℕ)) → [] ++ row_text default_writer fields ≡ csv_text (fields ∷ [])
one_row fields = sym (flat_map-cons row fields [] ∙ append-nil (row fields))

-- the text of one more row
pub one_more : (rows : List (List (List ℕ))) (fields : List (List ℕ)) → csv_text (rows ++ fields ∷ []) ≡ csv_text rows ++ row_text default_writer fields
one_more rows fields = flat_map-append row rows (fields ∷ []) ∙ ap (λ (t : List ℕ). csv_text rows ++ t) (sym (one_row fields))

-- the rows of the first elements and one more
pub mapped_more : {X : Type 0} (f : X → List (List ℕ)) (names : List (List ℕ)) (xs : List X) (i : ℕ) (x : X) → i < length xs → x ≡ get_or xs i x
    → csv_text (names ∷ map f (take (i + 1) xs)) ≡ csv_text (names ∷ map f (take i xs)) ++ row_text default_writer (f x)
mapped_more f names xs i x lt is =
    let taken : take (i + 1) xs ≡ take i xs ++ x ∷ [] = take_more xs i x lt ∙ ap (λ y. take i xs ++ y ∷ []) (sym is) in
    ap (λ ys. csv_text (names ∷ map f ys)) taken ∙ ap (λ ys. csv_text (names ∷ ys)) (map-append f (take i xs) (x ∷ [])) ∙ one_more (names ∷ map f (take i xs)) (f x)

-- the same of those that pass a test, where this one does
pub kept_more : {X : Type 0} (p : X → Bool) (f : X → List (List ℕ)) (names : List (List ℕ)) (xs : List X) (i : ℕ) (x : X) → i < length xs → x ≡ get_or xs i x → p x ≡ true
    → csv_text (names ∷ map f (filter p (take (i + 1) xs))) ≡ csv_text (names ∷ map f (filter p (take i xs))) ++ row_text default_writer (f x)
kept_more p f names xs i x lt is passes =
    let taken : take (i + 1) xs ≡ take i xs ++ x ∷ [] = take_more xs i x lt ∙ ap (λ y. take i xs ++ y ∷ []) (sym is) in
    let kept : filter p (x ∷ []) ≡ x ∷ [] = rw passes refl in
    ap (λ ys. csv_text (names ∷ map f (filter p ys))) taken ∙ ap (λ ys. csv_text (names ∷ map f ys)) (filter-append p (take i xs) (x ∷ []) ∙ ap (λ ys. filter p (take i xs) ++ ys) kept)
    ∙ ap (λ ys. csv_text (names ∷ ys)) (map-append f (filter p (take i xs)) (x ∷ [])) ∙ one_more (names ∷ map f (filter p (take i xs))) (f x)

-- and where it does not
pub left_out : {X : Type 0} (p : X → Bool) (f : X → List (List ℕ)) (names : List (List ℕ)) (xs : List X) (i : ℕ) (x : X) → i < length xs → x ≡ get_or xs i x → p x ≡ false
    → csv_text (names ∷ map f (filter p (take (i + 1) xs))) ≡ csv_text (names ∷ map f (filter p (take i xs)))
left_out p f names xs i x lt is fails =
    let taken : take (i + 1) xs ≡ take i xs ++ x ∷ [] = take_more xs i x lt ∙ ap (λ y. take i xs ++ y ∷ []) (sym is) in
    let none : filter p (x ∷ []) ≡ [] = rw fails refl in
    ap (λ ys. csv_text (names ∷ map f (filter p ys))) taken
    ∙ ap (λ ys. csv_text (names ∷ map f ys)) (filter-append p (take i xs) (x ∷ []) ∙ ap (λ ys. filter p (take i xs) ++ ys) none ∙ append-nil (filter p (take i xs)))

-- the bytes of a text that is held are that text
pub whole : (result : Result (Vec ℕ Global) AllocError) (table : Writer (Vec ℕ Global)) (text : List ℕ) → IfOk result (λ bytes. (held : List ℕ) → HoldsText table held → bytes.items ≡ held)
    → HoldsText table text → IfOk result (λ bytes. bytes.items ≡ text)
whole (Ok bytes) table text h holds = h text holds
whole (Err e) table text h holds = tt
