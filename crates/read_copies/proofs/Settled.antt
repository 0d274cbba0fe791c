-- How changes settle the rows of a history.
use Rattle.std.specs.Prelude.{map, reverse, All, Option, Some, None, if◌then◌else◌}
use Rattle.std.specs.List.{list_any}
use Rattle.std.proofs.Common.{◌≡◌, ℕ, ◌+◌, ◌<◌, Bool, true, false, ◌||◌, List, [], ◌∷◌, ◌++◌, length, take, get_or, refl, sym, ◌∙◌, ap, subst, inl, inr, ⊎_elim, true≢false}
use Rattle.std.proofs.lemmas.Option.{none-some}
use Rattle.std.proofs.lemmas.List.Folds.{list_any-append}
use Rattle.std.proofs.lemmas.List.Elements.{All-nil, All-cons, All-head, All-tail, All-append, All-weaker}
use Rattle.std.proofs.lemmas.List.{take_more}
use Rattle.std.proofs.lemmas.List.Sorted.{list_any-IsPermutation, IsPermutation-reverse}
use Rattle.name_index.proofs.Places.{or_left}
use Rattle.std.proofs.lemmas.Bool.{or_right, cases_Bool}
use Rattle.setoff_model.specs.Same.{same_name}
use Rattle.setoff_model.proofs.SameNames.{name_same}
use Rattle.claim_history.specs.declared.fact.AccountFact.{AccountFact}
use Rattle.claim_history.specs.Facts.{Ledger, firms, is_registered, account_fact, account_facts}
use Rattle.claim_history.proofs.Rows.{name_is}
use Rattle.read_copies.specs.declared.row.Row.{Row}
use Rattle.read_copies.specs.Rows.{firm_of, row_of, row_in, row_at, IsRowIn, IsSettled, HasAdded, AreSettled, AreAllSettled}

abbrev is_of : List ℕ → Row → Bool
is_of firm r = same_name firm (firm_of r)

-- ---- rows of a history

some_if : {X : Type 0} (b : Bool) (x y : X) → (if b then Some x else None) ≡ Some y → (b ≡ true) × (x ≡ y)
some_if true x y e = (refl, cc e)
some_if false x y e = absurd (none-some y e)

-- a row of a firm is of the firm
pub row_firm : (l : Ledger) (firm : List ℕ) (r : Row) → row_in l firm ≡ Some r → firm_of r ≡ firm
row_firm l firm r e = sym (ap firm_of (some_if (is_registered l firm) (row_of l firm) r e).1)

-- ---- one change

added_none : (l : Ledger) (rows changes : List Row) → HasAdded l rows changes changes
added_none l rows changes = record { each = λ h. h; kept = λ firm h. h }

any_more : (firm : List ℕ) (changes : List Row) (r : Row) → list_any (is_of firm) changes ≡ true → list_any (is_of firm) (changes ++ r ∷ []) ≡ true
any_more firm changes r e = list_any-append (is_of firm) changes (r ∷ []) ∙ or_left (list_any (is_of firm) changes) (list_any (is_of firm) (r ∷ [])) e

any_last : (firm : List ℕ) (changes : List Row) (r : Row) → firm_of r ≡ firm → list_any (is_of firm) (changes ++ r ∷ []) ≡ true
any_last firm changes r e =
    list_any-append (is_of firm) changes (r ∷ [])
    ∙ or_right (list_any (is_of firm) changes) (list_any (is_of firm) (r ∷ [])) (or_left (is_of firm r) false (ap (same_name firm) e ∙ name_same firm))

-- one firm is settled
settled_firm : (l : Ledger) (rows old new : List Row) (firm : List ℕ) → HasAdded l rows old new → (is_registered l firm ≡ true → IsSettled l rows new firm) → AreSettled l rows (λ f. same_name f firm) old new
settled_firm l rows old new firm added here = record {
  added = added;
  each = λ f same known. subst (λ n. is_registered l n ≡ true → IsSettled l rows new n) (sym (name_is f firm same)) here known;
}

-- a firm whose row in the table is right
pub settled_same : (l : Ledger) (rows changes : List Row) (firm : List ℕ) (old now : Option Row) → old ≡ row_at rows firm → now ≡ row_in l firm → old ≡ now → AreSettled l rows (λ f. same_name f firm) changes changes
settled_same l rows changes firm old now was is same = settled_firm l rows changes changes firm (added_none l rows changes) (λ known. inr (sym was ∙ (same ∙ is)))

-- a firm that is not registered
pub settled_none : (l : Ledger) (rows changes : List Row) (firm : List ℕ) (now : Option Row) → now ≡ row_in l firm → ((r : Row) → now ≡ Some r → ⊥) → AreSettled l rows (λ f. same_name f firm) changes changes
settled_none l rows changes firm now is none =
    settled_firm l rows changes changes firm (added_none l rows changes) (λ known. absurd (none (row_of l firm) (is ∙ ap (λ (b : Bool). if b then Some (row_of l firm) else None) known)))

-- a firm whose row is added
pub settled_more : (l : Ledger) (rows changes : List Row) (firm : List ℕ) (now : Option Row) (r : Row) → now ≡ row_in l firm → now ≡ Some r → AreSettled l rows (λ f. same_name f firm) changes (changes ++ r ∷ [])
settled_more l rows changes firm now r is some =
    let row : row_in l firm ≡ Some r = sym is ∙ some in
    let of : firm_of r ≡ firm = row_firm l firm r row in
    let added : HasAdded l rows changes (changes ++ r ∷ []) = record {
      each = λ h. All-append (IsRowIn l) changes (r ∷ []) h (All-cons (IsRowIn l) r [] (ap (row_in l) of ∙ row) (All-nil (IsRowIn l)));
      kept = λ other h. ⊎_elim (λ (a : list_any (is_of other) changes ≡ true). inl (any_more other changes r a)) (λ (b : row_at rows other ≡ row_in l other). inr b) h;
    } in
    settled_firm l rows changes (changes ++ r ∷ []) firm added (λ known. inl (any_last firm changes r of))

-- ---- the changes of some firms

-- each registered firm of these is settled
abbrev pub AreSettledOf : Ledger → List Row → List Row → List AccountFact → Type 0
AreSettledOf l rows changes accounts = All (λ (a : AccountFact). is_registered l a.firm ≡ true → IsSettled l rows changes a.firm) accounts

-- after changes for one more
pub settled_next : (l : Ledger) (rows first old new : List Row) (accounts : List AccountFact) (i : ℕ) (a : AccountFact) → i < length accounts → a ≡ get_or accounts i a
    → HasAdded l rows first old → AreSettledOf l rows old (take i accounts) → AreSettled l rows (λ f. same_name f a.firm) old new
    → HasAdded l rows first new × AreSettledOf l rows new (take (i + 1) accounts)
settled_next l rows first old new accounts i a lt is added done more =
    let P : List Row → AccountFact → Type 0 = λ changes b. is_registered l b.firm ≡ true → IsSettled l rows changes b.firm in (
      record { each = λ h. more.added.each (added.each h); kept = λ firm h. more.added.kept firm (added.kept firm h) },
      rw (take_more accounts i a lt) (
          All-append (P new) (take i accounts) (get_or accounts i a ∷ []) (All-weaker (P old) (P new) (λ b h known. more.added.kept b.firm (h known)) (take i accounts) done)
          (All-cons (P new) (get_or accounts i a) [] (subst (P new) is (λ known. more.each a.firm (name_same a.firm) known)) (All-nil (P new)))
          ),
    )

one_of : (P : List ℕ → Type 0) (l : Ledger) (names : List (List ℕ)) (firm : List ℕ) → All (λ (a : AccountFact). P a.firm) (map (account_fact l) names) → list_any (same_name firm) names ≡ true → P firm
one_of P l [] firm all any = absurd (true≢false (sym any))
one_of P l (n ∷ names) firm all any =
    ⊎_elim (λ same. subst P (sym (name_is firm n same)) (All-head (λ (a : AccountFact). P a.firm) (account_fact l n) (map (account_fact l) names) all))
    (λ other. one_of P l names firm (All-tail (λ (a : AccountFact). P a.firm) (account_fact l n) (map (account_fact l) names) all) (sym (ap (λ b. b || list_any (same_name firm) names) other) ∙ any))
    (cases_Bool (same_name firm n))

-- the accounts of a book are those of all registered firms
pub settled_all : (l : Ledger) (rows first changes : List Row) (accounts : List AccountFact) → accounts ≡ account_facts l → HasAdded l rows first changes → AreSettledOf l rows changes accounts → AreAllSettled l rows first changes
settled_all l rows first changes accounts are added done = record {
  added = added;
  each = λ firm passes known.
      one_of (λ f. is_registered l f ≡ true → IsSettled l rows changes f) l (reverse (firms l)) firm (subst (AreSettledOf l rows changes) are done)
      (sym (list_any-IsPermutation (λ n. same_name firm n) (firms l) (reverse (firms l)) (IsPermutation-reverse (firms l))) ∙ known) known;
}
