-- A table into which the changes were put stands for the history.
use Rattle.std.specs.Prelude.{map, reverse, find, position, ◌≢◌, All, AllPairs, Option, Some, None, is_some, if◌then◌else◌}
use Rattle.std.specs.List.{list_any, position_or_len}
use mathlib.Core.List.{IsPrefix}
use Rattle.std.specs.Option.{option_or}
use Rattle.std.proofs.Common.{◌≡◌, ℕ, zero, suc, ◌<◌, ◌≤◌, Bool, true, false, ◌||◌, cond, nat_lt, List, [], ◌∷◌, ◌++◌, length, get_or, refl, sym, ◌∙◌, ap, subst, inl, inr, ⊎_elim, true≢false, arith}
use Rattle.std.proofs.lemmas.Bool.{cond-true, cond-false, lt-ltb}
use Rattle.std.proofs.lemmas.Option.{none-some, cond_some}
use Rattle.std.proofs.lemmas.List.{length-append, length-map, reverse-append}
use Rattle.std.proofs.lemmas.List.Sums.{fails_before_first}
use Rattle.std.proofs.lemmas.List.Folds.{list_any-append, find-append}
use Rattle.std.proofs.lemmas.List.Elements.{All-nil, All-head, All-tail}
use Rattle.std.proofs.lemmas.List.Quantifiers.{position-Some, all_pairs_push}
use Rattle.std.proofs.lemmas.Map.Made.{IsDistinct-from_AllPairs, length-le_from_is_member}
use Rattle.std.proofs.Math.ListN.{set}
use Rattle.std.proofs.Math.Seq.{map-set_same}
use Rattle.setoff_model.specs.declared.limits.TheConstants.{MOST_FIRMS}
use Rattle.setoff_model.specs.Same.{same_name}
use Rattle.setoff_model.proofs.SameNames.{name_same, same_name_is}
use Rattle.setoff_model.proofs.Lists.{position_none, list_any-map}
use Rattle.name_index.proofs.Places.{find_none}
use Rattle.name_index.proofs.Rows.{longer}
use Rattle.claim_history.specs.Facts.{Ledger, firms, is_registered}
use Rattle.claim_history.proofs.Rows.{name_is}
use Rattle.read_copies.specs.declared.row.Row.{Row}
use Rattle.read_copies.specs.Rows.{firm_of, row_of, row_in, row_at, put_at, put_row, put_all, HasRows, IsRowIn, IsSettled, AreAllSettled}
use Rattle.claim_history.specs.declared.entry.Entry.{Entry}
use Rattle.claim_history.specs.States.{state}
use Rattle.claim_history.specs.History.{IsLegalPool, AreValidEntries}
use Rattle.claim_history.specs.Acts.{is_valid}
use Rattle.claim_history.proofs.Pasts.{all_reverse}
use Rattle.claim_history.proofs.Bounds.{names_equivalent}
use Rattle.claim_history.proofs.Growth.{still_registered}
use Rattle.claim_history.proofs.Registered.{orderly}
use Rattle.claim_book.specs.Book.{ledger_of}
use Rattle.read_copies.proofs.Rows.{new_name}

-- ---- what is found after a row is set

found_set : {X : Type 0} (p : X → Bool) (r : X) (xs : List X) (i : ℕ) (d : X) → p r ≡ true → i < length xs → ((k : ℕ) → k < i → p (get_or xs k d) ≡ false) → find p (set xs i r) ≡ Some r
found_set p r [] i d is lt before = absurd (omega (arith, lt))
found_set p r (x ∷ xs) zero d is lt before = cond-true (p r) (Some r) (find p xs) is
found_set p r (x ∷ xs) (suc i) d is lt before =
    cond-false (p x) (Some x) (find p (set xs i r)) (before 0 (omega arith)) ∙ found_set p r xs i d is (omega (arith, lt)) (λ k less. before (suc k) (omega (arith, less)))

found_else : {X : Type 0} (p : X → Bool) (r : X) (xs : List X) (i : ℕ) (d : X) → p r ≡ false → i < length xs → p (get_or xs i d) ≡ false → find p (set xs i r) ≡ find p xs
found_else p r [] i d off lt here = absurd (omega (arith, lt))
found_else p r (x ∷ xs) zero d off lt here = cond-false (p r) (Some r) (find p xs) off ∙ sym (cond-false (p x) (Some x) (find p xs) here)
found_else p r (x ∷ xs) (suc i) d off lt here = ap (λ rest. cond (p x) (Some x) rest) (found_else p r xs i d off (omega (arith, lt)) here)

-- ---- one row

abbrev is_of : List ℕ → Row → Bool
is_of firm r = same_name firm (firm_of r)

-- where a row stands that is put, and what stands for other firms
record IsPut (rows after : List Row) (r : Row) : Type 0 where
  here : row_at after (firm_of r) ≡ Some r
  others : (firm : List ℕ) → same_name firm (firm_of r) ≡ false → row_at after firm ≡ row_at rows firm

first_place : (rows : List Row) (firm : List ℕ) (place : ℕ) → position (is_of firm) rows ≡ Some place → position_or_len (is_of firm) rows ≡ place
first_place rows firm place at = (cond_some (nat_lt (position_or_len (is_of firm) rows) (length rows)) (position_or_len (is_of firm) rows) place at).1

is_set : (rows : List Row) (r : Row) (place : ℕ) → position (is_of (firm_of r)) rows ≡ Some place → IsPut rows (set rows place r) r
is_set rows r place at =
    let found = position-Some (is_of (firm_of r)) rows place r at in
    let first = first_place rows (firm_of r) place at in
    let firm : firm_of r ≡ firm_of (get_or rows place r) = name_is (firm_of r) (firm_of (get_or rows place r)) found.1 in
    record {
      here = found_set (is_of (firm_of r)) r rows place r (name_same (firm_of r)) found.0 (λ k less. fails_before_first (is_of (firm_of r)) rows k r (omega (arith, first, less)));
      others = λ other off. found_else (is_of other) r rows place r off found.0 (ap (same_name other) (sym firm) ∙ off);
    }

is_pushed : (rows : List Row) (r : Row) → position (is_of (firm_of r)) rows ≡ None → IsPut rows (rows ++ r ∷ []) r
is_pushed rows r none = record {
  here =
      find-append (is_of (firm_of r)) rows (r ∷ []) ∙ ap (λ o. option_or o (find (is_of (firm_of r)) (r ∷ []))) (find_none (is_of (firm_of r)) rows (position_none (is_of (firm_of r)) rows none))
      ∙ cond-true (is_of (firm_of r) r) (Some r) None (name_same (firm_of r));
  others = λ other off. find-append (is_of other) rows (r ∷ []) ∙ ap (option_or (row_at rows other)) (cond-false (is_of other r) (Some r) None off) ∙ or_none (row_at rows other);
}
  where
    or_none : (o : Option Row) → option_or o None ≡ o
    or_none None = refl
    or_none (Some x) = refl

-- ---- there is room

-- the firms of a table are registered, each once
pub record Fits (l : Ledger) (rows : List Row) : Type 0 where
  pub once : AllPairs (λ (f g : List ℕ). f ≢ g) (map firm_of rows)
  pub known : (q : List ℕ) → list_any (same_name q) (map firm_of rows) ≡ true → is_registered l q ≡ true

known_more : (l : Ledger) (names : List (List ℕ)) (firm q : List ℕ) → ((n : List ℕ) → list_any (same_name n) names ≡ true → is_registered l n ≡ true) → is_registered l firm ≡ true
    → list_any (same_name q) (names ++ firm ∷ []) ≡ true → is_registered l q ≡ true
known_more l names firm q known new any = by (list_any (same_name q) names) (same_name q firm) refl refl
  where
    by : (a b : Bool) → list_any (same_name q) names ≡ a → same_name q firm ≡ b → is_registered l q ≡ true
    by true b old e = known q old
    by false true old e = subst (λ n. is_registered l n ≡ true) (sym (name_is q firm e)) new
    by false false old e = absurd (true≢false (sym any ∙ list_any-append (same_name q) names (firm ∷ []) ∙ rw (old, e) refl))

has_room : (l : Ledger) (rows : List Row) (firm : List ℕ) → length (firms l) ≤ MOST_FIRMS → Fits l rows → is_registered l firm ≡ true → list_any (same_name firm) (map firm_of rows) ≡ false → length rows < MOST_FIRMS
has_room l rows firm few fits known none =
    let names : List (List ℕ) = map firm_of rows ++ firm ∷ [] in
    let once = all_pairs_push (λ (f g : List ℕ). f ≢ g) (map firm_of rows) firm fits.once (new_name (map firm_of rows) firm none) in
    let le = length-le_from_is_member names_equivalent names (firms l) (IsDistinct-from_AllPairs same_name_is names once) (λ q there. known_more l (map firm_of rows) firm q fits.known known there) in
    omega (arith, le, few, length-append (map firm_of rows) (firm ∷ []), length-map rows firm_of)

put_fits : (l : Ledger) (rows : List Row) (r : Row) → length (firms l) ≤ MOST_FIRMS → Fits l rows → is_registered l (firm_of r) ≡ true → (o : Option ℕ) → position (is_of (firm_of r)) rows ≡ o
    → IsPut rows (put_at rows r o) r × Fits l (put_at rows r o)
put_fits l rows r few fits known (Some place) at =
    let found = position-Some (is_of (firm_of r)) rows place r at in
    let same : map firm_of (set rows place r) ≡ map firm_of rows = map-set_same firm_of rows place r r (name_is (firm_of r) (firm_of (get_or rows place r)) found.1) in (
      is_set rows r place at,
      record {
        once = subst (AllPairs (λ (f g : List ℕ). f ≢ g)) (sym same) fits.once;
        known = λ q any. fits.known q (ap (list_any (same_name q)) (sym same) ∙ any);
      },
    )
put_fits l rows r few fits known None at =
    let none : list_any (same_name (firm_of r)) (map firm_of rows) ≡ false = list_any-map (same_name (firm_of r)) firm_of rows ∙ position_none (is_of (firm_of r)) rows at in
    let room = has_room l rows (firm_of r) few fits known none in
    let more : map firm_of rows ++ firm_of r ∷ [] ≡ map firm_of (rows ++ r ∷ []) = longer firm_of (map firm_of rows) rows refl r in
    let put : rows ++ r ∷ [] ≡ put_at rows r None = ap (λ (b : Bool). if b then rows ++ r ∷ [] else rows) (sym (lt-ltb (length rows) MOST_FIRMS room)) in
    subst (λ after. IsPut rows after r × Fits l after) put (
      is_pushed rows r at,
      record {
        once = subst (AllPairs (λ (f g : List ℕ). f ≢ g)) more (all_pairs_push (λ (f g : List ℕ). f ≢ g) (map firm_of rows) (firm_of r) fits.once (new_name (map firm_of rows) (firm_of r) none));
        known = λ q any. known_more l (map firm_of rows) (firm_of r) q fits.known known (ap (list_any (same_name q)) more ∙ any);
      },
    )

-- ---- all rows

abbrev IsRight : Ledger → List ℕ → List Row → Type 0
IsRight l firm rows = row_at rows firm ≡ row_in l firm

row_known : (l : Ledger) (r : Row) → IsRowIn l r → is_registered l (firm_of r) ≡ true
row_known l r is = by (is_registered l (firm_of r)) refl is
  where
    by : (b : Bool) → is_registered l (firm_of r) ≡ b → row_in l (firm_of r) ≡ Some r → is_registered l (firm_of r) ≡ true
    by true e h = e
    by false e h = absurd (none-some r (ap (λ (b : Bool). if b then Some (row_of l (firm_of r)) else None) (sym e) ∙ h))

-- a firm that is settled has its row once all changes are put
pub put_right : (l : Ledger) (rows changes : List Row) (firm : List ℕ) → length (firms l) ≤ MOST_FIRMS → Fits l rows → All (IsRowIn l) changes → IsSettled l rows changes firm → IsRight l firm (put_all rows changes)
put_right l rows [] firm few fits each settled = ⊎_elim (λ e. absurd (true≢false (sym e))) (λ h. h) settled
put_right l rows (r ∷ rs) firm few fits each settled =
    let is = All-head (IsRowIn l) r rs each in
    let put = put_fits l rows r few fits (row_known l r is) (position (is_of (firm_of r)) rows) refl in
    put_right l (put_row rows r) rs firm few put.1 (All-tail (IsRowIn l) r rs each) (by (same_name firm (firm_of r)) refl settled)
  where
    by : (b : Bool) → same_name firm (firm_of r) ≡ b → IsSettled l rows (r ∷ rs) firm → IsSettled l (put_row rows r) rs firm
    by true e h =
        let is = All-head (IsRowIn l) r rs each in
        let put = put_fits l rows r few fits (row_known l r is) (position (is_of (firm_of r)) rows) refl in
        let same = name_is firm (firm_of r) e in
        inr (ap (row_at (put_row rows r)) same ∙ put.0.here ∙ sym is ∙ ap (row_in l) (sym same))
    by false e h =
        let is = All-head (IsRowIn l) r rs each in
        let put = put_fits l rows r few fits (row_known l r is) (position (is_of (firm_of r)) rows) refl in
        ⊎_elim (λ (any : list_any (is_of firm) (r ∷ rs) ≡ true). inl (sym (ap (λ b. b || list_any (is_of firm) rs) e) ∙ any))
        (λ (right : row_at rows firm ≡ row_in l firm). inr (put.0.others firm e ∙ right)) h

-- ---- the rows of a longer history

any_step : {X : Type 0} (b : Bool) (x : X) (rest : Option X) (any : Bool) → (any ≡ true → is_some rest ≡ true) → (b || any) ≡ true → is_some (cond b (Some x) rest) ≡ true
any_step true x rest any later e = refl
any_step false x rest any later e = later e

found_any : {X : Type 0} (p : X → Bool) (xs : List X) → list_any p xs ≡ true → is_some (find p xs) ≡ true
found_any p [] any = any
found_any p (x ∷ xs) any = any_step (p x) x (find p xs) (list_any p xs) (found_any p xs) any

some_known : (b : Bool) (r : Row) → is_some (if b then Some r else None) ≡ true → b ≡ true
some_known true r e = refl
some_known false r e = e

-- a table that stands for a history has the firms of each longer one
table_fits : (old l : Ledger) (rows : List Row) → AllPairs (λ (f g : List ℕ). f ≢ g) (map firm_of rows) → HasRows old rows → ((q : List ℕ) → is_registered old q ≡ true → is_registered l q ≡ true) → Fits l rows
table_fits old l rows once has more = record {
  once = once;
  known = λ q any.
      more q (some_known (is_registered old q) (row_of old q) (ap is_some (sym (has q)) ∙ found_any (is_of q) rows (sym (list_any-map (same_name q) firm_of rows) ∙ any)));
}

none_still : (old l : Ledger) (rows : List Row) (firm : List ℕ) → HasRows old rows → ((q : List ℕ) → is_registered old q ≡ true → is_registered l q ≡ true) → is_registered l firm ≡ false → row_at rows firm ≡ row_in l firm
none_still old l rows firm has more none = by (is_registered old firm) refl
  where
    by : (b : Bool) → is_registered old firm ≡ b → row_at rows firm ≡ row_in l firm
    by true e = absurd (true≢false (sym (more firm e) ∙ none))
    by false e = has firm ∙ ap (λ (b : Bool). if b then Some (row_of old firm) else None) e ∙ sym (ap (λ (b : Bool). if b then Some (row_of l firm) else None) none)

-- what a beginning of a history registers, all of it does
registered_more : (old all : List Entry) (firm : List ℕ) → IsPrefix old all → is_registered (ledger_of old) firm ≡ true → is_registered (ledger_of all) firm ≡ true
registered_more old all firm p h =
    let longer : reverse p.0 ++ reverse old ≡ reverse all = sym (reverse-append old p.0) ∙ ap reverse p.1 in
    subst (λ past. is_registered (state past).ledger firm ≡ true) longer (still_registered firm (reverse p.0) (reverse old) h)

-- with changes that settle each registered firm, the table has the rows of the longer history
pub all_right : (old all : List Entry) (rows changes : List Row) → IsPrefix old all → IsLegalPool all → AreValidEntries all → AllPairs (λ (f g : List ℕ). f ≢ g) (map firm_of rows) → HasRows (ledger_of old) rows
    → AreAllSettled (ledger_of all) rows [] changes → HasRows (ledger_of all) (put_all rows changes)
all_right old all rows changes pre legal valid once has settled firm =
    let l = ledger_of all in
    let more : (q : List ℕ) → is_registered (ledger_of old) q ≡ true → is_registered l q ≡ true = λ q h. registered_more old all q pre h in
    let few = (orderly (reverse all) legal (all_reverse (λ (e : Entry). is_valid e.act ≡ true) all valid)).0.few_firms in
    put_right l rows changes firm few (table_fits (ledger_of old) l rows once has more) (settled.added.each (All-nil (IsRowIn l))) (by (is_registered l firm) refl)
  where
    by : (b : Bool) → is_registered (ledger_of all) firm ≡ b → IsSettled (ledger_of all) rows changes firm
    by true e = settled.each firm refl e
    by false e = inr (none_still (ledger_of old) (ledger_of all) rows firm has (λ q h. registered_more old all q pre h) e)
