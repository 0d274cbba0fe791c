-- Rows that are put into a table, and its index.
use Rattle.std.specs.Prelude.{map, position, slice_set, ◌≢◌, AllPairs, Option, Some, None, if◌then◌else◌}
use Rattle.std.specs.List.{list_any}
use Rattle.std.proofs.Common.{◌≡◌, ℕ, ◌+◌, ◌<◌, ◌≤◌, Bool, false, List, [], ◌∷◌, ◌++◌, length, get_or, sym, ◌∙◌, ap, subst, true≢false, arith}
use Rattle.std.proofs.lemmas.Bool.{lt-ltb, le-ltb}
use Rattle.std.proofs.lemmas.List.{length-set, length-append}
use Rattle.std.proofs.Math.ListN.{set}
use Rattle.std.proofs.Math.Seq.{map-set_same}
use Rattle.std.proofs.lemmas.List.Quantifiers.{position-Some, all_pairs_push}
use Rattle.std.proofs.lemmas.List.Folds.{list_any_at}
use Rattle.setoff_model.specs.declared.limits.TheConstants.{MOST_FIRMS}
use Rattle.setoff_model.specs.Same.{same_name}
use Rattle.setoff_model.proofs.SameNames.{name_same}
use Rattle.name_index.proofs.Rows.{row_place, longer}
use Rattle.claim_history.proofs.Rows.{name_is}
use Rattle.read_copies.specs.declared.row.Row.{Row}
use Rattle.read_copies.specs.Rows.{firm_of, put_at, put_row}
use Rattle.read_copies.specs.Tables.{IsTable}

-- where the firm has a row
pub place_of : (names : List (List ℕ)) (rows : List Row) (firm : List ℕ) (r : Option ℕ) → names ≡ map firm_of rows → r ≡ position (same_name firm) names → position (λ x. same_name firm (firm_of x)) rows ≡ r
place_of names rows firm r names_are at = row_place firm_of names rows names_are (same_name firm) r at

-- a row put in another's place
pub put_found : (rows : List Row) (r : Row) (place : ℕ) → position (λ x. same_name (firm_of r) (firm_of x)) rows ≡ Some place → slice_set rows place r ≡ put_row rows r
put_found rows r place at = ap (put_at rows r) (sym at)

-- a row put at the end
pub put_last : (rows : List Row) (r : Row) → position (λ x. same_name (firm_of r) (firm_of x)) rows ≡ None → length rows < MOST_FIRMS → rows ++ r ∷ [] ≡ put_row rows r
put_last rows r at room = ap (λ (b : Bool). if b then rows ++ r ∷ [] else rows) (sym (lt-ltb (length rows) MOST_FIRMS room)) ∙ ap (put_at rows r) (sym at)

-- no room for a row
pub put_none : (rows : List Row) (r : Row) → position (λ x. same_name (firm_of r) (firm_of x)) rows ≡ None → MOST_FIRMS ≤ length rows → rows ≡ put_row rows r
put_none rows r at full = ap (λ (b : Bool). if b then rows ++ r ∷ [] else rows) (sym (le-ltb (length rows) MOST_FIRMS full)) ∙ ap (put_at rows r) (sym at)

-- ---- the index stays

pub set_keeps : (names : List (List ℕ)) (room capacity : ℕ) (rows : List Row) (r : Row) (place : ℕ) → IsTable names room capacity rows
    → position (λ x. same_name (firm_of r) (firm_of x)) rows ≡ Some place → IsTable names room capacity (slice_set rows place r)
set_keeps names room capacity rows r place h at =
    let found = position-Some (λ x. same_name (firm_of r) (firm_of x)) rows place r at in
    let same : map firm_of (set rows place r) ≡ map firm_of rows = map-set_same firm_of rows place r r (name_is (firm_of r) (firm_of (get_or rows place r)) found.1) in
    record {
      names_are = h.names_are ∙ sym same;
      once = h.once;
      room_is = omega (arith, h.room_is, length-set rows place r);
      capacity_is = h.capacity_is;
    }

pub new_name : (names : List (List ℕ)) (name : List ℕ) → list_any (same_name name) names ≡ false → (k : ℕ) (d : List ℕ) → k < length names → get_or names k d ≢ name
new_name names name none k d lt e =
    true≢false (sym (list_any_at (same_name name) names k d lt (ap (same_name name) e ∙ name_same name)) ∙ none)

pub push_keeps : (names after : List (List ℕ)) (room left capacity more : ℕ) (rows : List Row) (r : Row) → IsTable names room capacity rows
    → list_any (same_name (firm_of r)) names ≡ false → after ≡ names ++ firm_of r ∷ [] → room ≤ left + 1 → capacity ≤ more → IsTable after left more (rows ++ r ∷ [])
push_keeps names after room left capacity more rows r h none is le wide = record {
  names_are = is ∙ longer firm_of names rows h.names_are r;
  once = subst (AllPairs (λ (f g : List ℕ). f ≢ g)) (sym is) (all_pairs_push (λ (f g : List ℕ). f ≢ g) names (firm_of r) h.once (new_name names (firm_of r) none));
  room_is = omega (arith, h.room_is, le, length-append rows (r ∷ []));
  capacity_is = omega (arith, h.capacity_is, wide);
}
