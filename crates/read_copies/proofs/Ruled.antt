-- Each step keeps the rule of the table that readers and the writer share.
use Rattle.std.specs.Prelude.{Option, Some, None}
use Rattle.std.proofs.Common.{◌≡◌, ◌≢◌, ℕ, List, [], ◌∷◌, ◌++◌, set, refl, sym, subst, ⊎_elim}
use mathlib.Core.Option.{some}
use lib.ListN.{get_elem?}
use Rattle.atomic_table.proofs.Lists.{at_set, at_snoc}
use Rattle.crossbeam_utils.specs.Register.{Admits, TurnsAt, Forks, Merges}
use Rattle.logbook.specs.Pages.{Book}
use Rattle.read_copies.specs.Shown.{ToldView}
use Rattle.read_copies.specs.Tables.{TableView, IsShown, AgreesOn, IsKept, HasRead, HasShown, told_of}

-- one more seat that knows what is so
kept_more : (t : TableView) (views : List (Option ToldView)) (v : Option ToldView) → IsKept t views → AgreesOn t.board v → IsKept t (views ++ v ∷ [])
kept_more t views v h agrees = record {
  shown = h.shown;
  board = λ j w e. ⊎_elim (h.board j w) (λ (same : v ≡ w). subst (AgreesOn t.board) same agrees) (at_snoc views v w j e);
}

-- a seat that comes to know what is so
kept_set : (t : TableView) (views : List (Option ToldView)) (seat : ℕ) (v : Option ToldView) → IsKept t views → AgreesOn t.board v → IsKept t (set views seat v)
kept_set t views seat v h agrees = record {
  shown = h.shown;
  board = λ j w e. ⊎_elim (λ (s : (j ≡ seat) × (v ≡ w)). subst (AgreesOn t.board) s.1 agrees) (λ (s : (j ≢ seat) × (get_elem? views j ≡ some w)). h.board j w s.1) (at_set views seat j v w e);
}

pub admits : Admits IsKept None
admits t views h = kept_more t views None h tt

pub reads : (seat : ℕ) (v : Option ToldView) (t : TableView) → TurnsAt IsKept seat v t t HasRead
reads seat v t views h at = let agrees = h.board seat v at in (v, kept_set t views seat v h agrees, (refl, h.shown, agrees))

pub shows : (seat : ℕ) (v : Option ToldView) (t u : TableView) → u.board ≡ t.board → IsShown u → TurnsAt IsKept seat v t u HasShown
shows seat v t u board shown views h at =
    let same : IsKept u views = record { shown = shown; board = λ j w e. subst (λ (b : Book). AgreesOn b w) (sym board) (h.board j w e) } in
    (Some (told_of u), kept_set u views seat (Some (told_of u)) same refl, refl)

pub tells : (seat : ℕ) (v : Option ToldView) → Forks IsKept seat v v v
tells seat v t views h at = let agrees = h.board seat v at in kept_more t (set views seat v) v (kept_set t views seat v h agrees) agrees

pub learns : (seat : ℕ) (v : Option ToldView) (other : ℕ) (w : Option ToldView) → Merges IsKept seat v other w w None
learns seat v other w t views h at apart there =
    let agrees = ⊎_elim (λ (s : (other ≡ seat) × (w ≡ w)). absurd (apart s.0)) (λ (s : (other ≢ seat) × (get_elem? views other ≡ some w)). h.board other w s.1) (at_set views seat other w w there) in
    kept_set t (set views seat w) other None (kept_set t views seat w h agrees) tt
