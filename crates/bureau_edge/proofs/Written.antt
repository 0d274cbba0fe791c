-- A piece that is written a part at a time.
use Rattle.std.proofs.Common.{◌≡◌, ℕ, List, [], ◌++◌, take, drop, refl, sym, ap, ◌∙◌, append_assoc}
use Rattle.std.specs.Prelude.{Option, Some, None}
use Rattle.std.specs.Io.KnownBytes.{Appends}
use Rattle.std.proofs.lemmas.List.{append-nil, take-append-drop}
use Rattle.bureau_edge.proofs.Known.{Appends-none, Appends-then}

-- a piece was written up to a rest
pub record Written (old now : Option (List ℕ)) (piece rest : List ℕ) : Type 0 where
  pub front : List ℕ
  pub split : piece ≡ front ++ rest
  pub held : Appends old now front

pub begins : (x : Option (List ℕ)) (piece : List ℕ) → Written x x piece piece
begins x piece = record { front = []; split = refl; held = Appends-none x }

pub goes_on : (old now next : Option (List ℕ)) (piece rest : List ℕ) (n : ℕ) → Written old now piece rest → Appends now next (take n rest) → Written old next piece (drop n rest)
goes_on old now next piece rest n w more = record {
  front = w.front ++ take n rest;
  split = w.split ∙ ap (λ (t : List ℕ). w.front ++ t) (sym (take-append-drop n rest)) ∙ sym (append_assoc w.front (take n rest) (drop n rest));
  held = Appends-then old now next w.front (take n rest) w.held more;
}

pub ended : (old now : Option (List ℕ)) (piece rest : List ℕ) → Written old now piece rest → rest ≡ [] → Appends old now piece
ended None now piece rest w e = tt
ended (Some xs) None piece rest w e = absurd w.held
ended (Some xs) (Some ys) piece rest w e =
    let whole : piece ≡ w.front = w.split ∙ ap (λ (t : List ℕ). w.front ++ t) e ∙ append-nil w.front in
    w.held ∙ ap (λ (t : List ℕ). xs ++ t) (sym whole)
