-- What is put into an index for the first time stands at its end.
use Rattle.std.specs.Prelude.{Result, Ok, Err, IsOk, IfOk}
use Rattle.std.specs.Bool.{if◌then◌else◌}
use Rattle.std.proofs.Common.{◌≡◌, Bool, false, List, [], ◌∷◌, ◌++◌, sym, ap, ◌∙◌, true≢false}

-- the items after an insertion that was an Ok, of an item that was found in none of them
pub put_last : {X T E : Type 0} (xs ys : List X) (x : X) (found : Bool) (r : Result T E) → IsOk r → IfOk r (λ _. ys ≡ (if found then xs else xs ++ x ∷ [])) → found ≡ false → ys ≡ xs ++ x ∷ []
put_last xs ys x found (Ok t) ok put new = put ∙ ap (λ (b : Bool). if b then xs else xs ++ x ∷ []) new
put_last xs ys x found (Err e) ok put new = absurd (true≢false (sym ok))
