-- The pool that a line names, by `@` and a name after the lane. MAIN is never named.
use Rattle.std.specs.Prelude.{◌≡◌, ℕ, true, false, List, [], ◌∷◌, ◌++◌, codes, if◌then◌else◌}
use Rattle.setoff_model.specs.Names.{is_name}
use Rattle.claim_history.specs.Pools.{is_main}

-- the name of a pool other than MAIN
abbrev pub IsOtherPool : List ℕ → Type 0
IsOtherPool pool = (is_name pool ≡ true) × (is_main pool ≡ false)

-- the field that names a pool
abbrev pub pool_field : List ℕ → List ℕ
pool_field pool = codes "@" ++ pool

-- the fields that stand for a pool: none for MAIN
abbrev pub pool_fields : List ℕ → List (List ℕ)
pool_fields pool = if is_main pool then [] else pool_field pool ∷ []

-- the same as text, with the space after it
abbrev pub pool_text : List ℕ → List ℕ
pool_text pool = if is_main pool then [] else pool_field pool ++ codes " "
