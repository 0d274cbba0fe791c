-- The tag that is read behind the pool is the one in the act's place.
use Rattle.std.proofs.Common.{◌≡◌, ℕ, suc, ◌+◌, Bool, true, false, cond, eqb, ltb, List, [], ◌∷◌, Some, None, take, drop, get_or, length, arith, Result, Ok, Err, refl, sym, ap, ◌∙◌}
use Rattle.std.specs.Prelude.{slice_index, OnErr}
use Rattle.std.specs.Int.{w32, from_be_bytes}
use Rattle.std.proofs.lemmas.List.{get_or-drop}
use Rattle.setoff_model.specs.Names.{is_name}
use Rattle.claim_history.specs.Pools.{is_main, main_pool}
use Rattle.act_bodies.specs.Bodies.{HasPublishTag}
use Rattle.act_bodies.specs.Reading.{◌>>=◌, number_at, name_at, other_pool, pool_at}
use Rattle.act_bodies.proofs.Readers.{bind_some, past, some_is}
use Rattle.act_bodies.proofs.Values.{passed, past_to}

-- behind the caller the bytes are read on
behind_caller : (bytes : List ℕ) (caller : ℕ) (after : List ℕ) → number_at w32 bytes ≡ Some (caller, after) → (i : ℕ) → get_or after i 0 ≡ get_or bytes (4 + i) 0
behind_caller bytes caller after e i =
    let g = past (ltb (length bytes) 4) (from_be_bytes w32 (take 4 bytes), drop 4 bytes) (caller, after) e in
    ap (λ (z : ℕ × List ℕ). get_or z.1 i 0) (sym g.1) ∙ get_or-drop 4 bytes i 0

behind_name : (bytes name rest : List ℕ) → name_at bytes ≡ Some (name, rest) → get_or rest 0 0 ≡ get_or bytes (suc (get_or bytes 0 0)) 0
unfolding name_at
behind_name [] name rest e = absurd cc
behind_name (n ∷ bytes) name rest e =
    let long = past_to (ltb (length bytes) n) (cond (is_name (take n bytes)) (Some (take n bytes, drop n bytes)) None) (name, rest) e in
    let named = passed (is_name (take n bytes)) (take n bytes, drop n bytes) (name, rest) long.1 in
    ap (λ (z : List ℕ × List ℕ). get_or z.1 0 0) (sym named.1) ∙ get_or-drop n bytes 0 0 ∙ ap (λ (k : ℕ). get_or bytes k 0) (omega arith)

pool_step : (tag : ℕ) (bytes pool rest : List ℕ) (b : Bool) → eqb tag 15 ≡ b → cond b (name_at bytes >>= other_pool) (Some (main_pool, tag ∷ bytes)) ≡ Some (pool, rest)
    → get_or rest 0 0 ≡ get_or (tag ∷ bytes) (cond b (2 + get_or (tag ∷ bytes) 1 0) 0) 0
pool_step tag bytes pool rest true is e =
    let u = bind_some (name_at bytes) other_pool (pool, rest) e in
    let g = past (is_main u.0.0) u.0 (pool, rest) u.2 in
    let next : suc (suc (get_or bytes 0 0)) ≡ 2 + get_or bytes 0 0 = omega arith in
    ap (λ (z : List ℕ × List ℕ). get_or z.1 0 0) (sym g.1) ∙ behind_name bytes u.0.0 u.0.1 u.1 ∙ ap (λ (k : ℕ). get_or (tag ∷ bytes) k 0) next
pool_step tag bytes pool rest false is e =
    let found : List ℕ × List ℕ = (main_pool, tag ∷ bytes) in
    ap (λ (z : List ℕ × List ℕ). get_or z.1 0 0) (sym (some_is found (pool, rest) e))

behind_pool : (bytes pool rest : List ℕ) → pool_at bytes ≡ Some (pool, rest) → get_or rest 0 0 ≡ get_or bytes (cond (eqb (get_or bytes 0 0) 15) (2 + get_or bytes 1 0) 0) 0
unfolding pool_at
behind_pool [] pool rest e = absurd cc
behind_pool (tag ∷ bytes) pool rest e = pool_step tag bytes pool rest (eqb tag 15) refl e

place_step : (bytes : List ℕ) (b : Bool) → get_or bytes (4 + cond b (2 + get_or bytes 5 0) 0) 0 ≡ get_or bytes (cond b (6 + get_or bytes 5 0) 4) 0
place_step bytes true = let next : 4 + (2 + get_or bytes 5 0) ≡ 6 + get_or bytes 5 0 = omega arith in ap (λ (k : ℕ). get_or bytes k 0) next
place_step bytes false = refl

pub publish_tag : (bytes : List ℕ) (caller : ℕ) (after pool rest : List ℕ) → number_at w32 bytes ≡ Some (caller, after) → pool_at after ≡ Some (pool, rest) → slice_index rest 0 ≡ 14 → HasPublishTag bytes
publish_tag bytes caller after pool rest one two is =
    let at = behind_caller bytes caller after one in
    let tag = behind_pool after pool rest two in
    let moved : get_or after (cond (eqb (get_or after 0 0) 15) (2 + get_or after 1 0) 0) 0 ≡ get_or bytes (4 + cond (eqb (get_or bytes 4 0) 15) (2 + get_or bytes 5 0) 0) 0 =
    at (cond (eqb (get_or after 0 0) 15) (2 + get_or after 1 0) 0) ∙ rw (at 0, at 1) refl in
    sym (place_step bytes (eqb (get_or bytes 4 0) 15)) ∙ sym moved ∙ sym tag ∙ is

pub on_err : {A E : Type 0} (r : Result A E) (P : Type 0) → P → OnErr r P
on_err (Ok x) P h = tt
on_err (Err e) P h = h
