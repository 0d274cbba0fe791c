-- The members that are told.
use Rattle.std.specs.Prelude.{slice_get, Option, Some, None}
use Rattle.std.specs.Option.{option_map}
use Rattle.std.proofs.Common.{◌≡◌, ◌∙◌, ℕ, ◌<◌, List, [], ◌∷◌, get_or, map, length, refl, sym, ap, subst, arith}
use Rattle.std.proofs.lemmas.List.{length-map}
use Rattle.std.proofs.lemmas.Option.{slice_get-get_or, slice_get-map}
use Rattle.claim_history.specs.declared.call.PoolEntry.{PoolEntry}
use Rattle.claim_history.specs.declared.entry.Entry.{Entry}
use Rattle.claim_history.specs.History as one
use Rattle.claim_history.specs.Pools.{AreValid, IsLegal, entries_in, entries_of, main_pool, member_of}
use Rattle.claim_history.proofs.Pools.{legal_in, main_law, valid_in}
use Rattle.history_text.specs.Histories.{told_members}

own_entries : (es : List Entry) → entries_of (map (member_of main_pool) es) ≡ es
own_entries [] = refl
own_entries (e ∷ es) = ap (λ (rest : List Entry). e ∷ rest) (own_entries es)

-- the members that are told are a legal history of valid acts
pub told_legal : (pool : Option (List ℕ)) (history : List PoolEntry) → IsLegal history → IsLegal (told_members pool history)
told_legal None history legal = legal
told_legal (Some pool) history legal = (main_law.legal (entries_in pool history)).1 (legal_in history pool legal)

pub told_valid : (pool : Option (List ℕ)) (history : List PoolEntry) → AreValid history → AreValid (told_members pool history)
told_valid None history valid = valid
told_valid (Some pool) history valid = subst one.AreValidEntries (sym (own_entries (entries_in pool history))) (valid_in history pool valid)

-- they are as many as the entries of the pool
pub told_many : (pool : List ℕ) (history : List PoolEntry) → length (told_members (Some pool) history) ≡ length (entries_in pool history)
told_many pool history = length-map (entries_in pool history) (member_of main_pool)

-- each is an entry of the pool, as one of MAIN
pub told_entry : (pool : List ℕ) (history : List PoolEntry) (place : ℕ) (e : Entry) → slice_get (entries_in pool history) place ≡ Some e → slice_get (told_members (Some pool) history) place ≡ Some (member_of main_pool e)
told_entry pool history place e is = slice_get-map (member_of main_pool) (entries_in pool history) place ∙ ap (option_map (member_of main_pool)) is

-- so is the element of the entries of a book
pub told_here : (pool : List ℕ) (history : List PoolEntry) (entries : List Entry) (at place : ℕ) (e : Entry) → entries ≡ entries_in pool history → place < length (told_members (Some pool) history) → e ≡ get_or entries at e → at ≡ place
    → slice_get (told_members (Some pool) history) place ≡ Some (member_of main_pool e)
told_here pool history entries at place e same within is here =
    let few : at < length entries = omega (arith, within, told_many pool history, ap (λ (es : List Entry). length es) same, here) in
    let stands : slice_get entries at ≡ Some e = slice_get-get_or entries at e few ∙ ap (λ (x : Entry). Some x) (sym is) in
    told_entry pool history place e (ap (λ (es : List Entry). slice_get es place) (sym same) ∙ ap (λ (n : ℕ). slice_get entries n) (sym here) ∙ stands)
