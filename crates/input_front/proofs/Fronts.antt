-- An input has one front.
use Rattle.std.proofs.Common.{◌≡◌, ◌∙◌, ◌+◌, ℕ, Bool, true, List, [], ◌∷◌, ◌++◌, length, refl, sym, ap, ap₂, subst, arith, append_assoc, length-append}
use Rattle.std.specs.Str.Lines.{lines}
use Rattle.std.proofs.lemmas.List.{append-nil, nil_from_length}
use Rattle.request_text.specs.declared.request.Request.{Request}
use Rattle.request_text.specs.Lanes.{fence}
use Rattle.request_text.specs.Grammar.{AreBatches, IsLine, IsRequestText}
use Rattle.input_front.specs.Front.{EndsBatch, FrontLaw, IsBatchAt, IsFrontOf, IsMemberAt, StopsAt}
use Rattle.input_front.proofs.Spelled.{Batches, no_fence, same_request}

abbrev put_first : Request → Batches → Batches
put_first request [] = []
put_first request (batch ∷ batches) = (request ∷ batch) ∷ batches

-- a fence is no request
apart : (x y : List ℕ) (r : Request) → x ≡ y → x ≡ fence → IsLine y r.lane r.pool r.act → ⊥
apart x y r same is asks = no_fence r.lane r.pool r.act (subst (λ t. IsLine t r.lane r.pool r.act) (sym same ∙ is) asks)

-- a batch that ends begins what is read with it
abbrev IsIn : Batches → List Request → Batches → Type 0
IsIn e batch all = (later : Batches) × (all ≡ e ++ batch ∷ later)

is_in : (n : ℕ) (b a b' a' : List (List ℕ)) (e : Batches) (batch : List Request) (all : Batches) → b ++ a ≡ b' ++ a' → AreBatches n b (e ++ batch ∷ []) → EndsBatch a
    → AreBatches n b' all → StopsAt a' → IsIn e batch all
is_in n b a b' a' e batch [] same h ends k stops = absurd k
is_in n [] a b' a' [] (r ∷ batch) (x ∷ all) same h ends k stops = absurd (let w = h.0 in cc)
is_in n [] a b' a' (x ∷ []) batch (y ∷ all) same h ends k stops = absurd (let w = h.1 in cc)
is_in n [] a b' a' (x ∷ z ∷ e) batch (y ∷ all) same h ends k stops = absurd (let w = h.1 in cc)
is_in n [] a [] a' [] [] (x ∷ all) same h ends k stops = (all, ap (λ (l : List Request). l ∷ all) k.0)
is_in n [] a (y ∷ b') a' [] [] ([] ∷ all) same h ends k stops = (all, refl)
is_in n [] a (y ∷ b') a' [] [] ((r ∷ rs) ∷ all) same h ends k stops = absurd (subst EndsBatch same ends r.lane r.pool r.act k.1)
is_in n (x ∷ b) a b' a' [] [] (y ∷ all) same h ends k stops = absurd h.1
is_in n (x ∷ b) a [] a' [] (r ∷ batch) (y ∷ all) same h ends k stops = absurd ((subst StopsAt (sym same) stops).1 r.lane r.pool r.act h.1)
is_in n (x ∷ b) a (y ∷ b') a' [] (r ∷ batch) ([] ∷ all) same h ends k stops = absurd (let line : y ≡ x = cc in apart y x r line k.0 h.1)
is_in n (x ∷ b) a (y ∷ b') a' [] (r ∷ batch) ((s ∷ ss) ∷ all) same h ends k stops =
    let tail : b ++ a ≡ b' ++ a' = cc in
    let rest = is_in (n + 1) b a b' a' [] batch (ss ∷ all) tail h.2 ends k.2 stops in
    let line : y ≡ x = cc in
    (rest.0, ap₂ put_first (same_request x s r (k.0 ∙ sym h.0) (subst (λ t. IsLine t s.lane s.pool s.act) line k.1) h.1) rest.1)
is_in n (x ∷ b) a [] a' ([] ∷ e) batch (y ∷ all) same h ends k stops = absurd ((subst StopsAt (sym same) stops).0 h.0)
is_in n (x ∷ b) a (y ∷ b') a' ([] ∷ e) batch ([] ∷ all) same h ends k stops =
    let tail : b ++ a ≡ b' ++ a' = cc in
    let rest = is_in (n + 1) b a b' a' e batch all tail h.1 ends k.1 stops in
    (rest.0, ap (λ (l : Batches). [] ∷ l) rest.1)
is_in n (x ∷ b) a (y ∷ b') a' ([] ∷ e) batch ((s ∷ ss) ∷ all) same h ends k stops = absurd (let line : x ≡ y = cc in apart x y s line h.0 k.1)
is_in n (x ∷ b) a [] a' ((r ∷ rs) ∷ e) batch (y ∷ all) same h ends k stops = absurd ((subst StopsAt (sym same) stops).1 r.lane r.pool r.act h.1)
is_in n (x ∷ b) a (y ∷ b') a' ((r ∷ rs) ∷ e) batch ([] ∷ all) same h ends k stops = absurd (let line : y ≡ x = cc in apart y x r line k.0 h.1)
is_in n (x ∷ b) a (y ∷ b') a' ((r ∷ rs) ∷ e) batch ((s ∷ ss) ∷ all) same h ends k stops =
    let tail : b ++ a ≡ b' ++ a' = cc in
    let rest = is_in (n + 1) b a b' a' (rs ∷ e) batch (ss ∷ all) tail h.2 ends k.2 stops in
    let line : y ≡ x = cc in
    (rest.0, ap₂ put_first (same_request x s r (k.0 ∙ sym h.0) (subst (λ t. IsLine t s.lane s.pool s.act) line k.1) h.1) rest.1)

-- where no line is in the grammar, none asks anything
ends_too : (after : List (List ℕ)) → StopsAt after → EndsBatch after
ends_too [] stops = tt
ends_too (text ∷ after) stops = stops.1

in_front : (bytes : List ℕ) (ended : Bool) (batches e : Batches) (batch : List Request) (f : IsFrontOf bytes ended batches) (g : IsFrontOf bytes ended (e ++ batch ∷ [])) → IsIn e batch batches
in_front bytes ended batches e batch f g = is_in 1 g.before g.after f.before f.after e batch batches (sym g.cut ∙ f.cut) g.spelled (ends_too g.after g.stops) f.spelled f.stops

-- ---- there is a last batch

record Snoc (all : Batches) : Type 0 where
  e : Batches
  batch : List Request
  is : all ≡ e ++ batch ∷ []

snoc : (x : List Request) (xs : Batches) → Snoc (x ∷ xs)
snoc x [] = record { e = []; batch = x; is = refl }
snoc x (y ∷ xs) = let s = snoc y xs in record { e = x ∷ s.e; batch = s.batch; is = ap (λ (l : Batches). x ∷ l) s.is }

last_of : (n : ℕ) (ls : List (List ℕ)) (all : Batches) → AreBatches n ls all → Snoc all
last_of n ls [] h = absurd h
last_of n ls (x ∷ xs) h = snoc x xs

longer : (bytes : List ℕ) (ended : Bool) (a b : Batches) → IsFrontOf bytes ended a → IsFrontOf bytes ended b → (later : Batches) × (b ≡ a ++ later)
longer bytes ended a b f g =
    let s = last_of 1 f.before a f.spelled in
    let i = in_front bytes ended b s.e s.batch g (subst (IsFrontOf bytes ended) s.is f) in
    (i.0, i.1 ∙ sym (append_assoc s.e (s.batch ∷ []) i.0) ∙ ap (λ (l : Batches). l ++ i.0) (sym s.is))

only : (bytes : List ℕ) (ended : Bool) (a b : Batches) → IsFrontOf bytes ended a → IsFrontOf bytes ended b → a ≡ b
only bytes ended a b f g =
    let i = longer bytes ended a b f g in
    let j = longer bytes ended b a g f in
    let none : i.0 ≡ [] = nil_from_length i.0 (omega (arith, ap length i.1, ap length j.1, length-append a i.0, length-append b j.0)) in
    sym (i.1 ∙ ap (λ (l : Batches). a ++ l) none ∙ append-nil a)

member : (bytes : List ℕ) (ended : Bool) (batches : Batches) (place : ℕ) (batch : List Request) → IsFrontOf bytes ended batches → IsBatchAt bytes ended place batch → IsMemberAt batches place batch
member bytes ended batches place batch f at =
    let i = is_in 1 at.before at.after f.before f.after at.earlier batch batches (sym at.cut ∙ f.cut) at.spelled at.ends f.spelled f.stops in
    record { before = at.earlier; after = i.0; cut = i.1; place_is = at.place_is }

last : (bytes : List ℕ) (ended : Bool) (earlier : Batches) (batch : List Request) → IsFrontOf bytes ended (earlier ++ batch ∷ []) → IsBatchAt bytes ended (length earlier) batch
last bytes ended earlier batch f = record { earlier = earlier; place_is = refl; before = f.before; after = f.after; cut = f.cut; spelled = f.spelled; ends = ends_too f.after f.stops }

whole : (bytes : List ℕ) (batches : Batches) → IsRequestText bytes batches → IsFrontOf bytes true batches
whole bytes batches h = record { before = lines bytes; after = []; cut = sym (append-nil (lines bytes)); spelled = h; stops = tt }

pub front_law : FrontLaw
front_law = record { only = only; member = member; last = last; whole = whole }
