-- The batches that lines spell.
use Rattle.std.proofs.Common.{◌≡◌, ◌∙◌, ◌+◌, ℕ, List, [], ◌∷◌, ◌++◌, length, refl, sym, ap, subst, arith, append_assoc}
use Rattle.std.specs.Prelude.{All, codes, flat_map}
use Rattle.std.proofs.lemmas.List.{append-nil}
use Rattle.std.proofs.lemmas.List.Concat.{flat_map-cons}
use Rattle.std.proofs.lemmas.List.Elements.{All-cons, All-nil}
use Rattle.request_text.specs.claim_history.specs.declared.act.Act.{Act}
use Rattle.request_text.specs.declared.request.Request.{Request}
use Rattle.request_text.specs.Lanes.{fence}
use Rattle.request_text.specs.Grammar.{AreBatches, Asked, CanBeAsked, IsLine, IsRequestText, all_numbered, batches_text, request_line}
use Rattle.request_text.proofs.ReadBack.{read_back_law}

abbrev pub Batches : Type 0
Batches = List (List Request)

-- ---- lines behind others

-- they go on with the last batch of those before them
joined : (number place : ℕ) (a b : List (List ℕ)) (ended : Batches) (batch more : List Request) (later : Batches) → place ≡ number + length a → AreBatches number a (ended ++ batch ∷ []) → AreBatches place b (more ∷ later)
    → AreBatches number (a ++ b) (ended ++ (batch ++ more) ∷ later)
joined number place [] b [] [] more later is h k =
    let same : place ≡ number = omega (arith, is) in
    subst (λ n. AreBatches n b (more ∷ later)) same k
joined number place [] b [] (r ∷ batch) more later is h k = absurd (let e = h.0 in cc)
joined number place [] b ([] ∷ []) batch more later is h k = absurd (let e = h.1 in cc)
joined number place [] b ([] ∷ next ∷ ended) batch more later is h k = absurd (let e = h.1 in cc)
joined number place [] b ((r ∷ rs) ∷ ended) batch more later is h k = absurd (let e = h.0 in cc)
joined number place (x ∷ a) b [] [] more later is h k = absurd h.1
joined number place (x ∷ a) b [] (r ∷ batch) more later is h k = (h.0, h.1, joined (number + 1) place a b [] batch more later (omega (arith, is)) h.2 k)
joined number place (x ∷ a) b ([] ∷ ended) batch more later is h k = (h.0, joined (number + 1) place a b ended batch more later (omega (arith, is)) h.1 k)
joined number place (x ∷ a) b ((r ∷ rs) ∷ ended) batch more later is h k = (h.0, h.1, joined (number + 1) place a b (rs ∷ ended) batch more later (omega (arith, is)) h.2 k)

-- a request more
pub with_request : (before : List (List ℕ)) (ended : Batches) (batch : List Request) (line : List ℕ) (r : Request) → AreBatches 1 before (ended ++ batch ∷ []) → r.line ≡ length before + 1 → IsLine line r.lane r.pool r.act
    → AreBatches 1 (before ++ line ∷ []) (ended ++ (batch ++ r ∷ []) ∷ [])
with_request before ended batch line r h number_is asks = joined 1 (length before + 1) before (line ∷ []) ended batch (r ∷ []) [] (omega arith) h (number_is, asks, (refl, refl))

-- a fence more
pub with_fence : (before : List (List ℕ)) (ended : Batches) (batch : List Request) (line : List ℕ) → AreBatches 1 before (ended ++ batch ∷ []) → line ≡ fence → AreBatches 1 (before ++ line ∷ []) ((ended ++ batch ∷ []) ++ [] ∷ [])
with_fence before ended batch line h is =
    subst (AreBatches 1 (before ++ line ∷ [])) (ap (λ (b : List Request). ended ++ b ∷ [] ∷ []) (append-nil batch) ∙ sym (append_assoc ended (batch ∷ []) ([] ∷ [])))
    (joined 1 (length before + 1) before (line ∷ []) ended batch [] ([] ∷ []) (omega arith) h (is, (refl, refl)))

-- ---- a line alone asks one thing

-- not of a lane, where it is a fence
pub no_fence : (lane : ℕ) (pool : List ℕ) (act : Act) → IsLine fence lane pool act → ⊥
no_fence lane pool act asks =
    let r : Request = record { line = 1; lane = lane; pool = pool; act = act } in
    let both : [] ∷ [] ∷ [] ≡ (r ∷ []) ∷ [] = read_back_law.only fence ([] ∷ [] ∷ []) ((r ∷ []) ∷ []) (refl, (refl, refl)) (refl, asks, (refl, refl)) in
    cc

abbrev asked : Request → Asked
asked r = record { lane = r.lane; pool = r.pool; act = r.act }

abbrev text : Request → List ℕ
text r = batches_text (asked r ∷ []) []

abbrev alone : Request → Batches
alone r = all_numbered 1 ((asked r ∷ []) ∷ [])

text_of : (line : List ℕ) (r : Request) → IsLine line r.lane r.pool r.act → IsRequestText (text r) (alone r)
text_of line r asks =
    let can : CanBeAsked (asked r) = record { by = asks.by; named = asks.named; valid = asks.valid } in
    read_back_law.written (asked r ∷ []) [] (All-cons (All CanBeAsked) (asked r ∷ []) [] (All-cons CanBeAsked (asked r) [] can (All-nil CanBeAsked)) (All-nil (All CanBeAsked)))

abbrev line_text : Asked → List ℕ
line_text a = request_line a.lane a.pool a.act

same_text : (line : List ℕ) (a b : Request) → IsLine line a.lane a.pool a.act → IsLine line b.lane b.pool b.act → text a ≡ text b
same_text line a b p q =
    flat_map-cons line_text (asked a) []
    ∙ ap (λ t. (t ++ codes "\n") ++ flat_map line_text []) (sym p.spelled ∙ q.spelled)
    ∙ sym (flat_map-cons line_text (asked b) [])

-- the request that stands alone, with another number
abbrev only_one : Request → Batches → Request
only_one other ((r ∷ []) ∷ []) = record r { line = other.line }
only_one other batches = other

pub same_request : (line : List ℕ) (a b : Request) → a.line ≡ b.line → IsLine line a.lane a.pool a.act → IsLine line b.lane b.pool b.act → a ≡ b
same_request line a b number p q =
    let both : alone a ≡ alone b = read_back_law.only (text b) (alone a) (alone b) (subst (λ t. IsRequestText t (alone a)) (same_text line a b p q) (text_of line a p)) (text_of line b q) in
    ap (λ (n : ℕ). record a { line = n }) number ∙ ap (only_one b) both
