-- Lists of what was handed, one more at a time.
use Rattle.std.specs.Prelude.{if◌then◌else◌}
use Rattle.std.proofs.Common.{◌≡◌, ◌∙◌, ◌==◌, ◌+◌, ℕ, Bool, true, false, List, [], ◌∷◌, ◌++◌, All, map, refl, sym, ap, ap₂, eqb-true}
use Rattle.std.proofs.lemmas.List.Elements.{All-cons, All-head, All-nil, All-tail}
use Rattle.served_lines.specs.claim_history.specs.declared.act.Act.{Act}
use Rattle.served_lines.specs.request_text.specs.declared.request.Request.{Request}
use Rattle.served_lines.specs.Served.{of_lane}
use Rattle.live_reading.specs.declared.handed.Handed.{Handed}
use Rattle.live_reading.specs.declared.handed.Handed.TheVariants as handed
use Rattle.live_reading.specs.Handing.{handed_of, lines_since, segment_of}

-- a line more
pub since_line : (n : ℕ) (before : List Handed) (line : ℕ) (pool : List ℕ) (a : Act) → lines_since n (before ++ handed.Line line pool a ∷ []) ≡ lines_since n before + 1
since_line n [] line pool a = refl
since_line n (handed.Line l q b ∷ before) line pool a = since_line (n + 1) before line pool a
since_line n (handed.End ∷ before) line pool a = since_line 0 before line pool a

-- a mark more
pub since_mark : (n : ℕ) (before : List Handed) → lines_since n (before ++ handed.End ∷ []) ≡ 0
since_mark n [] = refl
since_mark n (handed.Line l q b ∷ before) = since_mark (n + 1) before
since_mark n (handed.End ∷ before) = since_mark 0 before

-- what two segments begin with is one segment
pub prefix_of : (one other : List Request) (rest : List Handed) → segment_of one ++ rest ≡ segment_of other → (map handed_of one ≡ map handed_of other) × (rest ≡ [])
prefix_of [] [] rest e = (refl, cc)
prefix_of [] (b ∷ other) rest e = absurd cc
prefix_of (a ∷ one) [] rest e = absurd cc
prefix_of (a ∷ one) (b ∷ other) rest e =
    let first : handed_of a ≡ handed_of b = cc in
    let later : segment_of one ++ rest ≡ segment_of other = cc in
    let more = prefix_of one other rest later in
    (ap₂ (λ (h : Handed) (l : List Handed). h ∷ l) first more.0, more.1)

-- requests of one lane are known by what is handed of them
same_request : (n : ℕ) (a b : Request) → a.lane ≡ n → b.lane ≡ n → handed_of a ≡ handed_of b → a ≡ b
same_request n a b p q e =
    let line : a.line ≡ b.line = cc in
    let pool : a.pool ≡ b.pool = cc in
    let asks : a.act ≡ b.act = cc in
    ap (λ (l : ℕ). record { line = l; lane = a.lane; pool = a.pool; act = a.act }) line
    ∙ ap (λ (l : ℕ). record { line = b.line; lane = l; pool = a.pool; act = a.act }) (p ∙ sym q)
    ∙ ap (λ (l : List ℕ). record { line = b.line; lane = b.lane; pool = l; act = a.act }) pool
    ∙ ap (λ (x : Act). record { line = b.line; lane = b.lane; pool = b.pool; act = x }) asks

pub same_requests : (n : ℕ) (one other : List Request) → All (λ r. r.lane ≡ n) one → All (λ r. r.lane ≡ n) other → map handed_of one ≡ map handed_of other → one ≡ other
same_requests n [] [] p q e = refl
same_requests n [] (b ∷ other) p q e = absurd cc
same_requests n (a ∷ one) [] p q e = absurd cc
same_requests n (a ∷ one) (b ∷ other) p q e =
    let first : handed_of a ≡ handed_of b = cc in
    let later : map handed_of one ≡ map handed_of other = cc in
    ap₂ (λ (r : Request) (l : List Request). r ∷ l)
    (same_request n a b (All-head (λ (r : Request). r.lane ≡ n) a one p) (All-head (λ (r : Request). r.lane ≡ n) b other q) first)
    (same_requests n one other (All-tail (λ (r : Request). r.lane ≡ n) a one p) (All-tail (λ (r : Request). r.lane ≡ n) b other q) later)

-- those of a lane are its own
own_by : (n : ℕ) (r : Request) (requests : List Request) (b : Bool) → (r.lane == n) ≡ b → All (λ x. x.lane ≡ n) (of_lane n requests) → All (λ x. x.lane ≡ n) (if b then r ∷ of_lane n requests else of_lane n requests)
own_by n r requests true is h = All-cons (λ (x : Request). x.lane ≡ n) r (of_lane n requests) (eqb-true r.lane n is) h
own_by n r requests false is h = h

pub all_own : (n : ℕ) (requests : List Request) → All (λ r. r.lane ≡ n) (of_lane n requests)
all_own n [] = All-nil (λ (r : Request). r.lane ≡ n)
all_own n (r ∷ requests) = own_by n r requests (r.lane == n) refl (all_own n requests)
