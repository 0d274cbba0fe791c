-- The requests of one lane, one more at a time.
use Rattle.std.specs.Prelude.{if◌then◌else◌}
use Rattle.std.proofs.Common.{◌≡◌, ◌∙◌, ◌==◌, ◌+◌, ◌<◌, ◌≤◌, ℕ, Bool, List, [], ◌∷◌, ◌++◌, length, take, drop, get_or, refl, sym, ap, arith, eq-eqb, length-append}
use Rattle.std.proofs.lemmas.Bool.{ne_eqb}
use Rattle.std.proofs.lemmas.List.{append-nil, take-append-drop, take_more}
use Rattle.std.proofs.lemmas.List.Elements.{filter-append}
use Rattle.std.proofs.lemmas.List.Sums.{count_by-le-length, length-filter}
use Rattle.request_text.specs.declared.request.Request.{Request}
use Rattle.served_lines.specs.Served.{of_lane}

-- one request more
pub one_more : (all : List Request) (i : ℕ) (request : Request) → i < length all → request ≡ get_or all i request → take (i + 1) all ≡ take i all ++ request ∷ []
one_more all i request lt is = take_more all i request lt ∙ ap (λ (x : Request). take i all ++ x ∷ []) (sym is)

-- is one of its lane, and of no other
pub more_of_lane : (lane : ℕ) (requests : List Request) (request : Request) → of_lane lane (requests ++ request ∷ []) ≡ of_lane lane requests ++ (if request.lane == lane then request ∷ [] else [])
more_of_lane lane requests request = filter-append (λ (r : Request). r.lane == lane) requests (request ∷ [])

pub own_more : (lane : ℕ) (requests : List Request) (request : Request) → request.lane ≡ lane → of_lane lane (requests ++ request ∷ []) ≡ of_lane lane requests ++ request ∷ []
own_more lane requests request is = more_of_lane lane requests request ∙ ap (λ (b : Bool). of_lane lane requests ++ (if b then request ∷ [] else [])) (eq-eqb request.lane lane is)

pub other_more : (lane : ℕ) (requests : List Request) (request : Request) → (request.lane ≡ lane → ⊥) → of_lane lane (requests ++ request ∷ []) ≡ of_lane lane requests
other_more lane requests request other =
    more_of_lane lane requests request
    ∙ ap (λ (b : Bool). of_lane lane requests ++ (if b then request ∷ [] else [])) (ne_eqb request.lane lane other)
    ∙ append-nil (of_lane lane requests)

-- there are fewer among the first ones than among all
pub fewer_before : (lane : ℕ) (all : List Request) (i : ℕ) (request : Request) → i < length all → request ≡ get_or all i request → request.lane ≡ lane → length (of_lane lane (take i all)) < length (of_lane lane all)
fewer_before lane all i request lt is own =
    let parts : of_lane lane all ≡ of_lane lane (take (i + 1) all) ++ of_lane lane (drop (i + 1) all) =
    ap (of_lane lane) (sym (take-append-drop (i + 1) all)) ∙ filter-append (λ (r : Request). r.lane == lane) (take (i + 1) all) (drop (i + 1) all) in
    let first : of_lane lane (take (i + 1) all) ≡ of_lane lane (take i all) ++ request ∷ [] = ap (of_lane lane) (one_more all i request lt is) ∙ own_more lane (take i all) request own in
    let n = ap length parts in
    let m = ap length first in
    omega (arith, n, m, length-append (of_lane lane (take (i + 1) all)) (of_lane lane (drop (i + 1) all)), length-append (of_lane lane (take i all)) (request ∷ []))

pub few_of_lane : (lane : ℕ) (requests : List Request) → length (of_lane lane requests) ≤ length requests
few_of_lane lane requests =
    let mine : Request → Bool = λ r. r.lane == lane in
    let same = length-filter mine requests in
    let le = count_by-le-length mine requests in
    omega (arith, same, le)
