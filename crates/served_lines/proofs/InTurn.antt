-- The lines of a lane, with one line more.
use Rattle.std.proofs.Common.{◌≡◌, ◌∙◌, ◌==◌, ℕ, if◌then◌else◌, List, [], ◌∷◌, ◌++◌, map, filter, refl, ap}
use Rattle.std.proofs.lemmas.List.Elements.{filter-append}
use Rattle.request_text.specs.declared.request.Request.{Request}
use Rattle.served_lines.specs.declared.answer.Answer.{Answer}
use Rattle.served_lines.specs.Served.{Line, lane_lines, lines_of}

lines_more : (requests : List Request) (answers : List Answer) (request : Request) (answer : Answer) → map (λ a. a.line) answers ≡ map (λ r. r.line) requests
    → lines_of (requests ++ request ∷ []) (answers ++ answer ∷ []) ≡ lines_of requests answers ++ record { request = request; end = answer.end } ∷ []
lines_more [] [] request answer same = refl
lines_more [] (a ∷ answers) request answer same = absurd (cc same)
lines_more (r ∷ requests) [] request answer same = absurd (cc same)
lines_more (r ∷ requests) (a ∷ answers) request answer same =
    ap (λ (l : List Line). record { request = r; end = a.end } ∷ l) (lines_more requests answers request answer (cc same))

pub lane_more : (lane : ℕ) (requests : List Request) (answers : List Answer) (request : Request) (answer : Answer) → map (λ a. a.line) answers ≡ map (λ r. r.line) requests
    → lane_lines lane (requests ++ request ∷ []) (answers ++ answer ∷ []) ≡ lane_lines lane requests answers ++ (if request.lane == lane then record { request = request; end = answer.end } ∷ [] else [])
lane_more lane requests answers request answer same =
    ap (filter (λ (line : Line). line.request.lane == lane)) (lines_more requests answers request answer same)
    ∙ filter-append (λ (line : Line). line.request.lane == lane) (lines_of requests answers) (record { request = request; end = answer.end } ∷ [])
