-- What the lines of a batch may add to a sum over members.
use Rattle.std.specs.Prelude.{cond}
use Rattle.std.specs.List.{sum_by}
use Rattle.std.proofs.Common.{◌≡◌, ◌||◌, inl, inr, ℕ, ◌+◌, ◌≤◌, Bool, true, false, List, [], ◌∷◌, ◌++◌, map, refl, ap, arith}
use Rattle.std.proofs.lemmas.List.Sums.{sum_by-append, sum_by-cons}
use Rattle.limited_book.specs.claim_history.specs.declared.call.PoolEntry.{PoolEntry}
use Rattle.limited_book.specs.claim_history.specs.Pools.{members_by}
use Rattle.request_text.specs.declared.request.Request.{Request}
use Rattle.served_lines.specs.declared.answer.Answer.{Answer}
use Rattle.served_lines.specs.declared.line_end.LineEnd.{LineEnd}
use Rattle.served_lines.specs.declared.line_end.LineEnd.TheVariants as ends
use Rattle.served_lines.specs.Ends.{is_full_end, has_line_end}
use Rattle.served_lines.specs.Served.{IsCall, IsOne, IsPublicationOf, IsRound, Line, LineAdds, LinesAdd, lane_lines, lines_of}
use Rattle.served_lines.proofs.Lanes.{lanes_le}

-- ---- sums over lines and requests

-- the most that a line may add: what its own call may, and nothing where it is full
abbrev pub cost_of : (Request → ℕ) → Line → ℕ
cost_of own line = cond (is_full_end line.end) 0 (own line.request)

cost_at : (b : Bool) (n : ℕ) → cond b 0 n ≤ n
cost_at true n = omega arith
cost_at false n = omega arith

cost_none : (b : Bool) (n : ℕ) → b ≡ true → cond b 0 n ≡ 0
cost_none true n is = refl
cost_none false n is = absurd cc

costs_le : (own : Request → ℕ) (lines : List Line) → sum_by (cost_of own) lines ≤ sum_by (λ line. own line.request) lines
costs_le own [] = omega arith
costs_le own (line ∷ lines) =
    omega (
      arith,
      sum_by-cons (cost_of own) line lines,
      sum_by-cons (λ (l : Line). own l.request) line lines,
      cost_at (is_full_end line.end) (own line.request),
      costs_le own lines,
    )

-- a full line leaves what it might add
full_saves : (own : Request → ℕ) (front back : List Line) (line : Line) → is_full_end line.end ≡ true
    → sum_by (cost_of own) (front ++ line ∷ back) + own line.request ≤ sum_by (λ l. own l.request) (front ++ line ∷ back)
full_saves own front back line full =
    omega (
      arith,
      sum_by-append (cost_of own) front (line ∷ back),
      sum_by-cons (cost_of own) line back,
      sum_by-append (λ (l : Line). own l.request) front (line ∷ back),
      sum_by-cons (λ (l : Line). own l.request) line back,
      cost_none (is_full_end line.end) (own line.request) full,
      costs_le own front,
      costs_le own back,
    )

-- the lines are those of the requests
pub lines_sum : (f : Request → ℕ) (requests : List Request) (answers : List Answer) → map (λ a. a.line) answers ≡ map (λ r. r.line) requests → sum_by (λ line. f line.request) (lines_of requests answers) ≡ sum_by f requests
lines_sum f [] answers same = refl
lines_sum f (r ∷ requests) [] same = absurd (cc same)
lines_sum f (r ∷ requests) (a ∷ answers) same =
    omega (
      arith,
      sum_by-cons (λ (l : Line). f l.request) (record { request = r; end = a.end }) (lines_of requests answers),
      sum_by-cons f r requests,
      lines_sum f requests answers (cc same),
    )

-- ---- a full line

-- one of the lines is full, and it is between others
pub record HasFull (lines : List Line) : Type 0 where
  pub front : List Line
  pub line : Line
  pub back : List Line
  pub parts : lines ≡ front ++ line ∷ back
  pub full : is_full_end line.end ≡ true

more_full : (line : Line) (lines : List Line) → HasFull lines → HasFull (line ∷ lines)
more_full line lines h = record { front = line ∷ h.front; line = h.line; back = h.back; parts = ap (λ (l : List Line). line ∷ l) h.parts; full = h.full }

full_by : (line : Line) (lines : List Line) (b rest : Bool) → is_full_end line.end ≡ b → (rest ≡ true → HasFull lines) → (b || rest) ≡ true → HasFull (line ∷ lines)
full_by line lines true rest is later some = record { front = []; line = line; back = lines; parts = refl; full = is }
full_by line lines false rest is later some = more_full line lines (later some)

pub some_full : (requests : List Request) (answers : List Answer) → map (λ a. a.line) answers ≡ map (λ r. r.line) requests → has_line_end is_full_end answers ≡ true → HasFull (lines_of requests answers)
some_full requests [] same some = absurd (cc some)
some_full [] (a ∷ answers) same some = absurd (cc same)
some_full (r ∷ requests) (a ∷ answers) same some =
    full_by (record { request = r; end = a.end }) (lines_of requests answers) (is_full_end a.end) (has_line_end is_full_end answers) refl (some_full requests answers (cc same)) some

-- ---- what a line adds, where a publication adds nothing

module _ (whole : List PoolEntry) (f : PoolEntry → ℕ) (own : Request → ℕ)
    (call_le : (request : Request) (m : PoolEntry) → IsCall request m → f m ≤ own request)
    (publication_none : (request : Request) (round : ℕ) (m : PoolEntry) → IsPublicationOf whole request round m → f m ≡ 0) where
  one_le : (request : Request) (members : List PoolEntry) → IsOne request members → sum_by f members ≤ own request
  one_le request members h = omega (arith, ap (sum_by f) h.is, sum_by-cons f h.call [], call_le request h.call h.asks)

  round_le : (request : Request) (members : List PoolEntry) → IsRound whole request members → sum_by f members ≤ own request
  round_le request members h =
      omega (
        arith,
        ap (sum_by f) h.is,
        sum_by-cons f h.close (h.publication ∷ []),
        sum_by-cons f h.publication [],
        call_le request h.close h.closes.call,
        publication_none request h.round h.publication h.publishes,
      )

  line_le : (opened : ℕ) (done : List PoolEntry) (request : Request) (end : LineEnd) (members : List PoolEntry) → LineAdds whole opened done request end members
      → sum_by f members ≤ cost_of own (record { request = request; end = end })
  line_le opened done request ends.Replied members (inl one) = one_le request members one
  line_le opened done request ends.Replied members (inr round) = round_le request members round
  line_le opened done request ends.Memory members (inl none) = omega (arith, ap (sum_by f) none)
  line_le opened done request ends.Memory members (inr h) = omega (arith, ap (sum_by f) h.is, sum_by-cons f h.close [], call_le request h.close h.closes.call)
  line_le opened done request (ends.Full what needed limit) members h = omega (arith, ap (sum_by f) h.0)

  lines_le : (opened : ℕ) (done : List PoolEntry) (lines : List Line) (members : List PoolEntry) → LinesAdd whole opened done lines members → sum_by f members ≤ sum_by (cost_of own) lines
  lines_le opened done [] members none = omega (arith, ap (sum_by f) none)
  lines_le opened done (line ∷ lines) members h =
      omega (
        arith,
        ap (sum_by f) h.2,
        sum_by-append f h.0 h.1,
        sum_by-cons (cost_of own) line lines,
        line_le opened done line.request line.end h.0 h.3,
        lines_le opened (done ++ h.0) lines h.1 h.4,
      )

  module _ (opened : ℕ) (batch : List Request) (answers : List Answer) (added : List PoolEntry) (each : (lane : ℕ) → LinesAdd whole opened [] (lane_lines lane batch answers) (members_by lane added)) where
    costs : sum_by f added ≤ sum_by (cost_of own) (lines_of batch answers)
    costs = lanes_le (λ (m : PoolEntry). m.entry.caller) f (λ (line : Line). line.request.lane) (cost_of own) added (lines_of batch answers)
        (λ lane. lines_le opened [] (lane_lines lane batch answers) (members_by lane added) (each lane))

    -- a batch adds at most what its requests may
    pub batch_le : map (λ a. a.line) answers ≡ map (λ r. r.line) batch → sum_by f added ≤ sum_by own batch
    batch_le same = omega (arith, costs, costs_le own (lines_of batch answers), lines_sum own batch answers same)

    -- and where a line is full, there is room for its own call beside
    pub full_le : map (λ a. a.line) answers ≡ map (λ r. r.line) batch → (h : HasFull (lines_of batch answers)) → sum_by f added + own h.line.request ≤ sum_by own batch
    full_le same h = omega (
      arith,
      costs,
      ap (sum_by (cost_of own)) h.parts,
      ap (sum_by (λ (l : Line). own l.request)) h.parts,
      full_saves own h.front h.back h.line h.full,
      lines_sum own batch answers same,
    )

-- ---- the place of a full line

-- what a line adds that is between others
pub record AddsAt (whole : List PoolEntry) (opened : ℕ) (line : Line) : Type 0 where
  pub done : List PoolEntry
  pub members : List PoolEntry
  pub adds : LineAdds whole opened done line.request line.end members

pub adds_at : (whole : List PoolEntry) (opened : ℕ) (done : List PoolEntry) (front back : List Line) (line : Line) (members : List PoolEntry) → LinesAdd whole opened done (front ++ line ∷ back) members → AddsAt whole opened line
adds_at whole opened done [] back line members h = record { done = done; members = h.0; adds = h.3 }
adds_at whole opened done (first ∷ front) back line members h = adds_at whole opened (done ++ h.0) front back line h.1 h.4
