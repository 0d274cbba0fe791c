-- No line of a batch is full within the bound.
use Rattle.std.specs.Prelude.{cond, filter, not, ◌||◌, ◌==◌, if◌then◌else◌}
use Rattle.std.specs.List.{sum_by}
use Rattle.std.proofs.Common.{◌≡◌, ◌∙◌, ⊎_elim, ℕ, ◌+◌, ◌*◌, ◌≤◌, Bool, true, false, List, All, [], ◌∷◌, ◌++◌, drop, get_or, length, refl, sym, ap, ap₂, subst, true≢false, append_assoc, arith}
use Rattle.std.proofs.lemmas.Bool.{cases_Bool, eq-eqb, or_right}
use Rattle.std.proofs.lemmas.List.{length-append}
use Rattle.std.proofs.lemmas.List.Elements.{All-cons, All-head, All-nil, All-tail, filter-append}
use Rattle.std.proofs.lemmas.List.Sums.{sum_by-append, sum_by-cons}
use Rattle.std.proofs.Math.Nat.{mul-le-mul_right}
use Rattle.limited_book.specs.setoff_model.specs.Names.{is_name}
use Rattle.limited_book.specs.claim_history.specs.declared.act.Act.{Act}
use Rattle.limited_book.specs.claim_history.specs.declared.call.Call.{Call}
use Rattle.limited_book.specs.claim_history.specs.declared.call.PoolEntry.{PoolEntry}
use Rattle.limited_book.specs.claim_history.specs.declared.entry.Reply.{Reply}
use Rattle.limited_book.specs.claim_history.specs.declared.entry.Reply.TheVariants as reply
use Rattle.limited_book.specs.claim_history.specs.declared.entry.Why.TheVariants as why
use Rattle.limited_book.specs.claim_history.specs.Acts.{is_close, is_filing, is_registration, is_request}
use Rattle.limited_book.specs.claim_history.specs.Needs.{endings_with, is_counted, is_of_device}
use Rattle.limited_book.specs.claim_history.specs.Pools.{AreValid, IsLegal, call_of, members_by, with_due}
use Rattle.limited_book.specs.claim_history.specs.PoolNeeds.{Fits, call_bytes, is_full, own_bytes, pool_bytes}
use Rattle.limited_book.specs.claim_history.proofs.PoolRoom.{full_law}
use Rattle.limited_book.specs.claim_history.proofs.Room.{one_at_most, one_if}
use Rattle.limited_book.specs.declared.full.Full.{Full}
use Rattle.limited_book.specs.declared.room.Room.{Room}
use Rattle.limited_book.specs.declared.room.Room.TheVariants.{Entries, Bytes}
use Rattle.limited_book.specs.Limited.{lacks}
use Rattle.request_text.specs.declared.request.Request.{Request}
use Rattle.served_lines.specs.declared.answer.Answer.{Answer}
use Rattle.served_lines.specs.declared.line_end.LineEnd.{LineEnd}
use Rattle.served_lines.specs.declared.line_end.LineEnd.TheVariants as ends
use Rattle.served_lines.specs.Bound.{AreRequests, BoundLaw, IsWithinBound, claims_with, closes, firms_with, most_endings, most_request_bytes}
use Rattle.served_lines.specs.Ends.{is_full_end, has_line_end}
use Rattle.served_lines.specs.Served.{IsCall, IsEnding, IsPublicationOf, IsServed, Line, LineAdds, LinesAdd, WasFull, asked_call, lane_lines, lines_of}
use Rattle.served_lines.proofs.Costs.{AddsAt, HasFull, adds_at, batch_le, full_le, some_full}
use Rattle.served_lines.proofs.Uses.{IsSmall, byte_use, bytes_grow, entries_grow, entry_use, filing_use, firm_use, needs_bytes, needs_entries, is_published, own_le, request_valid, short_pool, short_record, small_due, small_first}

-- ---- sums over requests

abbrev IsRequest : Request → Type 0
IsRequest r = (is_name r.pool ≡ true) × (is_request r.act ≡ true)

are_all : (requests : List Request) → AreRequests requests → All IsRequest requests
are_all requests are = λ k d lt. (are.pools k d lt, are.valid k d lt)

-- what the call of a request, and of a Close both endings of a round, take at most
abbrev entries_for : Request → ℕ
entries_for r = 1 + cond (is_close r.act) 2 0

abbrev bytes_for : ℕ → Request → ℕ
bytes_for most r = call_bytes (asked_call r) + cond (is_close r.act) (most + 2 * pool_bytes r.pool) 0

abbrev filing_of : Request → ℕ
filing_of r = one_if (is_filing r.act)

abbrev firm_of : Request → ℕ
firm_of r = one_if (is_registration r.act)

abbrev closing : Request → ℕ
closing r = cond (is_close r.act) 1 0

two_each : (b : Bool) → cond b 2 0 ≡ 2 * cond b 1 0
two_each true = refl
two_each false = refl

entries_sum : (requests : List Request) → sum_by entries_for requests ≡ length requests + 2 * closes requests
entries_sum [] = refl
entries_sum (r ∷ requests) = omega (arith, sum_by-cons entries_for r requests, sum_by-cons closing r requests, two_each (is_close r.act), entries_sum requests)

close_few : (b : Bool) (most pool : ℕ) → pool ≤ 18 → cond b (most + 2 * pool) 0 ≤ (most + 36) * cond b 1 0
close_few true most pool few = omega (arith, few)
close_few false most pool few = omega arith

bytes_sum : (most : ℕ) (requests : List Request) → All IsRequest requests → sum_by (bytes_for most) requests ≤ most_request_bytes * length requests + (most + 36) * closes requests
bytes_sum most [] are = omega arith
bytes_sum most (r ∷ requests) are =
    let own = All-head IsRequest r requests are in
    omega (
      arith,
      sum_by-cons (bytes_for most) r requests,
      ap (λ (n : ℕ). (most + 36) * n) (sum_by-cons closing r requests),
      short_record r.act own.1,
      short_pool r.pool own.0,
      close_few (is_close r.act) most (pool_bytes r.pool) (short_pool r.pool own.0),
      bytes_sum most requests (All-tail IsRequest r requests are),
    )

-- so of the lines of requests, and of one between others
lines_are : (requests : List Request) (answers : List Answer) → All IsRequest requests → All (λ (line : Line). IsRequest line.request) (lines_of requests answers)
lines_are [] answers are = All-nil (λ (line : Line). IsRequest line.request)
lines_are (r ∷ requests) [] are = All-nil (λ (line : Line). IsRequest line.request)
lines_are (r ∷ requests) (a ∷ answers) are =
    All-cons (λ (line : Line). IsRequest line.request) (record { request = r; end = a.end }) (lines_of requests answers) (All-head IsRequest r requests are)
    (lines_are requests answers (All-tail IsRequest r requests are))

one_between : {X : Type 0} (P : X → Type 0) (front back : List X) (x : X) → All P (front ++ x ∷ back) → P x
one_between P [] back x all = All-head P x back all
one_between P (y ∷ front) back x all = one_between P front back x (All-tail P y (front ++ x ∷ back) all)

-- ---- what a call and a publication add

asks_filing : (r : Request) (m : PoolEntry) → IsCall r m → filing_use m ≤ filing_of r
asks_filing r m call = omega (arith, ap (λ (a : Act). one_if (is_filing a)) call.asks)

asks_firm : (r : Request) (m : PoolEntry) → IsCall r m → firm_use m ≤ firm_of r
asks_firm r m call = omega (arith, ap (λ (a : Act). one_if (is_registration a)) call.asks)

none_or : (b : Bool) (n : ℕ) → cond b 0 n ≤ n
none_or true n = omega arith
none_or false n = omega arith

asks_entries : (r : Request) (m : PoolEntry) → IsCall r m → entry_use m ≤ entries_for r
asks_entries r m call = omega (arith, none_or (is_published m.entry.reply) (one_if (is_counted m.entry)), one_at_most (is_counted m.entry), ap {B = ℕ} (λ (a : Act). cond (is_close a) 2 0) call.asks)

asks_bytes : (most : ℕ) (r : Request) (m : PoolEntry) → IsCall r m → byte_use most m ≤ bytes_for most r
asks_bytes most r m call =
    let same : call_bytes (call_of m) ≡ call_bytes (asked_call r) = ap₂ (λ (a : Act) (pool : List ℕ). call_bytes (record { caller = 0; pool = pool; act = a })) call.asks call.in_pool in
    let close : cond (is_close m.entry.act) (most + 2 * pool_bytes m.pool) 0 ≡ cond (is_close r.act) (most + 2 * pool_bytes r.pool) 0 =
    ap₂ (λ (a : Act) (pool : List ℕ). cond (is_close a) (most + 2 * pool_bytes pool) 0) call.asks call.in_pool in
    omega (arith, none_or (is_published m.entry.reply) (own_bytes (call_of m) m.entry.reply), own_le (call_of m) m.entry.reply, same, close)

ended_entries : (r : Reply) → IsEnding r → cond (is_published r) 0 (one_if (not (is_of_device r))) ≡ 0
ended_entries (reply.Published total) h = refl
ended_entries (reply.Refused (why.Device before counted)) h = refl
ended_entries r h = absurd h

ended_bytes : (call : Call) (r : Reply) → IsEnding r → cond (is_published r) 0 (own_bytes call r) ≡ 0
ended_bytes call (reply.Published total) h = refl
ended_bytes call (reply.Refused (why.Device before counted)) h = refl
ended_bytes call r h = absurd h

module _ (whole : List PoolEntry) where
  publishes_no_claim : (r : Request) (round : ℕ) (m : PoolEntry) → IsPublicationOf whole r round m → filing_use m ≡ 0
  publishes_no_claim r round m h = ap (λ (a : Act). one_if (is_filing a)) h.asks

  publishes_no_firm : (r : Request) (round : ℕ) (m : PoolEntry) → IsPublicationOf whole r round m → firm_use m ≡ 0
  publishes_no_firm r round m h = ap (λ (a : Act). one_if (is_registration a)) h.asks

  publishes_no_entry : (r : Request) (round : ℕ) (m : PoolEntry) → IsPublicationOf whole r round m → entry_use m ≡ 0
  publishes_no_entry r round m h = omega (arith, ended_entries m.entry.reply h.ends, ap {B = ℕ} (λ (a : Act). cond (is_close a) 2 0) h.asks)

  publishes_no_bytes : (most : ℕ) (r : Request) (round : ℕ) (m : PoolEntry) → IsPublicationOf whole r round m → byte_use most m ≡ 0
  publishes_no_bytes most r round m h = omega (arith, ended_bytes (call_of m) m.entry.reply h.ends, ap (λ (a : Act). cond (is_close a) (most + 2 * pool_bytes m.pool) 0) h.asks)

-- a call that lacks entries or bytes is full
lacks_full : (what : Room) (history : List PoolEntry) (call : Call) → lacks what history call ≡ true → is_full history call ≡ true
lacks_full Entries history call is = ap (λ (b : Bool). b || lacks Bytes history call) is
lacks_full Bytes history call is = or_right (lacks Entries history call) _ is

-- what is told of a full line
told_full : (whole : List PoolEntry) (opened : ℕ) (done : List PoolEntry) (request : Request) (end : LineEnd) (members : List PoolEntry) → LineAdds whole opened done request end members → is_full_end end ≡ true
    → (full : Full) × WasFull whole opened done (asked_call request) full
told_full whole opened done request (ends.Full what needed limit) members h is = (record { what = what; needed = needed; limit = limit }, h.1)
told_full whole opened done request ends.Replied members h is = absurd (true≢false (sym is))
told_full whole opened done request ends.Memory members h is = absurd (true≢false (sym is))

-- the first members that are not fewer than those before have these in front
record IsBehind (before added place : List PoolEntry) : Type 0 where
  more : List PoolEntry
  rest : List PoolEntry
  is : place ≡ before ++ more
  parts : added ≡ more ++ rest

behind : (before added place rest : List PoolEntry) → place ++ rest ≡ before ++ added → length before ≤ length place → IsBehind before added place
behind [] added place rest e le = record { more = place; rest = rest; is = refl; parts = sym e }
behind (b ∷ before) added [] rest e le = absurd (omega (arith, le))
behind (b ∷ before) added (p ∷ place) rest e le =
    let h = behind before added place rest (ap (drop 1) e) (omega (arith, le)) in
    record {
      more = h.more;
      rest = h.rest;
      is = ap₂ (λ (x : PoolEntry) (xs : List PoolEntry). x ∷ xs) (ap (λ (l : List PoolEntry). get_or l 0 b) e) h.is;
      parts = h.parts;
    }

-- ---- a batch

module _ (batch later : List Request) (answers : List Answer) (before added : List PoolEntry) (served : IsServed batch answers before added) (legal : IsLegal (before ++ added)) (valid : AreValid (before ++ added))
    (are : AreRequests batch) (bound : IsWithinBound before (batch ++ later)) where
  abbrev whole : List PoolEntry
  whole = before ++ added

  abbrev claims : ℕ
  claims = claims_with before (batch ++ later)

  abbrev firms : ℕ
  firms = firms_with before (batch ++ later)

  abbrev most : ℕ
  most = endings_with claims firms

  -- of the requests of all
  all_sum : (f : Request → ℕ) → sum_by f (batch ++ later) ≡ sum_by f batch + sum_by f later
  all_sum f = sum_by-append f batch later

  whole_sum : (f : PoolEntry → ℕ) → sum_by f whole ≡ sum_by f before + sum_by f added
  whole_sum f = sum_by-append f before added

  filings_le : sum_by filing_use added ≤ sum_by filing_of batch
  filings_le = batch_le whole filing_use filing_of asks_filing (publishes_no_claim whole) (length before) batch answers added served.each served.answered

  firms_le : sum_by firm_use added ≤ sum_by firm_of batch
  firms_le = batch_le whole firm_use firm_of asks_firm (publishes_no_firm whole) (length before) batch answers added served.each served.answered

  entries_le : sum_by entry_use added ≤ sum_by entries_for batch
  entries_le = batch_le whole entry_use entries_for asks_entries (publishes_no_entry whole) (length before) batch answers added served.each served.answered

  bytes_le : sum_by (byte_use most) added ≤ sum_by (bytes_for most) batch
  bytes_le = batch_le whole (byte_use most) (bytes_for most) (asks_bytes most) (publishes_no_bytes whole most) (length before) batch answers added served.each served.answered

  small : IsSmall claims firms whole
  small = record {
    legal = legal;
    valid = valid;
    claims_few = omega (arith, whole_sum filing_use, all_sum filing_of, filings_le);
    firms_few = omega (arith, whole_sum firm_use, all_sum firm_of, firms_le);
  }

  -- both endings of a round for each Close, of the batch and of the later ones
  rounds_are : most_endings claims firms * closes (batch ++ later) ≡ (most + 36) * closes batch + (most + 36) * closes later
  rounds_are = ap (λ (n : ℕ). (most + 36) * n) (all_sum closing) ∙ omega arith

  -- what the later requests may add
  later_le : most_endings (claims_with whole later) (firms_with whole later) * closes later ≤ (most + 36) * closes later
  later_le = mul-le-mul_right (closes later) (omega (arith, whole_sum filing_use, whole_sum firm_use, all_sum filing_of, all_sum firm_of, filings_le, firms_le))

  left : IsWithinBound whole later
  left = record {
    entries = omega (arith, bound.entries, entries_grow claims firms before added small, entries_le, entries_sum batch, length-append batch later, all_sum closing);
    bytes = omega (arith, bound.bytes, bytes_grow claims firms before added small, bytes_le, bytes_sum most batch (are_all batch are), length-append batch later, rounds_are, later_le);
  }

  -- ---- a full line

  module _ (h : HasFull (lines_of batch answers)) where
    abbrev request : Request
    request = h.line.request

    is_asked : IsRequest request
    is_asked =
        one_between (λ (line : Line). IsRequest line.request) h.front h.back h.line
        (subst (All (λ (line : Line). IsRequest line.request)) h.parts (lines_are batch answers (are_all batch are)))

    -- with its own call and record the bound is kept
    filings_full : sum_by filing_use added + filing_of request ≤ sum_by filing_of batch
    filings_full = full_le whole filing_use filing_of asks_filing (publishes_no_claim whole) (length before) batch answers added served.each served.answered h

    firms_full : sum_by firm_use added + firm_of request ≤ sum_by firm_of batch
    firms_full = full_le whole firm_use firm_of asks_firm (publishes_no_firm whole) (length before) batch answers added served.each served.answered h

    entries_full : sum_by entry_use added + entries_for request ≤ sum_by entries_for batch
    entries_full = full_le whole entry_use entries_for asks_entries (publishes_no_entry whole) (length before) batch answers added served.each served.answered h

    bytes_full : sum_by (byte_use most) added + bytes_for most request ≤ sum_by (bytes_for most) batch
    bytes_full = full_le whole (byte_use most) (bytes_for most) (asks_bytes most) (publishes_no_bytes whole most) (length before) batch answers added served.each served.answered h

    -- at each place behind the history before it fits
    module _ (more rest : List PoolEntry) (parts : added ≡ more ++ rest) where
      abbrev place : List PoolEntry
      place = before ++ more

      small_there : IsSmall claims firms place
      small_there = small_first claims firms place rest (subst (IsSmall claims firms) (ap (λ (l : List PoolEntry). before ++ l) parts ∙ sym (append_assoc before more rest)) small)

      more_sum : (f : PoolEntry → ℕ) → sum_by f more ≤ sum_by f added
      more_sum f = omega (arith, ap (sum_by f) parts, sum_by-append f more rest)

      small_then : IsSmall claims firms (with_due place (asked_call request))
      small_then = small_due claims firms place (asked_call request) small_there.legal small_there.valid (request_valid request.act is_asked.1)
          (omega (arith, sum_by-append filing_use before more, more_sum filing_use, all_sum filing_of, filings_full))
          (omega (arith, sum_by-append firm_use before more, more_sum firm_use, all_sum firm_of, firms_full))

      fits : Fits place (asked_call request)
      fits = record {
        entries = omega (
          arith,
          needs_entries claims firms place (asked_call request),
          entries_grow claims firms before more small_there,
          more_sum entry_use,
          entries_full,
          entries_sum batch,
          bound.entries,
          length-append batch later,
          all_sum closing,
        );
        bytes = omega (
          arith,
          needs_bytes claims firms place (asked_call request) small_then,
          bytes_grow claims firms before more small_there,
          more_sum (byte_use most),
          bytes_full,
          bytes_sum most batch (are_all batch are),
          rounds_are,
          bound.bytes,
          length-append batch later,
        );
      }

    -- so none was full at any
    place_full : (done : List PoolEntry) (full : Full) → WasFull whole (length before) done (asked_call request) full → ⊥
    place_full done full was =
        let b = behind before added was.place was.begins.0 was.begins.1 was.past in
        let fit : Fits was.place (asked_call request) = subst (λ (l : List PoolEntry). Fits l (asked_call request)) (sym b.is) (fits b.more b.rest b.parts) in
        true≢false (sym (lacks_full full.what was.place (asked_call request) was.is_full.lacks_it) ∙ (full_law was.place (asked_call request)).1 fit)

    own_lines : lane_lines request.lane batch answers ≡ filter (λ (l : Line). l.request.lane == request.lane) h.front ++ h.line ∷ filter (λ (l : Line). l.request.lane == request.lane) h.back
    own_lines =
        ap (filter (λ (l : Line). l.request.lane == request.lane)) h.parts ∙ filter-append (λ (l : Line). l.request.lane == request.lane) h.front (h.line ∷ h.back)
        ∙ ap (λ (b : Bool). filter (λ (l : Line). l.request.lane == request.lane) h.front
        ++ (if b then h.line ∷ filter (λ (l : Line). l.request.lane == request.lane) h.back else filter (λ (l : Line). l.request.lane == request.lane) h.back)) (eq-eqb request.lane request.lane refl)

    at_line : AddsAt whole (length before) h.line
    at_line = adds_at whole (length before) [] (filter (λ (l : Line). l.request.lane == request.lane) h.front) (filter (λ (l : Line). l.request.lane == request.lane) h.back) h.line (members_by request.lane added)
        (subst (λ (lines : List Line). LinesAdd whole (length before) [] lines (members_by request.lane added)) own_lines (served.each request.lane))

    no_full : ⊥
    no_full =
        let told = told_full whole (length before) at_line.done request h.line.end at_line.members at_line.adds h.full in
        place_full at_line.done told.0 told.1

  none_full : has_line_end is_full_end answers ≡ false
  none_full = ⊎_elim (λ some. absurd (no_full (some_full batch answers served.answered some))) (λ none. none) (cases_Bool (has_line_end is_full_end answers))

pub bound_law : BoundLaw
bound_law batch later answers before added served legal valid are bound =
    (none_full batch later answers before added served legal valid are bound, left batch later answers before added served legal valid are bound)
