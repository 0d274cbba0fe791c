-- The bound of requests behind a journal, at its opening.
use Rattle.std.specs.Prelude.{cond, map, reverse, None}
use Rattle.std.specs.List.{sum_by}
use Rattle.std.proofs.Common.{◌≡◌, ◌∙◌, ℕ, ◌+◌, ◌*◌, ◌≤◌, true, List, All, [], ◌∷◌, ◌++◌, length, refl, sym, ap, subst, arith}
use Rattle.std.proofs.lemmas.List.{length-append, length-map, length-reverse}
use Rattle.std.proofs.lemmas.List.Elements.{All-cons, All-head, All-nil, All-tail}
use Rattle.std.proofs.lemmas.List.Sorted.{IsPermutation-reverse, sum_by-IsPermutation}
use Rattle.std.proofs.lemmas.List.Sums.{sum_by-append, sum_by-cons}
use Rattle.std.proofs.Math.Nat.{mul-add, mul-le-mul_right}
use Rattle.bureau_desk.specs.claim_history.specs.declared.call.Call.{Call}
use Rattle.bureau_desk.specs.claim_history.specs.declared.entry.Entry.{Entry}
use Rattle.bureau_desk.specs.claim_history.specs.declared.call.PoolEntry.{PoolEntry}
use Rattle.bureau_desk.specs.claim_history.specs.Acts.{is_filing, is_registration}
use Rattle.bureau_desk.specs.claim_history.specs.Needs.{endings_entries}
use Rattle.bureau_desk.specs.claim_history.specs.States.{state}
use Rattle.bureau_desk.specs.claim_history.specs.Pools.{call_of, due_member, open_round_in, replay_after}
use Rattle.bureau_desk.specs.claim_history.specs.PoolNeeds.{call_bytes, open_in, pool_endings_bytes, pools_of, reserved_bytes_of, reserved_entries_of, used_bytes_of, used_entries_of}
use Rattle.bureau_desk.specs.claim_history.specs.PoolRounds.{ended, ending_of, left_open}
use Rattle.bureau_desk.specs.claim_history.proofs.PoolEnds.{ended_law}
use Rattle.bureau_desk.specs.claim_history.proofs.PoolRoom.{use_bound_law}
use Rattle.bureau_desk.specs.claim_history.proofs.Pools.{in_reverse, pool_replay_law}
use Rattle.bureau_desk.specs.act_bodies.specs.Bodies.{is_keepable}
use Rattle.bureau_desk.specs.act_bodies.proofs.Keepable.{pool_named}
use Rattle.bureau_desk.specs.act_bodies.proofs.Lengths.{pool_few}
use Rattle.printed_text.specs.request_text.specs.declared.request.Request.{Request}
use Rattle.bureau_desk.specs.round_journal.specs.declared.record.Record.{Record}
use Rattle.bureau_desk.specs.journal_replay.specs.Replays.{recorded_call, history_of}
use Rattle.bureau_desk.specs.recorded_book.specs.Acting.{IsOpenedHistory}
use Rattle.bureau_desk.specs.recorded_book.specs.Calls.{CanBeKept}
use Rattle.printed_text.specs.served_lines.specs.Bound.{IsWithinBound, claims_with, closes, firms_with, most_endings}
use Rattle.journal_texts.specs.Journals.{HasRoomForAll, claims_asked, firms_asked, rounds_left}

-- ---- the history of an opening

-- a number of each call, summed over members
abbrev calls_sum : (Call → ℕ) → List PoolEntry → ℕ
calls_sum f members = sum_by (λ m. f (call_of m)) members

replayed_sum : (f : Call → ℕ) (calls : List Call) (past : List PoolEntry) → calls_sum f (replay_after past calls) ≡ calls_sum f past + sum_by f calls
replayed_sum f [] past = omega arith
replayed_sum f (call ∷ calls) past =
    let m : PoolEntry = due_member past call in
    omega (arith, replayed_sum f calls (m ∷ past), sum_by-cons (λ (x : PoolEntry). f (call_of x)) m past, sum_by-cons f call calls)

replayed_long : (calls : List Call) (past : List PoolEntry) → length (replay_after past calls) ≡ length past + length calls
replayed_long [] past = omega arith
replayed_long (call ∷ calls) past = omega (arith, replayed_long calls (due_member past call ∷ past))

records_sum : (f : Call → ℕ) (records : List Record) → sum_by f (map recorded_call records) ≡ sum_by (λ r. f (recorded_call r)) records
records_sum f [] = refl
records_sum f (r ∷ records) =
    omega (arith, sum_by-cons f (recorded_call r) (map recorded_call records), sum_by-cons (λ (x : Record). f (recorded_call x)) r records, records_sum f records)

opened_sum : (f : Call → ℕ) (records : List Record) → calls_sum f (history_of records) ≡ sum_by (λ r. f (recorded_call r)) records
opened_sum f records =
    let past = replay_after [] (map recorded_call records) in
    omega (
      arith,
      sum_by-IsPermutation (λ (m : PoolEntry). f (call_of m)) past (reverse past) (IsPermutation-reverse past),
      replayed_sum f (map recorded_call records) [],
      records_sum f records,
    )

opened_long : (records : List Record) → length (history_of records) ≡ length records
opened_long records =
    let past = replay_after [] (map recorded_call records) in
    omega (arith, length-reverse past, replayed_long (map recorded_call records) [], length-map records recorded_call)

-- what abandonments use at most
ends_sum : (f : Call → ℕ) (most : ℕ) (ms : List PoolEntry) → All (λ m. f (call_of m) ≤ most) (map ending_of ms) → calls_sum f (map ending_of ms) ≤ most * length ms
ends_sum f most [] all = omega arith
ends_sum f most (m ∷ ms) all =
    let P : PoolEntry → Type 0 = λ x. f (call_of x) ≤ most in
    let here = All-head P (ending_of m) (map ending_of ms) all in
    let rest = ends_sum f most ms (All-tail P (ending_of m) (map ending_of ms) all) in
    omega (arith, sum_by-cons (λ (x : PoolEntry). f (call_of x)) (ending_of m) (map ending_of ms), here, rest)

ends_few : (ms : List PoolEntry) → All (λ m. is_keepable (call_of m) ≡ true) (map ending_of ms) → All (λ m. call_bytes (call_of m) ≤ 28) (map ending_of ms)
ends_few [] all = All-nil (λ (m : PoolEntry). call_bytes (call_of m) ≤ 28)
ends_few (m ∷ ms) all =
    let P : PoolEntry → Type 0 = λ x. is_keepable (call_of x) ≡ true in
    let here = pool_few m.pool (pool_named (call_of (ending_of m)) (All-head P (ending_of m) (map ending_of ms) all)) in
    All-cons (λ (x : PoolEntry). call_bytes (call_of x) ≤ 28) (ending_of m) (map ending_of ms) (omega (arith, here)) (ends_few ms (All-tail P (ending_of m) (map ending_of ms) all))

-- no abandonment is of this sort
ends_none : (f : Call → ℕ) → ((m : PoolEntry) → f (call_of (ending_of m)) ≡ 0) → (ms : List PoolEntry) → All (λ m. f (call_of m) ≤ 0) (map ending_of ms)
ends_none f none [] = All-nil (λ (m : PoolEntry). f (call_of m) ≤ 0)
ends_none f none (m ∷ ms) = All-cons (λ (x : PoolEntry). f (call_of x) ≤ 0) (ending_of m) (map ending_of ms) (omega (arith, none m)) (ends_none f none ms)

abbrev filings : Call → ℕ
filings call = cond (is_filing call.act) 1 0

abbrev registrations : Call → ℕ
registrations call = cond (is_registration call.act) 1 0

-- what the opening uses at most
record OpeningUses (records : List Record) (begun : List PoolEntry) : Type 0 where
  entries : used_entries_of begun ≤ length records + rounds_left records
  bytes : used_bytes_of begun ≤ 9 + sum_by (λ r. call_bytes (recorded_call r)) records + 28 * rounds_left records
  claims : calls_sum filings begun ≤ sum_by (λ r. filings (recorded_call r)) records
  firms : calls_sum registrations begun ≤ sum_by (λ r. registrations (recorded_call r)) records

opening_uses : (records : List Record) → All (λ m. is_keepable (call_of m) ≡ true) (map ending_of (left_open (history_of records))) → OpeningUses records (ended (history_of records))
opening_uses records keepable =
    let opened = history_of records in
    let left = left_open opened in
    let ends = map ending_of left in
    let bound = use_bound_law (ended opened) in
    let parts : (f : Call → ℕ) → calls_sum f (ended opened) ≡ calls_sum f opened + calls_sum f ends = λ f. sum_by-append (λ (m : PoolEntry). f (call_of m)) opened ends in
    record {
      entries = omega (arith, bound.entries, length-append opened ends, length-map left ending_of, opened_long records);
      bytes = omega (arith, bound.bytes, parts call_bytes, opened_sum call_bytes records, ends_sum call_bytes 28 left (ends_few left keepable));
      claims = omega (arith, parts filings, opened_sum filings records, ends_sum filings 0 left (ends_none filings (λ m. refl) left));
      firms = omega (arith, parts registrations, opened_sum registrations records, ends_sum registrations 0 left (ends_none registrations (λ m. refl) left));
    }

second : {X : Type 0} (P : X → Type 0) (xs ys : List X) → All P (xs ++ ys) → All P ys
second P [] ys h = h
second P (x ∷ xs) ys h = second P xs ys (All-tail P x (xs ++ ys) h)

begun_uses : (records : List Record) (begun : List PoolEntry) → CanBeKept begun → IsOpenedHistory (history_of records) begun → OpeningUses records begun
begun_uses records begun keepable is =
    let opened = history_of records in
    let P : PoolEntry → Type 0 = λ m. is_keepable (call_of m) ≡ true in
    subst (OpeningUses records) (sym is) (opening_uses records (second P opened (map ending_of (left_open opened)) (subst (All P) is keepable)))

-- no round is open after the opening, so none reserves anything
sum_none : (f : List ℕ → ℕ) → ((pool : List ℕ) → f pool ≡ 0) → (pools : List (List ℕ)) → sum_by f pools ≡ 0
sum_none f none [] = refl
sum_none f none (pool ∷ pools) = omega (arith, sum_by-cons f pool pools, none pool, sum_none f none pools)

closed_reserves : (history : List PoolEntry) → ((pool : List ℕ) → open_round_in history pool ≡ None) → (reserved_entries_of history ≡ 0) × (reserved_bytes_of history ≡ 0)
closed_reserves history none =
    let past = reverse history in
    let closed : (pool : List ℕ) → open_in past pool ≡ None = λ pool. ap (λ (es : List Entry). (state es).open_round) (in_reverse pool history) ∙ none pool in (
      sum_none (λ pool. endings_entries (open_in past pool)) (λ pool. ap endings_entries (closed pool)) (pools_of past),
      sum_none (λ pool. pool_endings_bytes pool (open_in past pool)) (λ pool. ap (pool_endings_bytes pool) (closed pool)) (pools_of past),
    )

begun_reserves : (records : List Record) (begun : List PoolEntry) → IsOpenedHistory (history_of records) begun → (reserved_entries_of begun ≡ 0) × (reserved_bytes_of begun ≡ 0)
begun_reserves records begun is =
    closed_reserves begun (λ pool. ap (λ (h : List PoolEntry). open_round_in h pool) is ∙ ended_law.none (history_of records) pool (pool_replay_law (map recorded_call records)))

-- the bound holds at the opening
opening_bound : (records : List Record) (begun : List PoolEntry) (requests : List Request) → OpeningUses records begun → (reserved_entries_of begun ≡ 0) × (reserved_bytes_of begun ≡ 0)
    → HasRoomForAll records requests → IsWithinBound begun requests
opening_bound records begun requests uses none room =
    let most = most_endings (claims_asked records requests) (firms_asked records requests) in
    let rounds : most_endings (claims_with begun requests) (firms_with begun requests) * closes requests ≤ most * closes requests =
    mul-le-mul_right (closes requests) (omega (arith, uses.claims, uses.firms)) in
    let one_more : most * (closes requests + 1) ≡ most * closes requests + most * 1 = mul-add most (closes requests) 1 in
    record {
      entries = omega (arith, room.entries, uses.entries, none.0);
      bytes = omega (arith, room.bytes, uses.bytes, none.1, rounds, one_more);
    }

pub opened_within : (records : List Record) (begun : List PoolEntry) (requests : List Request) → CanBeKept begun → IsOpenedHistory (history_of records) begun → HasRoomForAll records requests → IsWithinBound begun requests
opened_within records begun requests kept is room = opening_bound records begun requests (begun_uses records begun kept is) (begun_reserves records begun is) room
