-- Room for both endings of each open round is kept, and how the use of a history grows.
use Rattle.std.specs.Prelude.{reverse, if◌then◌else◌, Option, Some, None, ◌||◌}
use Rattle.std.specs.List.{list_any, sum_by}
use Rattle.std.proofs.Common.{◌≡◌, ℕ, ◌+◌, ◌*◌, ◌≤◌, Bool, true, false, List, [], ◌∷◌, ◌++◌, length, All, refl, sym, ◌∙◌, ap, subst, true≢false, arith}
use Rattle.std.proofs.lemmas.Bool.{or_parts}
use Rattle.std.proofs.lemmas.List.{length-map, length-reverse, reverse-append, reverse-reverse}
use Rattle.std.proofs.lemmas.List.Elements.{All-head, All-tail}
use Rattle.std.proofs.lemmas.List.Sums.{count_by-le-length, sum_by-cons}
use Rattle.std.proofs.lemmas.List.Sorted.{sum_by-IsPermutation, IsPermutation-reverse}
use Rattle.setoff_model.specs.declared.limits.TheConstants.{MOST_ENTRIES, MOST_JOURNAL_BYTES}
use Rattle.setoff_model.specs.Same.{same_name}
use Rattle.setoff_model.specs.CutView.{OutcomeView}
use Rattle.setoff_model.proofs.SameNames.{name_same, same_name_is}
use Rattle.claim_history.specs.declared.act.Act.{Act}
use Rattle.claim_history.specs.declared.act.Act.TheVariants as act
use Rattle.claim_history.specs.declared.entry.Reply.{Reply}
use Rattle.claim_history.specs.declared.entry.Reply.TheVariants as reply
use Rattle.claim_history.specs.declared.entry.Why.TheVariants as why
use Rattle.claim_history.specs.declared.entry.Entry.{Entry}
use Rattle.claim_history.specs.declared.call.Call.{Call}
use Rattle.claim_history.specs.declared.call.PoolEntry.{PoolEntry}
use Rattle.claim_history.specs.States.{OpenRound, after, state}
use Rattle.claim_history.specs.History.{IsReply, answer, failed, is_accepted, is_no_refusal, replied}
use Rattle.claim_history.specs.Needs.{endings_bytes, endings_entries, is_counted, open_after, record_length_of}
use Rattle.claim_history.specs.Pools.{IsLegalPast, accepted_calls, answered, call_of, due_member, due_of_past, due_reply, entries_in, entries_of, member_of, open_round_in, replay_after, replay_of, state_in}
use Rattle.claim_history.specs.PoolNeeds.{CallsLaw, EndingsLaw, FitsPast, FullLaw, IsWithinLimitsPast, NeedsLaw, RecordsLaw, ReserveLaw, RoomLaw, UseBoundLaw, UseLaw, call_bytes, needed_bytes, needed_entries, open_in, own_bytes, pool_bytes, pool_endings_bytes, pools_of, reserved_bytes, reserved_entries, used_bytes, used_entries}
use Rattle.claim_history.proofs.Pasts.{all_reverse, entry_of}
use Rattle.claim_history.proofs.Pools.{in_reverse, past_other, past_own}
use Rattle.claim_history.proofs.Room.{abandoned_open, due_is_one, entries_more, fits_test, one_at_most, publication_covered}

-- ---- a sum over names, of which one has another summand

-- each name once
abbrev AreApart : List (List ℕ) → Type 0
AreApart [] = Unit {0}
AreApart (q ∷ qs) = (list_any (same_name q) qs ≡ false) × AreApart qs

apart_sym : (a b : List ℕ) (t : Bool) → same_name b a ≡ t → same_name a b ≡ false → same_name b a ≡ false
apart_sym a b false e other = e
apart_sym a b true e other = absurd (true≢false (sym ((same_name_is a b).1 (sym ((same_name_is b a).0 e))) ∙ other))

-- the summand of x is another
record IsSwapped (f g : List ℕ → ℕ) (x : List ℕ) (qs : List (List ℕ)) : Type 0 where
  there : list_any (same_name x) qs ≡ true → sum_by g qs + f x ≡ sum_by f qs + g x
  absent : list_any (same_name x) qs ≡ false → sum_by g qs ≡ sum_by f qs

swap_step : (f g : List ℕ → ℕ) (x q : List ℕ) (qs : List (List ℕ)) (b : Bool) → same_name x q ≡ b → list_any (same_name q) qs ≡ false → (same_name x q ≡ false → g q ≡ f q) → IsSwapped f g x qs → IsSwapped f g x (q ∷ qs)
swap_step f g x q qs true e once others rest =
    let is : x ≡ q = (same_name_is x q).0 e in
    let none : list_any (same_name x) qs ≡ false = subst (λ (y : List ℕ). list_any (same_name y) qs ≡ false) (sym is) once in
    record {
      there = λ any. omega (arith, sum_by-cons g q qs, sum_by-cons f q qs, ap f is, ap g is, rest.absent none);
      absent = λ any. absurd (true≢false (sym e ∙ (or_parts (same_name x q) (list_any (same_name x) qs) any).0));
    }
swap_step f g x q qs false e once others rest =
    record {
      there = λ any. omega (arith, sum_by-cons g q qs, sum_by-cons f q qs, others e, rest.there (sym (ap (λ (b : Bool). b || list_any (same_name x) qs) e) ∙ any));
      absent = λ any. omega (arith, sum_by-cons g q qs, sum_by-cons f q qs, others e, rest.absent (or_parts (same_name x q) (list_any (same_name x) qs) any).1);
    }

swapped : (f g : List ℕ → ℕ) (x : List ℕ) (qs : List (List ℕ)) → AreApart qs → ((q : List ℕ) → same_name x q ≡ false → g q ≡ f q) → IsSwapped f g x qs
swapped f g x [] apart others = record { there = λ any. absurd (true≢false (sym any)); absent = λ any. refl }
swapped f g x (q ∷ qs) apart others = swap_step f g x q qs (same_name x q) refl apart.0 (others q) (swapped f g x qs apart.1 others)

-- ---- the pools of a past

apart_step : (b : Bool) (q : List ℕ) (qs : List (List ℕ)) → list_any (same_name q) qs ≡ b → AreApart qs → AreApart (if b then qs else q ∷ qs)
apart_step true q qs e apart = apart
apart_step false q qs e apart = (e, apart)

pools_apart : (past : List PoolEntry) → AreApart (pools_of past)
pools_apart [] = tt
pools_apart (m ∷ past) = apart_step (list_any (same_name m.pool) (pools_of past)) m.pool (pools_of past) refl (pools_apart past)

other_than : (a b : List ℕ) (qs : List (List ℕ)) (t : Bool) → same_name a b ≡ t → list_any (same_name a) qs ≡ false → list_any (same_name b) qs ≡ true → same_name a b ≡ false
other_than a b qs false e none some = e
other_than a b qs true e none some =
    absurd (true≢false (sym some ∙ subst (λ (x : List ℕ). list_any (same_name x) qs ≡ false) ((same_name_is a b).0 e) none))

-- a pool that is none of them has no entry
none_step : (q : List ℕ) (m : PoolEntry) (past : List PoolEntry) (b : Bool) → list_any (same_name m.pool) (pools_of past) ≡ b → list_any (same_name q) (if b then pools_of past else m.pool ∷ pools_of past) ≡ false
    → (list_any (same_name q) (pools_of past) ≡ false → entries_in q past ≡ []) → entries_in q (m ∷ past) ≡ []
none_step q m past true e none rest =
    past_other q m past (other_than q m.pool (pools_of past) (same_name q m.pool) refl none e) ∙ rest none
none_step q m past false e none rest =
    let both = or_parts (same_name q m.pool) (list_any (same_name q) (pools_of past)) none in
    past_other q m past both.0 ∙ rest both.1

none_in : (q : List ℕ) (past : List PoolEntry) → list_any (same_name q) (pools_of past) ≡ false → entries_in q past ≡ []
none_in q [] none = refl
none_in q (m ∷ past) none = none_step q m past (list_any (same_name m.pool) (pools_of past)) refl none (none_in q past)

-- ---- what the open rounds reserve, with one more member

module _ (h : List ℕ → Option OpenRound → ℕ) (nothing : (q : List ℕ) → h q None ≡ 0) where
  abbrev summand : List PoolEntry → List ℕ → ℕ
  summand past q = h q (open_in past q)

  abbrev reserved : List PoolEntry → ℕ
  reserved past = sum_by (summand past) (pools_of past)

  others_same : (m : PoolEntry) (past : List PoolEntry) (q : List ℕ) → same_name m.pool q ≡ false → summand (m ∷ past) q ≡ summand past q
  others_same m past q other =
      ap (λ (es : List Entry). h q (state es).open_round) (past_other q m past (apart_sym m.pool q (same_name q m.pool) refl other))

  grow_step : (m : PoolEntry) (past : List PoolEntry) (b : Bool) → list_any (same_name m.pool) (pools_of past) ≡ b
      → sum_by (summand (m ∷ past)) (if b then pools_of past else m.pool ∷ pools_of past) + summand past m.pool ≡ reserved past + summand (m ∷ past) m.pool
  grow_step m past true e =
      (swapped (summand past) (summand (m ∷ past)) m.pool (pools_of past) (pools_apart past) (others_same m past)).there e
  grow_step m past false e =
      let rest = (swapped (summand past) (summand (m ∷ past)) m.pool (pools_of past) (pools_apart past) (others_same m past)).absent e in
      let new : summand past m.pool ≡ 0 = ap (λ (es : List Entry). h m.pool (state es).open_round) (none_in m.pool past e) ∙ nothing m.pool in
      omega (arith, sum_by-cons (summand (m ∷ past)) m.pool (pools_of past), rest, new)

  pub reserved_grows : (m : PoolEntry) (past : List PoolEntry) → reserved (m ∷ past) + summand past m.pool ≡ reserved past + summand (m ∷ past) m.pool
  reserved_grows m past = grow_step m past (list_any (same_name m.pool) (pools_of past)) refl

abbrev entries_of_round : List ℕ → Option OpenRound → ℕ
entries_of_round q o = endings_entries o

pub reserved_entries_grow : (m : PoolEntry) (past : List PoolEntry) → reserved_entries (m ∷ past) + endings_entries (open_in past m.pool) ≡ reserved_entries past + endings_entries (open_in (m ∷ past) m.pool)
reserved_entries_grow m past = reserved_grows entries_of_round (λ q. refl) m past

pub reserved_bytes_grow : (m : PoolEntry) (past : List PoolEntry) → reserved_bytes (m ∷ past) + pool_endings_bytes m.pool (open_in past m.pool) ≡ reserved_bytes past + pool_endings_bytes m.pool (open_in (m ∷ past) m.pool)
reserved_bytes_grow m past = reserved_grows pool_endings_bytes (λ q. refl) m past

-- the round that is open in the pool of the member
pub open_own : (m : PoolEntry) (past : List PoolEntry) → open_in (m ∷ past) m.pool ≡ (after m.entry.caller m.entry.act m.entry.reply (state (entries_in m.pool past))).open_round
open_own m past = ap (λ (es : List Entry). (state es).open_round) (past_own m.pool m past (name_same m.pool))

-- ---- one more member

record_more : (call : Call) (r : Reply) (past : List PoolEntry) → used_bytes (answered call r ∷ past) ≡ used_bytes past + own_bytes call r
record_more call (reply.Refused w) past = omega arith
record_more call r past = omega (arith, sum_by-cons call_bytes call (accepted_calls past))

pub bytes_more : (m : PoolEntry) (past : List PoolEntry) → used_bytes (m ∷ past) ≡ used_bytes past + own_bytes (call_of m) m.entry.reply
bytes_more m past = record_more (call_of m) m.entry.reply past

-- what is open in a pool after a history is what is open after its past
open_past : (history : List PoolEntry) (pool : List ℕ) → open_in (reverse history) pool ≡ open_round_in history pool
open_past history pool = ap (λ (es : List Entry). (state es).open_round) (in_reverse pool history)

open_more : (history : List PoolEntry) (m : PoolEntry) → open_in (m ∷ reverse history) m.pool ≡ open_round_in (history ++ m ∷ []) m.pool
open_more history m = ap (λ (p : List PoolEntry). open_in p m.pool) (sym (reverse-append history (m ∷ []))) ∙ open_past (history ++ m ∷ []) m.pool

-- the reply of a past is that of its history
pub due_is : (history : List PoolEntry) (call : Call) → due_of_past (reverse history) call ≡ due_reply history call
due_is history call = ap (λ (es : List Entry). answer (state es) call.caller call.act) (in_reverse call.pool history)

pub use_law : UseLaw
use_law history m =
    let past : reverse (history ++ m ∷ []) ≡ m ∷ reverse history = reverse-append history (m ∷ []) in
    record {
      entries = omega (arith, ap used_entries past, entries_more m.entry (entries_of (reverse history)));
      bytes = ap used_bytes past ∙ bytes_more m (reverse history);
      reserved_entries = omega (arith, ap reserved_entries past, reserved_entries_grow m (reverse history), ap endings_entries (open_past history m.pool), ap endings_entries (open_more history m));
      reserved_bytes = omega (arith, ap reserved_bytes past, reserved_bytes_grow m (reverse history), ap (pool_endings_bytes m.pool) (open_past history m.pool), ap (pool_endings_bytes m.pool) (open_more history m));
      within = λ was fits. subst IsWithinLimitsPast (sym past) (fits, was);
    }

-- an abandonment takes away what the open round of its pool reserves, so this was among what is reserved
pub reserve_law : ReserveLaw
reserve_law history pool =
    let m : PoolEntry = member_of pool (entry_of 0 act.Abandon (reply.Abandoned 0)) in
    let past = reverse history in
    record {
      entries = omega (arith, reserved_entries_grow m past, ap endings_entries (open_own m past), ap endings_entries (open_past history pool));
      bytes = omega (arith, reserved_bytes_grow m past, ap (pool_endings_bytes pool) (open_own m past), ap (pool_endings_bytes pool) (open_past history pool));
    }

pub needs_law : NeedsLaw
needs_law history call =
    let past = reverse history in
    let m : PoolEntry = due_member past call in
    let later : open_in (m ∷ past) call.pool ≡ open_after (state_in history call.pool) call.caller call.act
    = open_own m past ∙ ap (λ (es : List Entry). open_after (state es) call.caller call.act) (in_reverse call.pool history) in
    record {
      entries = omega (arith, reserved_entries_grow m past, ap endings_entries later, ap endings_entries (open_past history call.pool));
      bytes = omega (arith, reserved_bytes_grow m past, ap (pool_endings_bytes call.pool) later, ap (pool_endings_bytes call.pool) (open_past history call.pool), ap (own_bytes call) (due_is history call));
    }

-- ---- calls

pub accepted_owns : (call : Call) (r : Reply) → is_no_refusal r ≡ true → own_bytes call r ≡ call_bytes call
accepted_owns call (reply.Refused w) e = absurd (true≢false (sym e))
accepted_owns call r e = refl

accepted_use : (past : List PoolEntry) → All (λ m. is_accepted m.entry ≡ true) past → used_bytes past ≡ 9 + sum_by (λ m. call_bytes (call_of m)) past
accepted_use [] all = refl
accepted_use (m ∷ past) all =
    let here = accepted_owns (call_of m) m.entry.reply (All-head (λ x. is_accepted x.entry ≡ true) m past all) in
    let rest = accepted_use past (All-tail (λ x. is_accepted x.entry ≡ true) m past all) in
    omega (arith, bytes_more m past, here, rest, sum_by-cons (λ (x : PoolEntry). call_bytes (call_of x)) m past)

replay_use : (calls : List Call) (past : List PoolEntry)
    → (used_entries (replay_after past calls) ≡ used_entries past + length calls) × (sum_by (λ m. call_bytes (call_of m)) (replay_after past calls) ≡ sum_by (λ m. call_bytes (call_of m)) past + sum_by call_bytes calls)
replay_use [] past = (omega arith, omega arith)
replay_use (call ∷ calls) past =
    let m : PoolEntry = due_member past call in
    let rest = replay_use calls (m ∷ past) in (
      omega (arith, rest.0, entries_more m.entry (entries_of past), due_is_one (entries_in call.pool past) call.caller call.act),
      omega (arith, rest.1, sum_by-cons (λ (x : PoolEntry). call_bytes (call_of x)) m past, sum_by-cons call_bytes call calls),
    )

pub calls_law : CallsLaw
calls_law calls =
    let past = replay_after [] calls in
    let same : reverse (reverse past) ≡ past = reverse-reverse past in
    let uses = replay_use calls [] in
    record {
      entries = ap used_entries same ∙ uses.0 ∙ omega arith;
      bytes = λ h.
          let all : All (λ m. is_accepted m.entry ≡ true) past = subst (All (λ m. is_accepted m.entry ≡ true)) same (all_reverse (λ m. is_accepted m.entry ≡ true) (replay_of calls) h) in
          ap used_bytes same ∙ accepted_use past all ∙ omega (arith, uses.1);
    }

-- ---- what the calls bound

own_at_most : (call : Call) (r : Reply) → own_bytes call r ≤ call_bytes call
own_at_most call (reply.Refused w) = omega arith
own_at_most call r = omega arith

bytes_few : (past : List PoolEntry) → used_bytes past ≤ 9 + sum_by (λ m. call_bytes (call_of m)) past
bytes_few [] = omega arith
bytes_few (m ∷ past) =
    omega (arith, bytes_more m past, bytes_few past, own_at_most (call_of m) m.entry.reply, sum_by-cons (λ (x : PoolEntry). call_bytes (call_of x)) m past)

pub use_bound_law : UseBoundLaw
use_bound_law history = record {
  entries = omega (arith, count_by-le-length is_counted (entries_of (reverse history)), length-map (reverse history) (λ (m : PoolEntry). m.entry), length-reverse history);
  bytes = omega (arith, bytes_few (reverse history), sum_by-IsPermutation (λ (m : PoolEntry). call_bytes (call_of m)) history (reverse history) (IsPermutation-reverse history));
}

-- the bytes of both endings of a round of a pool are those of the two records
pub records_law : RecordsLaw
records_law pool round caller number outcome discharges prices = omega (arith, discharges, prices)

-- ---- room

-- what is used, and both endings of the open rounds, are within the limits
record KeepsRoom (past : List PoolEntry) : Type 0 where
  entries : used_entries past + reserved_entries past ≤ MOST_ENTRIES
  bytes : used_bytes past + reserved_bytes past ≤ MOST_JOURNAL_BYTES

due_room : (past : List PoolEntry) (call : Call) → FitsPast past call → KeepsRoom (due_member past call ∷ past)
due_room past call fits =
    let m : PoolEntry = due_member past call in
    record {
      entries = omega (arith, fits.entries, entries_more m.entry (entries_of past), one_at_most (is_counted m.entry));
      bytes = omega (arith, fits.bytes, bytes_more m past);
    }

-- a device changes nothing
device_room : (past : List PoolEntry) (call : Call) (before counted : ℕ) → KeepsRoom past → KeepsRoom (answered call (reply.Refused (why.Device before counted)) ∷ past)
device_room past call before counted was =
    let m : PoolEntry = answered call (reply.Refused (why.Device before counted)) in
    record {
      entries = omega (arith, was.entries, entries_more m.entry (entries_of past), reserved_entries_grow m past, ap endings_entries (open_own m past));
      bytes = omega (arith, was.bytes, bytes_more m past, reserved_bytes_grow m past, ap (pool_endings_bytes call.pool) (open_own m past));
    }

room_step : (past : List PoolEntry) (counted : ℕ) (call : Call) (r : Reply) → IsReply counted (due_of_past past call) r → FitsPast past call → KeepsRoom past
    → KeepsRoom (answered call r ∷ past)
room_step past counted call r (replied e) fits was =
    subst (λ (x : Reply). KeepsRoom (answered call x ∷ past)) (sym e) (due_room past call fits)
room_step past counted call r (failed device) fits was =
    subst (λ (x : Reply). KeepsRoom (answered call x ∷ past)) (sym device.is) (device_room past call device.before device.after was)

past_room : (past : List PoolEntry) → IsLegalPast past → IsWithinLimitsPast past → KeepsRoom past
past_room [] legal within = record { entries = omega arith; bytes = omega arith }
past_room (m ∷ past) legal within = room_step past _ (call_of m) m.entry.reply legal.0 within.0 (past_room past legal.1 within.1)

pub room_law : RoomLaw
room_law history legal within =
    let room = past_room (reverse history) legal within in
    record { entries = room.entries; bytes = room.bytes }

-- ---- the endings

abbrev call_in : ℕ → List ℕ → Act → Call
call_in caller pool a = record { caller = caller; pool = pool; act = a }

-- where a round is open, both its endings name its pool
open_endings : (pool : List ℕ) (o : Option OpenRound) → 2 ≤ endings_entries o → pool_endings_bytes pool o ≡ endings_bytes o + 2 * pool_bytes pool
open_endings pool None some = absurd (omega (arith, some))
open_endings pool (Some round) some = refl

-- a call that ends the open round of its pool, and whose record both endings cover, fits
ending_fits : (past : List PoolEntry) (call : Call) (r : Reply) → KeepsRoom past → due_of_past past call ≡ r → (after call.caller call.act r (state (entries_in call.pool past))).open_round ≡ None
    → 2 ≤ endings_entries (open_in past call.pool) → own_bytes call r ≤ call_bytes call → record_length_of call.act ≤ endings_bytes (open_in past call.pool) → FitsPast past call
ending_fits past call r room e ends some own covered =
    let m : PoolEntry = due_member past call in
    let ended : open_in (m ∷ past) call.pool ≡ None = open_own m past ∙ ap (λ (x : Reply). (after call.caller call.act x (state (entries_in call.pool past))).open_round) e ∙ ends in
    record {
      entries = omega (arith, room.entries, reserved_entries_grow m past, ap endings_entries ended, some);
      bytes = omega (arith, room.bytes, reserved_bytes_grow m past, ap (pool_endings_bytes call.pool) ended, open_endings call.pool (open_in past call.pool) some, ap (own_bytes call) e, own, covered);
    }

publication_fits : (past : List PoolEntry) (caller number total : ℕ) (pool : List ℕ) (outcome : OutcomeView) → KeepsRoom past
    → due_of_past past (call_in caller pool (act.Publish number outcome)) ≡ reply.Published total → FitsPast past (call_in caller pool (act.Publish number outcome))
publication_fits past caller number total pool outcome room e =
    let covered = publication_covered (state (entries_in pool past)) caller number total outcome e in
    ending_fits past (call_in caller pool (act.Publish number outcome)) (reply.Published total) room e refl covered.0 (omega arith) covered.1

abandonment_fits : (past : List PoolEntry) (caller number : ℕ) (pool : List ℕ) → KeepsRoom past
    → due_of_past past (call_in caller pool act.Abandon) ≡ reply.Abandoned number → FitsPast past (call_in caller pool act.Abandon)
abandonment_fits past caller number pool room e =
    let was = abandoned_open (open_in past pool) caller number e in
    ending_fits past (call_in caller pool act.Abandon) (reply.Abandoned number) room e refl was.0 (omega arith) was.1

pub endings_law : EndingsLaw
endings_law history legal within =
    let room = past_room (reverse history) legal within in
    record {
      publication = λ caller number total pool outcome e.
          publication_fits (reverse history) caller number total pool outcome room (due_is history (call_in caller pool (act.Publish number outcome)) ∙ e);
      abandonment = λ caller number pool e.
          abandonment_fits (reverse history) caller number pool room (due_is history (call_in caller pool act.Abandon) ∙ e);
    }

pub full_law : FullLaw
full_law history call =
    let test = fits_test (needed_entries (reverse history) call) (needed_bytes (reverse history) call) in
    (λ e. let h = test.0 e in record { entries = h.0; bytes = h.1 }, λ h. test.1 (h.entries, h.bytes))
