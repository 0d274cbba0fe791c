-- What the members of a history add to what it uses and its open rounds reserve, and what a call needs at most.
use Rattle.std.specs.Prelude.{cond, not, reverse, if◌then◌else◌, ◌&&◌, Option, Some, None}
use Rattle.std.specs.List.{sum_by}
use Rattle.std.proofs.Common.{◌≡◌, ◌∙◌, ℕ, ◌+◌, ◌*◌, ◌≤◌, Bool, true, false, List, [], ◌∷◌, ◌++◌, All, length, refl, sym, ap, subst, append_assoc, arith}
use Rattle.std.proofs.lemmas.Bool.{and_parts}
use Rattle.std.proofs.lemmas.List.{append-nil, map-append, reverse-append}
use Rattle.std.proofs.lemmas.List.Elements.{All-append, All-cons, All-nil}
use Rattle.std.proofs.lemmas.List.Sums.{sum_by-append, sum_by-cons}
use Rattle.limited_book.specs.setoff_model.specs.Names.{is_name}
use Rattle.limited_book.specs.setoff_model.proofs.Lists.{All-first}
use Rattle.limited_book.specs.setoff_model.proofs.Padded.{length-name}
use Rattle.limited_book.specs.claim_history.specs.declared.act.Act.{Act}
use Rattle.limited_book.specs.claim_history.specs.declared.act.Act.TheVariants as act
use Rattle.limited_book.specs.claim_history.specs.declared.call.Call.{Call}
use Rattle.limited_book.specs.claim_history.specs.declared.call.PoolEntry.{PoolEntry}
use Rattle.limited_book.specs.claim_history.specs.declared.entry.Entry.{Entry}
use Rattle.limited_book.specs.claim_history.specs.declared.entry.Reply.{Reply}
use Rattle.limited_book.specs.claim_history.specs.declared.entry.Reply.TheVariants as reply
use Rattle.limited_book.specs.claim_history.specs.Acts.{is_amount, is_claim_amount, is_close, is_day, is_filing, is_key, is_registration, is_request, is_valid}
use Rattle.limited_book.specs.claim_history.specs.History.{IsReply, answer, failed, is_no_refusal, last_count, replied}
use Rattle.limited_book.specs.claim_history.specs.Needs.{endings_bytes, endings_entries, endings_with, is_counted, is_of_device, record_length_of}
use Rattle.limited_book.specs.claim_history.specs.Pools.{AreValid, IsLegal, IsLegalPast, MayFollow, answered, call_of, due_reply, entries_in, entries_of, is_main, open_round_in, state_in, with_due}
use Rattle.limited_book.specs.claim_history.specs.PoolNeeds.{NeedsOf, UseGrows, call_bytes, needed_bytes_of, needed_entries_of, own_bytes, pool_bytes, pool_endings_bytes, reserved_bytes_of, reserved_entries_of, used_bytes_of, used_entries_of}
use Rattle.limited_book.specs.claim_history.specs.PoolRounds.{CutIsBounded}
use Rattle.limited_book.specs.claim_history.specs.States.{OpenRound, State, after, open_as, state, state_of}
use Rattle.limited_book.specs.claim_history.proofs.Agreement.{cut_law}
use Rattle.limited_book.specs.claim_history.proofs.Greatest.{reply_published}
use Rattle.limited_book.specs.claim_history.proofs.OneCut.{open_cut_is}
use Rattle.limited_book.specs.claim_history.proofs.PoolCuts.{cut_bound_law}
use Rattle.limited_book.specs.claim_history.proofs.PoolRoom.{due_is, needs_law, use_law}
use Rattle.limited_book.specs.claim_history.proofs.Pools.{in_own, join_law, legal_in}
use Rattle.limited_book.specs.claim_history.proofs.Room.{one_if, publication_covered}
use Rattle.limited_book.specs.act_bodies.proofs.Lengths.{short_claim, short_key}

-- ---- records

-- the longest record of a request
pub short_record : (a : Act) → is_request a ≡ true → record_length_of a ≤ 73
short_record (act.Firm firm) h = let s = length-name firm h in omega arith
short_record (act.File key debtor amount due) h =
    let n = and_parts (is_key key && is_name debtor && is_claim_amount amount) (is_day due) h in
    let m = and_parts (is_key key && is_name debtor) (is_claim_amount amount) n.0 in
    let s = short_claim key debtor m.0 in
    omega (arith, s.0, s.1, s.2)
short_record (act.Confirm key debtor None) h =
    let s = short_claim key debtor (and_parts (is_key key && is_name debtor) true h).0 in
    omega (arith, s.0, s.1, s.2)
short_record (act.Confirm key debtor (Some agreed)) h =
    let s = short_claim key debtor (and_parts (is_key key && is_name debtor) (is_claim_amount agreed) h).0 in
    omega (arith, s.0, s.1, s.2)
short_record (act.Dispute key debtor) h = let s = short_claim key debtor h in omega (arith, s.0, s.1, s.2)
short_record (act.Withdraw key) h = let s = short_key key h in omega (arith, s.0, s.1)
short_record (act.Receive key amount) h = let s = short_key key (and_parts (is_key key) (is_claim_amount amount) h).0 in omega (arith, s.0, s.1)
short_record (act.Fund firm amount) h = let s = length-name firm (and_parts (is_name firm) (is_claim_amount amount) h).0 in omega arith
short_record (act.Draw firm amount) h = let s = length-name firm (and_parts (is_name firm) (is_claim_amount amount) h).0 in omega arith
short_record (act.Limit firm credit ceiling) h =
    let m = and_parts (is_name firm && is_amount credit) (is_amount ceiling) h in
    let s = length-name firm (and_parts (is_name firm) (is_amount credit) m.0).0 in
    omega arith
short_record (act.Offer firm amount) h = let s = length-name firm (and_parts (is_name firm) (is_amount amount) h).0 in omega arith
short_record (act.Position firm) h = let s = length-name firm h in omega arith
short_record (act.Close kind horizon) h = omega arith
short_record act.Abandon h = omega arith
short_record (act.Publish round outcome) h = absurd (cc h)

pub request_valid : (a : Act) → is_request a ≡ true → is_valid a ≡ true
request_valid (act.Publish round outcome) h = absurd (cc h)
request_valid a h = h

pub short_pool : (pool : List ℕ) → is_name pool ≡ true → pool_bytes pool ≤ 18
short_pool pool h = by_test (is_main pool) where
  by_test : (b : Bool) → (if b then 0 else 2 + length pool) ≤ 18
  by_test true = omega arith
  by_test false = let s = length-name pool h in omega arith

pub own_le : (call : Call) (r : Reply) → own_bytes call r ≤ call_bytes call
own_le call r = by_test (is_no_refusal r) where
  by_test : (b : Bool) → (if b then call_bytes call else 0) ≤ call_bytes call
  by_test true = omega arith
  by_test false = omega arith

-- ---- the round that is open after a reply

-- only a Close opens one
entries_open : (s : State) (caller : ℕ) (a : Act) → endings_entries (open_as caller a s).open_round ≤ cond (is_close a) 2 0 + endings_entries s.open_round
entries_open s caller (act.Close kind horizon) = omega arith
entries_open s caller a = omega arith

entries_after : (s : State) (caller : ℕ) (a : Act) (r : Reply) → endings_entries (after caller a r s).open_round ≤ cond (is_close a) 2 0 + endings_entries s.open_round
entries_after s caller a (reply.Opened number) = entries_open s caller a
entries_after s caller a r = omega arith

module _ (pool : List ℕ) (most : ℕ) where
  -- each open round has few claims and firms
  abbrev IsFew : Option OpenRound → Type 0
  IsFew o = endings_bytes o ≤ most

  few_endings : (o : Option OpenRound) → IsFew o → pool_endings_bytes pool o ≤ most + 2 * pool_bytes pool
  few_endings None few = omega arith
  few_endings (Some round) few = omega (arith, few)

  bytes_open : (s : State) (caller : ℕ) (a : Act) → IsFew (open_as caller a s).open_round
      → pool_endings_bytes pool (open_as caller a s).open_round ≤ cond (is_close a) (most + 2 * pool_bytes pool) 0 + pool_endings_bytes pool s.open_round
  bytes_open s caller (act.Close kind horizon) few = omega (arith, few_endings (open_as caller (act.Close kind horizon) s).open_round few)
  bytes_open s caller a few = omega arith

  bytes_after : (s : State) (caller : ℕ) (a : Act) (r : Reply) → IsFew (after caller a r s).open_round
      → pool_endings_bytes pool (after caller a r s).open_round ≤ cond (is_close a) (most + 2 * pool_bytes pool) 0 + pool_endings_bytes pool s.open_round
  bytes_after s caller a (reply.Opened number) few = bytes_open s caller a few
  bytes_after s caller a r few = omega arith

-- what a publication ends covers its record
covered : (s : State) (counted caller : ℕ) (a : Act) (r : Reply) (total : ℕ) → IsReply counted (answer s caller a) r → r ≡ reply.Published total
    → (2 ≤ endings_entries s.open_round) × (record_length_of a ≤ endings_bytes s.open_round)
covered s counted caller a r total (replied e) is =
    let p = reply_published s counted caller a r total (replied e) is in
    let c = publication_covered s caller p.round.cut.round total p.outcome (ap (answer s caller) (sym p.asks) ∙ sym e ∙ is) in
    (c.0, subst (λ (x : Act). record_length_of x ≤ endings_bytes s.open_round) (sym p.asks) c.1)
covered s counted caller a r total (failed device) is = absurd (let e = sym device.is ∙ is in cc)

some_endings : (pool : List ℕ) (o : Option OpenRound) → 2 ≤ endings_entries o → pool_endings_bytes pool o ≡ endings_bytes o + 2 * pool_bytes pool
some_endings pool None some = absurd (omega (arith, some))
some_endings pool (Some round) some = refl

-- ---- what a member adds

abbrev pub is_published : Reply → Bool
is_published (reply.Published total) = true
is_published _ = false

-- itself, and both endings of the round that a Close may open; a publication takes no more than its round reserved
abbrev pub entry_use : PoolEntry → ℕ
entry_use m = cond (is_published m.entry.reply) 0 (one_if (is_counted m.entry)) + cond (is_close m.entry.act) 2 0

-- the same of the bytes, where no round has more than so many
abbrev pub byte_use : ℕ → PoolEntry → ℕ
byte_use most m = cond (is_published m.entry.reply) 0 (own_bytes (call_of m) m.entry.reply) + cond (is_close m.entry.act) (most + 2 * pool_bytes m.pool) 0

abbrev pub filing_use : PoolEntry → ℕ
filing_use m = one_if (is_filing m.entry.act)

abbrev pub firm_use : PoolEntry → ℕ
firm_use m = one_if (is_registration m.entry.act)

entries_step : (s : State) (counted caller : ℕ) (a : Act) (r : Reply) → IsReply counted (answer s caller a) r
    → one_if (not (is_of_device r)) + endings_entries (after caller a r s).open_round ≤ cond (is_published r) 0 (one_if (not (is_of_device r))) + cond (is_close a) 2 0 + endings_entries s.open_round
entries_step s counted caller a (reply.Published total) due = omega (arith, (covered s counted caller a (reply.Published total) total due refl).0)
entries_step s counted caller a r due = omega (arith, entries_after s caller a r)

bytes_step : (most : ℕ) (s : State) (counted : ℕ) (call : Call) (r : Reply) → IsReply counted (answer s call.caller call.act) r → endings_bytes (after call.caller call.act r s).open_round ≤ most
    → own_bytes call r + pool_endings_bytes call.pool (after call.caller call.act r s).open_round
    ≤ cond (is_published r) 0 (own_bytes call r) + cond (is_close call.act) (most + 2 * pool_bytes call.pool) 0 + pool_endings_bytes call.pool s.open_round
bytes_step most s counted call (reply.Published total) due few =
    let c = covered s counted call.caller call.act (reply.Published total) total due refl in
    omega (arith, c.1, some_endings call.pool s.open_round c.0)
bytes_step most s counted call r due few = omega (arith, bytes_after call.pool most s call.caller call.act r few)

-- ---- a longer history

-- the round that is open in the pool of one more member
open_more : (history : List PoolEntry) (m : PoolEntry) → open_round_in (history ++ m ∷ []) m.pool ≡ (after m.entry.caller m.entry.act m.entry.reply (state_in history m.pool)).open_round
open_more history m =
    ap (λ (es : List Entry). (state_of es).open_round) (in_own history m.pool m.entry)
    ∙ ap (λ (es : List Entry). (state es).open_round) (reverse-append (entries_in m.pool history) (m.entry ∷ []))

legal_rest : (later past : List PoolEntry) → IsLegalPast (later ++ past) → IsLegalPast past
legal_rest [] past legal = legal
legal_rest (m ∷ later) past legal = legal_rest later past legal.1

-- the first members of a legal history are one, and so are their acts valid
pub legal_first : (first later : List PoolEntry) → IsLegal (first ++ later) → IsLegal first
legal_first first later legal = legal_rest (reverse later) (reverse first) (subst IsLegalPast (reverse-append first later) legal)

pub valid_first : (first later : List PoolEntry) → AreValid (first ++ later) → AreValid first
valid_first first later valid =
    All-first (λ (e : Entry). is_valid e.act ≡ true) (entries_of first) (entries_of later) (subst (All (λ (e : Entry). is_valid e.act ≡ true)) (map-append (λ (m : PoolEntry). m.entry) first later) valid)

may_follow : (history : List PoolEntry) (m : PoolEntry) → IsLegal (history ++ m ∷ []) → MayFollow history m
may_follow history m legal =
    subst (λ (due : Reply). IsReply (last_count (entries_of (reverse history))) due m.entry.reply) (due_is history (call_of m))
    (subst IsLegalPast (reverse-append history (m ∷ [])) legal).0

module _ (claims firms : ℕ) where
  -- as many claims are filed and firms registered
  pub record IsSmall (history : List PoolEntry) : Type 0 where
    pub legal : IsLegal history
    pub valid : AreValid history
    pub claims_few : sum_by filing_use history ≤ claims
    pub firms_few : sum_by firm_use history ≤ firms

  pub small_first : (first later : List PoolEntry) → IsSmall (first ++ later) → IsSmall first
  small_first first later small = record {
    legal = legal_first first later small.legal;
    valid = valid_first first later small.valid;
    claims_few = omega (arith, small.claims_few, sum_by-append filing_use first later);
    firms_few = omega (arith, small.firms_few, sum_by-append firm_use first later);
  }

  few_of : (history : List PoolEntry) (pool : List ℕ) (o : Option OpenRound) → IsSmall history → open_round_in history pool ≡ o → endings_bytes o ≤ endings_with claims firms
  few_of history pool None small is = omega arith
  few_of history pool (Some round) small is =
      let own = cut_law (entries_in pool history) (legal_in history pool small.legal) round is in
      let cut : CutIsBounded history round.cut = cut_bound_law history pool round.cut.round round.cut small.legal small.valid (open_cut_is (entries_in pool history) round own) in
      omega (arith, cut.claims, cut.parties, small.claims_few, small.firms_few)

  few_after : (history : List PoolEntry) (m : PoolEntry) → IsSmall (history ++ m ∷ []) → endings_bytes (after m.entry.caller m.entry.act m.entry.reply (state_in history m.pool)).open_round ≤ endings_with claims firms
  few_after history m small = few_of (history ++ m ∷ []) m.pool _ small (open_more history m)

  abbrev most : ℕ
  most = endings_with claims firms

  entries_one : (history : List PoolEntry) (m : PoolEntry) → IsSmall (history ++ m ∷ [])
      → used_entries_of (history ++ m ∷ []) + reserved_entries_of (history ++ m ∷ []) ≤ used_entries_of history + reserved_entries_of history + entry_use m
  entries_one history m small =
      let grows : UseGrows history m = use_law history m in
      omega (
        arith,
        grows.entries,
        grows.reserved_entries,
        ap endings_entries (open_more history m),
        entries_step (state_in history m.pool) _ m.entry.caller m.entry.act m.entry.reply (may_follow history m small.legal),
      )

  bytes_one : (history : List PoolEntry) (m : PoolEntry) → IsSmall (history ++ m ∷ [])
      → used_bytes_of (history ++ m ∷ []) + reserved_bytes_of (history ++ m ∷ []) ≤ used_bytes_of history + reserved_bytes_of history + byte_use most m
  bytes_one history m small =
      let grows : UseGrows history m = use_law history m in
      omega (
        arith,
        grows.bytes,
        grows.reserved_bytes,
        ap (pool_endings_bytes m.pool) (open_more history m),
        bytes_step most (state_in history m.pool) _ (call_of m) m.entry.reply (may_follow history m small.legal) (few_after history m small),
      )

  one_first : (before later : List PoolEntry) (m : PoolEntry) → IsSmall (before ++ m ∷ later) → IsSmall ((before ++ m ∷ []) ++ later)
  one_first before later m small = subst IsSmall (sym (append_assoc before (m ∷ []) later)) small

  -- what a history uses and reserves grows by what its members add
  pub entries_grow : (before more : List PoolEntry) → IsSmall (before ++ more) → used_entries_of (before ++ more) + reserved_entries_of (before ++ more) ≤ used_entries_of before + reserved_entries_of before + sum_by entry_use more
  entries_grow before [] small = omega (arith, ap used_entries_of (append-nil before), ap reserved_entries_of (append-nil before))
  entries_grow before (m ∷ more) small =
      let parts = append_assoc before (m ∷ []) more in
      let now = one_first before more m small in
      omega (
        arith,
        ap used_entries_of parts,
        ap reserved_entries_of parts,
        entries_grow (before ++ m ∷ []) more now,
        entries_one before m (small_first (before ++ m ∷ []) more now),
        sum_by-cons entry_use m more,
      )

  pub bytes_grow : (before more : List PoolEntry) → IsSmall (before ++ more) → used_bytes_of (before ++ more) + reserved_bytes_of (before ++ more) ≤ used_bytes_of before + reserved_bytes_of before + sum_by (byte_use most) more
  bytes_grow before [] small = omega (arith, ap used_bytes_of (append-nil before), ap reserved_bytes_of (append-nil before))
  bytes_grow before (m ∷ more) small =
      let parts = append_assoc before (m ∷ []) more in
      let now = one_first before more m small in
      omega (
        arith,
        ap used_bytes_of parts,
        ap reserved_bytes_of parts,
        bytes_grow (before ++ m ∷ []) more now,
        bytes_one before m (small_first (before ++ m ∷ []) more now),
        sum_by-cons (byte_use most) m more,
      )

  -- ---- a call that is asked after a history

  -- beside what is used and reserved it needs itself, and of a Close both endings of a round
  pub needs_entries : (history : List PoolEntry) (call : Call) → needed_entries_of history call ≤ used_entries_of history + reserved_entries_of history + (1 + cond (is_close call.act) 2 0)
  needs_entries history call =
      let needs : NeedsOf history call = needs_law history call in
      omega (arith, needs.entries, entries_after (state_in history call.pool) call.caller call.act (due_reply history call))

  pub needs_bytes : (history : List PoolEntry) (call : Call) → IsSmall (with_due history call)
      → needed_bytes_of history call ≤ used_bytes_of history + reserved_bytes_of history + (call_bytes call + cond (is_close call.act) (most + 2 * pool_bytes call.pool) 0)
  needs_bytes history call small =
      let needs : NeedsOf history call = needs_law history call in
      let few = few_after history (answered call (due_reply history call)) small in
      omega (
        arith,
        needs.bytes,
        own_le call (due_reply history call),
        bytes_after call.pool most (state_in history call.pool) call.caller call.act (due_reply history call) few,
      )

  -- with its member the history is one of few claims and firms
  pub small_due : (history : List PoolEntry) (call : Call) → IsLegal history → AreValid history → is_valid call.act ≡ true → sum_by filing_use history + one_if (is_filing call.act) ≤ claims
      → sum_by firm_use history + one_if (is_registration call.act) ≤ firms → IsSmall (with_due history call)
  small_due history call legal valid is claims_few firms_few =
      let m = answered call (due_reply history call) in
      let Valid : Entry → Type 0 = λ e. is_valid e.act ≡ true in
      record {
        legal = join_law.legal history m legal (replied refl);
        valid = subst (All Valid) (sym (map-append (λ (x : PoolEntry). x.entry) history (m ∷ []))) (All-append Valid (entries_of history) (m.entry ∷ []) valid (All-cons Valid m.entry [] is (All-nil Valid)));
        claims_few = omega (arith, claims_few, sum_by-append filing_use history (m ∷ []), sum_by-cons filing_use m []);
        firms_few = omega (arith, firms_few, sum_by-append firm_use history (m ∷ []), sum_by-cons firm_use m []);
      }
