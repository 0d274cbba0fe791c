-- What a call needs, as the books find it.
use Rattle.std.specs.Prelude.{Result, IfOk, IfErr, Option, reverse, ◌-◌}
use Rattle.std.proofs.Common.{◌≡◌, ℕ, ◌+◌, ◌*◌, true, false, List, [], ◌∷◌, ◌++◌, length, refl, sym, ◌∙◌, ap, ap₂, true≢false, arith}
use Rattle.std.proofs.lemmas.List.{reverse-append}
use Rattle.std.proofs.lemmas.Result.{IfOk-weaker, MatchResult-weaker}
use Rattle.setoff_model.specs.CutView.{CutView}
use Rattle.claim_book.specs.claim_history.specs.declared.act.Act.{Act}
use Rattle.claim_book.specs.claim_history.specs.declared.entry.Reply.{Reply}
use Rattle.claim_book.specs.claim_history.specs.declared.entry.Reply.TheVariants as reply
use Rattle.claim_book.specs.claim_history.specs.declared.call.Call.{Call}
use Rattle.claim_book.specs.claim_history.specs.declared.call.PoolEntry.{PoolEntry}
use Rattle.claim_book.specs.claim_history.specs.declared.record_bytes.TheConstants.{RECORD_HEAD, CLOSE_BODY}
use Rattle.claim_book.specs.claim_history.specs.Cut.{cut_of}
use Rattle.claim_book.specs.claim_history.specs.declared.entry.Entry.{Entry}
use Rattle.claim_book.specs.claim_history.specs.States.{OpenRound, State, after, state}
use Rattle.claim_book.specs.claim_history.specs.History.{is_opening, replied}
use Rattle.claim_book.specs.claim_history.specs.Needs.{endings_with, endings_entries, open_after}
use Rattle.claim_book.specs.claim_history.specs.Pools.{due_reply, entries_in, ledger_in, open_round_in, state_in}
use Rattle.claim_book.specs.claim_history.specs.PoolNeeds.{is_full, needed_bytes_of, needed_entries_of, open_in, own_bytes, pool_bytes, pool_endings_bytes, reserved_bytes_of, reserved_entries_of, used_bytes_of, used_entries_of}
use Rattle.claim_book.specs.claim_history.specs.PoolRounds.{IsCutDue}
use Rattle.claim_book.specs.claim_history.proofs.Replies.{IsOpening, opens}
use Rattle.claim_book.specs.claim_history.proofs.Pools.{in_reverse}
use Rattle.claim_book.specs.claim_history.proofs.PoolRoom.{needs_law, open_own, reserve_law}
use Rattle.limited_book.specs.declared.room.Room.{Room}
use Rattle.limited_book.specs.declared.room.Room.TheVariants.{Entries, Bytes}
use Rattle.limited_book.specs.declared.full.Full.{Full}
use Rattle.limited_book.specs.Limited.{IsFull, IsOver, is_over, is_over_one, lacks, needed_of, entries_or_bytes, round_after}

-- ---- a call that opens no round

after_reply : (caller : ℕ) (a : Act) (r : Reply) (s : State) → is_opening r ≡ false → (after caller a r s).open_round ≡ round_after r s.open_round
after_reply caller a (reply.Opened round) s e = absurd (true≢false e)
after_reply caller a r s e = refl

-- what is open after a member that opens no round
pub open_then : (history : List PoolEntry) (m : PoolEntry) → is_opening m.entry.reply ≡ false
    → open_round_in (history ++ m ∷ []) m.pool ≡ round_after m.entry.reply (open_round_in history m.pool)
open_then history m no_opening =
    let past = reverse history in
    let open_of : List Entry → Option OpenRound = λ es. (state es).open_round in
    sym (ap open_of (in_reverse m.pool (history ++ m ∷ []))) ∙ ap (λ (p : List PoolEntry). open_in p m.pool) (reverse-append history (m ∷ []))
    ∙ open_own m past ∙ after_reply m.entry.caller m.entry.act m.entry.reply (state (entries_in m.pool past)) no_opening
    ∙ ap (λ (es : List Entry). round_after m.entry.reply (state es).open_round) (in_reverse m.pool history)

module _ (history : List PoolEntry) (call : Call) (r : Reply) (due : r ≡ due_reply history call) (no_opening : is_opening r ≡ false) where
  -- what is open after the one reply
  later_is : open_after (state_in history call.pool) call.caller call.act ≡ round_after r (open_round_in history call.pool)
  later_is =
      ap (λ (x : Reply). (after call.caller call.act x (state_in history call.pool)).open_round) (sym due)
      ∙ after_reply call.caller call.act r (state_in history call.pool) no_opening

  pub entries_needed : (used rest : ℕ) → used ≡ used_entries_of history
      → rest ≡ reserved_entries_of history - endings_entries (open_round_in history call.pool) + endings_entries (round_after r (open_round_in history call.pool))
      → used + 1 + rest ≡ needed_entries_of history call
  entries_needed used rest used_is rest_is =
      omega (arith, (needs_law history call).entries, (reserve_law history call.pool).entries, used_is, rest_is, ap endings_entries later_is)

  pub bytes_needed : (used own rest : ℕ) → used ≡ used_bytes_of history → own ≡ own_bytes call r
      → rest ≡ reserved_bytes_of history - pool_endings_bytes call.pool (open_round_in history call.pool) + pool_endings_bytes call.pool (round_after r (open_round_in history call.pool))
      → used + own + rest ≡ needed_bytes_of history call
  bytes_needed used own rest used_is own_is rest_is =
      omega (arith, (needs_law history call).bytes, (reserve_law history call.pool).bytes, used_is, own_is, ap (own_bytes call) due, rest_is, ap (pool_endings_bytes call.pool) later_is)

-- ---- a Close that opens a round

-- the bytes of both endings of the round of a cut, but for the name of its pool
abbrev cut_bytes : CutView → ℕ
cut_bytes cut = endings_with (length cut.claims) (length cut.parties)

module _ (history : List PoolEntry) (call : Call) (is : is_opening (due_reply history call) ≡ true) where
  pub opening : IsOpening (state_in history call.pool) call.act (due_reply history call)
  opening = opens (state_in history call.pool) 0 call.caller call.act (due_reply history call) (replied refl) is

  -- the cut that is due is that of the Close
  pub cut_is : (cut : CutView) → IsCutDue history call cut → cut ≡ cut_of ((state_in history call.pool).openings + 1) (ledger_in history call.pool) opening.kind opening.horizon
  cut_is cut cut_due = cut_due opening.kind opening.horizon opening.act_is

  pub opening_entries : (used reserved now later : ℕ) → used ≡ used_entries_of history → reserved ≡ reserved_entries_of history
      → now ≡ endings_entries (open_round_in history call.pool) → later ≡ 2 → used + 1 + (reserved - now + later) ≡ needed_entries_of history call
  opening_entries used reserved now later used_is reserved_is now_is later_are =
      let two : endings_entries (open_after (state_in history call.pool) call.caller call.act) ≡ 2 =
      ap₂ (λ (x : Reply) (a : Act). endings_entries (after call.caller a x (state_in history call.pool)).open_round) opening.reply_is opening.act_is in
      omega (arith, (needs_law history call).entries, (reserve_law history call.pool).entries, used_is, reserved_is, now_is, later_are, two)

  pub opening_bytes : (cut : CutView) (used own reserved now later : ℕ) → IsCutDue history call cut → used ≡ used_bytes_of history
      → own ≡ RECORD_HEAD + CLOSE_BODY + pool_bytes call.pool → reserved ≡ reserved_bytes_of history
      → now ≡ pool_endings_bytes call.pool (open_round_in history call.pool) → later ≡ cut_bytes cut + 2 * pool_bytes call.pool
      → used + own + (reserved - now + later) ≡ needed_bytes_of history call
  opening_bytes cut used own reserved now later cut_due used_is own_is reserved_is now_is later_are =
      let due_cut : CutView = cut_of ((state_in history call.pool).openings + 1) (ledger_in history call.pool) opening.kind opening.horizon in
      let opened_bytes : pool_endings_bytes call.pool (open_after (state_in history call.pool) call.caller call.act) ≡ cut_bytes due_cut + 2 * pool_bytes call.pool =
      ap₂ (λ (x : Reply) (a : Act). pool_endings_bytes call.pool (after call.caller a x (state_in history call.pool)).open_round) opening.reply_is opening.act_is in
      let record_is : own_bytes call (due_reply history call) ≡ RECORD_HEAD + CLOSE_BODY + pool_bytes call.pool =
      ap₂ (λ (x : Reply) (a : Act). own_bytes (record { caller = call.caller; pool = call.pool; act = a }) x) opening.reply_is opening.act_is in
      omega (arith, (needs_law history call).bytes, (reserve_law history call.pool).bytes, used_is, own_is, reserved_is, now_is, later_are, opened_bytes, record_is, ap cut_bytes (cut_is cut cut_due))

-- ---- the answer

module _ (history : List PoolEntry) (call : Call) (entries bytes : ℕ) (e : entries ≡ needed_entries_of history call) (f : bytes ≡ needed_bytes_of history call) where
  pub fits_so : (r : Result (Unit {0}) Full) → IfOk r (λ _. is_over_one entries bytes ≡ false) → IfOk r (λ _. is_full history call ≡ false)
  fits_so r h = IfOk-weaker r (λ _. is_over_one entries bytes ≡ false) (λ _. is_full history call ≡ false) (λ x over. ap₂ is_over_one (sym e) (sym f) ∙ over) h

  lacks_is : (what : Room) → lacks what history call ≡ is_over what (needed_entries_of history call) (needed_bytes_of history call)
  lacks_is Entries = refl
  lacks_is Bytes = refl

  needed_is : (what : Room) → needed_of what history call ≡ entries_or_bytes what (needed_entries_of history call) (needed_bytes_of history call)
  needed_is Entries = refl
  needed_is Bytes = refl

  full_is : (full : Full) → IsOver entries bytes full → IsFull history call full
  full_is full over = record {
    lacks_it = lacks_is full.what ∙ ap₂ (is_over full.what) (sym e) (sym f) ∙ over.over;
    needed = over.needed ∙ ap₂ (entries_or_bytes full.what) e f ∙ sym (needed_is full.what);
    limit = over.limit;
  }

  pub full_so : (r : Result (Unit {0}) Full) → IfErr r (IsOver entries bytes) → IfErr r (IsFull history call)
  full_so r h = MatchResult-weaker r h (λ x t. t) (λ full over. full_is full over)
