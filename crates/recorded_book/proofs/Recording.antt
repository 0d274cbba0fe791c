-- What a recorder keeps over an append.
use Rattle.std.proofs.Common.{◌≡◌, inl, inr, ⊎_elim, ℕ, ◌+◌, ◌≤◌, max, Bool, true, false, if◌then◌else◌, List, [], ◌∷◌, ◌++◌, length, reverse, IsTrue, refl, sym, ◌∙◌, ap, subst, arith, length-append}
use Rattle.std.proofs.lemmas.List.{append-nil, reverse-append}
use Rattle.std.proofs.lemmas.List.Elements.{All-push}
use Rattle.round_journal.specs.disk_model.specs.Calls.{Seen, GoesOn, Passes}
use Rattle.round_journal.specs.disk_model.proofs.Moments.{passes_still, passes_on, passes_wide}
use Rattle.limited_book.specs.claim_history.specs.declared.call.Call.{Call}
use Rattle.limited_book.specs.claim_history.specs.declared.call.PoolEntry.{PoolEntry}
use Rattle.limited_book.specs.claim_history.specs.declared.entry.Reply.{Reply}
use Rattle.limited_book.specs.claim_history.specs.declared.entry.Reply.TheVariants as reply
use Rattle.limited_book.specs.claim_history.specs.declared.entry.Why.TheVariants as why
use Rattle.limited_book.specs.claim_history.specs.History.{is_accepted, is_no_refusal, second_count, last_count}
use Rattle.limited_book.specs.claim_history.specs.Needs.{is_of_device, body_length_of}
use Rattle.limited_book.specs.claim_history.specs.PoolNeeds.{call_bytes, own_bytes, pool_bytes}
use Rattle.limited_book.specs.claim_history.proofs.PoolRoom.{accepted_owns, use_law}
use Rattle.limited_book.specs.act_bodies.specs.Bodies.{is_keepable, body_of}
use Rattle.round_journal.specs.Bytes.{StandsFor}
use Rattle.round_journal.specs.Kept.{JournalView, IsKept, IsLast, HoldsMore}
use Rattle.round_journal.proofs.Bodies.{length-one}
use Rattle.round_journal.specs.Appends.{HasAppended, HasNotAppended, HasTried}
use Rattle.limited_book.specs.claim_history.specs.Pools.{accepted_calls, answered, call_of, entries_of}
use Rattle.recorded_book.specs.Calls.{bodies_of_calls, HoldsDuring}
use Rattle.recorded_book.specs.Moments.{HoldsAt, HasMoments}
use Rattle.recorded_book.specs.Devices.{IsBetween, AreBetween}
use Rattle.recorded_book.specs.Recorded.{RecorderView, IsTried, IsRecorded, Records}
use Rattle.limited_book.specs.claim_history.proofs.Calls.{accepted_more, accepted_same}
use Rattle.recorded_book.proofs.Histories.{bodies_append, tried_new, tried_stays, during_accepted, during_failed, all_holds}
use Rattle.recorded_book.proofs.Grow.{moments_kept, moments_grow, held_on, held_now}

-- what an append may leave is what is left by the history, or its accepted calls and the one in progress
pub during_of_one : (history : List PoolEntry) (last : List (List ℕ)) (call : Call) (c : List ℕ) → IsTried history last → HoldsMore (bodies_of_calls (accepted_calls history)) last (body_of call ∷ []) c → HoldsDuring history call c
during_of_one history [] call c tried one = ⊎_elim
    (λ alone. inl (accepted_calls history, inl refl, inl alone))
    (λ more. ⊎_elim
    (λ new. inr (inl (subst (StandsFor c) (sym (bodies_append (accepted_calls history) (call ∷ []))) new)))
    (λ other. inl (accepted_calls history, inl refl, inl (subst (StandsFor c) (append-nil (bodies_of_calls (accepted_calls history))) other)))
    more)
    one
during_of_one history (body ∷ rest) call c tried one = ⊎_elim
    (λ alone. inl (accepted_calls history, inl refl, inl alone))
    (λ more. ⊎_elim
    (λ new. inr (inl (subst (StandsFor c) (sym (bodies_append (accepted_calls history) (call ∷ []))) new)))
    (λ other.
    let stands : StandsFor c (bodies_of_calls (accepted_calls history) ++ body_of tried.0 ∷ []) = subst (λ (l : List (List ℕ)). StandsFor c (bodies_of_calls (accepted_calls history) ++ l)) tried.2 other in
    inl (accepted_calls history ++ tried.0 ∷ [], inr (tried.0, tried.1, refl), inl (subst (StandsFor c) (sym (bodies_append (accepted_calls history) (tried.0 ∷ []))) stands)))
    more)
    one

-- what may be left as the body that was tried last, after an append that failed
tried_after : (history : List PoolEntry) (e : PoolEntry) (before after : List (List ℕ)) → is_of_device e.entry.reply ≡ true → is_accepted e.entry ≡ false → IsTried history before → IsLast before (body_of (call_of e) ∷ []) after → IsTried (history ++ e ∷ []) after
tried_after history e before [] device refused tried is = tt
tried_after history e before (body ∷ rest) device refused tried is = ⊎_elim
    (λ same. let old : IsTried history (body ∷ rest) = subst (IsTried history) (sym same) tried in (old.0, tried_stays history e old.0 refused old.1, old.2))
    (λ more. ⊎_elim (λ none. absurd (cc none)) (λ own. (call_of e, tried_new history e device, own)) more)
    is

tried_noted : (history : List PoolEntry) (e : PoolEntry) (last : List (List ℕ)) → is_accepted e.entry ≡ false → IsTried history last → IsTried (history ++ e ∷ []) last
tried_noted history e [] refused tried = tt
tried_noted history e (body ∷ rest) refused tried = (tried.0, tried_stays history e tried.0 refused tried.1, tried.2)

pub accepted_count : (r : Reply) → is_no_refusal r ≡ true → second_count r ≡ 0
accepted_count (reply.Refused w) is = absurd (cc is)
accepted_count r is = refl

undevice_count : (r : Reply) → is_of_device r ≡ false → second_count r ≡ 0
undevice_count (reply.Refused (why.Device before counted)) is = absurd (cc is)
undevice_count r is = refl

pub accepted_is_no_device : (r : Reply) → is_no_refusal r ≡ true → is_of_device r ≡ false
accepted_is_no_device (reply.Refused w) is = absurd (cc is)
accepted_is_no_device r is = refl

pub count_more : (history : List PoolEntry) (e : PoolEntry) → last_count (entries_of (reverse (history ++ e ∷ []))) ≡ max (second_count e.entry.reply) (last_count (entries_of (reverse history)))
count_more history e = ap (λ (ms : List PoolEntry). last_count (entries_of ms)) (reverse-append history (e ∷ []))

own_refused : (call : Call) (r : Reply) → is_no_refusal r ≡ false → own_bytes call r ≡ 0
own_refused call r is = ap (λ (b : Bool). if b then call_bytes call else 0) is

-- no entry but one that tells of a device has counts
pub no_counts : (low high : ℕ) (e : PoolEntry) → is_of_device e.entry.reply ≡ false → IsBetween low high e
no_counts low high e is before counted told = absurd (cc (is, ap is_of_device told))

between_more : (low high high' : ℕ) (history : List PoolEntry) (e : PoolEntry) → high ≤ high' → AreBetween low high history → IsBetween low high' e → AreBetween low high' (history ++ e ∷ [])
between_more low high high' history e le all new = All-push (IsBetween low high') history e
    (λ k d lt before counted told. let old = all k d lt before counted told in (old.0, old.1, omega (arith, old.2, le)))
    new

pub between_own : (low high before after : ℕ) (call : Call) → before ≡ low → after ≡ high → low ≤ high → IsBetween low high (answered call (reply.Refused (why.Device before after)))
between_own low high before after call b_is a_is le b counted told =
    let first : before ≡ b = cc told in
    let second : after ≡ counted = cc told in
    (omega (arith, first, b_is), omega (arith, first, second, b_is, a_is, le), omega (arith, second, a_is))

module _ {D : Type 0} (seen : D → Seen) where
  abbrev view_at : JournalView D → ℕ → D → ℕ → D → ℕ → RecorderView D
  view_at journal spare opened opened_with cleared cleared_with = record { journal = journal; spare = spare; at_opening_end = opened; opened_with = opened_with; at_clearing = cleared; cleared_with = cleared_with }

  -- an entry that makes no call of the disk: it is refused, and tells of no device
  pub records_noted : (r : RecorderView D) (history : List PoolEntry) (e : PoolEntry) → is_accepted e.entry ≡ false → is_of_device e.entry.reply ≡ false → is_keepable (call_of e) ≡ true → Records seen r history → Records seen r (history ++ e ∷ [])
  records_noted r history e refused undevice can has =
      let uses = use_law history e in
      let long : length (history ++ e ∷ []) ≡ length history + 1 = length-append history (e ∷ []) in
      let empty : List ℕ → Type 0 = λ c. ⊥ in
      let stays = passes_still (seen r.journal.disk) empty in
      record {
        place = omega (arith, has.place, uses.bytes, own_refused (call_of e) e.entry.reply refused);
        opened_few = omega (arith, has.opened_few, long);
        cleared_few = omega (arith, has.cleared_few, long);
        keepable = All-push (λ (x : PoolEntry). is_keepable (call_of x) ≡ true) history e has.keepable can;
        counted = omega (arith, count_more history e, undevice_count e.entry.reply undevice, has.counted);
        same = has.same;
        later = has.later;
        between = between_more (seen r.at_opening_end).count (seen r.journal.disk).count (seen r.journal.disk).count history e (omega arith) has.between (no_counts (seen r.at_opening_end).count (seen r.journal.disk).count e undevice);
        recorded = λ told. let was = has.recorded told in
            record {
              kept = (was.kept.0, was.kept.1, subst (λ (calls : List Call). IsKept seen r.journal was.kept.1 (bodies_of_calls calls) was.kept.0) (sym (accepted_same history e refused)) was.kept.2, tried_noted history e was.kept.0 refused was.kept.3);
              moments = moments_kept (seen r.journal.disk) (seen r.journal.disk) (seen r.journal.at_first_sync).moment r.opened_with history e empty was.moments stays (λ c no. absurd no) refused;
              since = held_on (seen r.journal.disk) (seen r.journal.disk) (seen r.at_clearing).moment r.cleared_with history e empty has.cleared_few was.since stays (λ c no. absurd no);
              stays = was.stays;
              stays_cleared = was.stays_cleared;
            };
      }

  -- a clearing
  pub records_cleared : (r r' : RecorderView D) (history : List PoolEntry) → Records seen r history → r'.journal ≡ r.journal → r'.at_opening_end ≡ r.at_opening_end → r'.opened_with ≡ r.opened_with → r'.at_clearing ≡ r.journal.disk → r'.cleared_with ≡ length history → Records seen r' history
  records_cleared r r' history has journal opened opened_with cleared cleared_with =
      let was : Records seen (view_at r.journal r'.spare r.at_opening_end r.opened_with r.journal.disk (length history)) history = record {
        place = has.place;
        opened_few = has.opened_few;
        cleared_few = omega arith;
        keepable = has.keepable;
        counted = has.counted;
        same = has.same;
        later = has.later;
        between = has.between;
        recorded = λ told. let was = has.recorded told in record { kept = was.kept; moments = was.moments; since = held_now (seen r.journal.disk) (seen r.journal.at_first_sync).moment r.opened_with history was.moments; stays = was.stays; stays_cleared = passes_still (seen r.journal.disk) (λ c. Unit {0}) };
      } in
      let is : view_at r.journal r'.spare r.at_opening_end r.opened_with r.journal.disk (length history) ≡ r' =
      ap (λ (j : JournalView D). view_at j r'.spare r.at_opening_end r.opened_with r.journal.disk (length history)) (sym journal)
      ∙ ap (λ (d : D). view_at r'.journal r'.spare d r.opened_with r.journal.disk (length history)) (sym opened)
      ∙ ap (λ (n : ℕ). view_at r'.journal r'.spare r'.at_opening_end n r.journal.disk (length history)) (sym opened_with)
      ∙ ap (λ (d : D). view_at r'.journal r'.spare r'.at_opening_end r'.opened_with d (length history)) (sym cleared)
      ∙ ap (λ (n : ℕ). view_at r'.journal r'.spare r'.at_opening_end r'.opened_with r'.at_clearing n) (sym cleared_with) in
      subst (λ (v : RecorderView D). Records seen v history) is was

  -- an append of the call of an entry
  module _ (j j' : JournalView D) (spare spare' : ℕ) (opened : D) (opened_with : ℕ) (cleared : D) (cleared_with : ℕ) (history : List PoolEntry) (e : PoolEntry) (body : List ℕ)
      (has : Records seen (view_at j spare opened opened_with cleared cleared_with) history)
      (can : is_keepable (call_of e) ≡ true)
      (body_is : body ≡ body_of (call_of e))
      (tried : HasTried seen j j' (body ∷ [])) where
    was_told : IsTrue (seen j'.disk).tells → IsRecorded seen (view_at j spare opened opened_with cleared cleared_with) history
    was_told told = has.recorded (subst (λ (b : Bool). IsTrue b) tried.tells told)

    -- what a crash leaves while it goes on
    pub append_goes : IsTrue (seen j.disk).tells → Passes (seen j.disk) (seen j'.disk) (HoldsDuring history (call_of e))
    append_goes told =
        let kept = (has.recorded told).kept in
        passes_wide (seen j.disk) (seen j'.disk) (HoldsMore (bodies_of_calls (accepted_calls history)) kept.0 (body ∷ [])) (HoldsDuring history (call_of e)) (tried.crash kept.1 (bodies_of_calls (accepted_calls history)) kept.0 kept.2)
        (λ c one. during_of_one history kept.0 (call_of e) c kept.3 (subst (λ (b : List ℕ). HoldsMore (bodies_of_calls (accepted_calls history)) kept.0 (b ∷ []) c) body_is one))

    -- the images of an earlier moment stay
    stays_on : (since : D) → GoesOn (seen since) (seen j.disk) → Passes (seen j.disk) (seen j'.disk) (HoldsDuring history (call_of e)) → GoesOn (seen since) (seen j'.disk)
    stays_on since was goes = passes_on (seen since) (seen j.disk) (seen j'.disk) (λ c. Unit {0}) was (passes_wide (seen j.disk) (seen j'.disk) (HoldsDuring history (call_of e)) (λ c. Unit {0}) goes (λ c one. tt))

    pub records_accepted : is_accepted e.entry ≡ true → length body ≡ body_length_of e.entry.act + pool_bytes e.pool → HasAppended seen j j' (body ∷ [])
        → Records seen (view_at j' spare' opened opened_with cleared cleared_with) (history ++ e ∷ [])
    records_accepted accepted length_is done =
        let uses = use_law history e in
        let long : length (history ++ e ∷ []) ≡ length history + 1 = length-append history (e ∷ []) in
        let undevice = accepted_is_no_device e.entry.reply accepted in
        record {
          place = omega (arith, has.place, done.gate, length-one body, length_is, uses.bytes, accepted_owns (call_of e) e.entry.reply accepted);
          opened_few = omega (arith, has.opened_few, long);
          cleared_few = omega (arith, has.cleared_few, long);
          keepable = All-push (λ (x : PoolEntry). is_keepable (call_of x) ≡ true) history e has.keepable can;
          counted = omega (arith, count_more history e, accepted_count e.entry.reply accepted, has.counted, tried.counts);
          same = tried.tells ∙ has.same;
          later = omega (arith, has.later, tried.counts);
          between = between_more (seen opened).count (seen j.disk).count (seen j'.disk).count history e tried.counts has.between (no_counts (seen opened).count (seen j'.disk).count e undevice);
          recorded = λ told.
              let was = was_told told in
              let told_old = subst (λ (b : Bool). IsTrue b) tried.tells told in
              let goes = append_goes told_old in
              let same : bodies_of_calls (accepted_calls history) ++ body ∷ [] ≡ bodies_of_calls (accepted_calls (history ++ e ∷ [])) =
              ap (λ (b : List ℕ). bodies_of_calls (accepted_calls history) ++ b ∷ []) body_is ∙ sym (ap bodies_of_calls (accepted_more history e accepted) ∙ bodies_append (accepted_calls history) (call_of e ∷ [])) in
              let kept : IsKept seen j' was.kept.1 (bodies_of_calls (accepted_calls (history ++ e ∷ []))) [] = subst (λ (bs : List (List ℕ)). IsKept seen j' was.kept.1 bs []) same (done.kept was.kept.1 (bodies_of_calls (accepted_calls history)) was.kept.0 was.kept.2) in
              let holds : (c : List ℕ) → HoldsDuring history (call_of e) c → HoldsAt (history ++ e ∷ []) (length (accepted_calls history)) c = λ c during. during_accepted history e c accepted during in
              record {
                kept = ([], was.kept.1, kept, tt);
                moments = subst (λ (d : D). HasMoments (seen j'.disk) (seen d).moment opened_with (history ++ e ∷ [])) (sym tried.opened)
                    (moments_grow (seen j.disk) (seen j'.disk) (seen j.at_first_sync).moment opened_with history e (HoldsDuring history (call_of e)) was.moments goes holds accepted
                    (λ c now. all_holds (history ++ e ∷ []) c (inl (record { short = kept.short; begins = was.kept.1; ends = kept.images c now }))));
                since = held_on (seen j.disk) (seen j'.disk) (seen cleared).moment cleared_with history e (HoldsDuring history (call_of e)) has.cleared_few was.since goes holds;
                stays = stays_on opened was.stays goes;
                stays_cleared = stays_on cleared was.stays_cleared goes;
              };
        }

    pub records_failed : is_accepted e.entry ≡ false → is_of_device e.entry.reply ≡ true → second_count e.entry.reply ≤ (seen j'.disk).count → IsBetween (seen j.disk).count (seen j'.disk).count e → HasNotAppended seen j j' (body ∷ [])
        → Records seen (view_at j' spare' opened opened_with cleared cleared_with) (history ++ e ∷ [])
    records_failed refused device second own failed =
        let uses = use_law history e in
        let long : length (history ++ e ∷ []) ≡ length history + 1 = length-append history (e ∷ []) in
        record {
          place = omega (arith, has.place, failed.gate, uses.bytes, own_refused (call_of e) e.entry.reply refused);
          opened_few = omega (arith, has.opened_few, long);
          cleared_few = omega (arith, has.cleared_few, long);
          keepable = All-push (λ (x : PoolEntry). is_keepable (call_of x) ≡ true) history e has.keepable can;
          counted = omega (arith, count_more history e, second, has.counted, tried.counts);
          same = tried.tells ∙ has.same;
          later = omega (arith, has.later, tried.counts);
          between = between_more (seen opened).count (seen j.disk).count (seen j'.disk).count history e tried.counts has.between
              (λ before counted told. let here = own before counted told in (omega (arith, here.0, has.later), here.1, here.2));
          recorded = λ told.
              let was = was_told told in
              let told_old = subst (λ (b : Bool). IsTrue b) tried.tells told in
              let goes = append_goes told_old in
              let after = failed.kept was.kept.1 (bodies_of_calls (accepted_calls history)) was.kept.0 was.kept.2 in
              let last_is : IsLast was.kept.0 (body_of (call_of e) ∷ []) after.0 = subst (λ (b : List ℕ). IsLast was.kept.0 (b ∷ []) after.0) body_is after.1 in
              let holds : (c : List ℕ) → HoldsDuring history (call_of e) c → HoldsAt (history ++ e ∷ []) (length (accepted_calls history)) c = λ c during. during_failed history e c device refused during in
              record {
                kept = (after.0, was.kept.1, subst (λ (calls : List Call). IsKept seen j' was.kept.1 (bodies_of_calls calls) after.0) (sym (accepted_same history e refused)) after.2, tried_after history e was.kept.0 after.0 device refused was.kept.3 last_is);
                moments = subst (λ (d : D). HasMoments (seen j'.disk) (seen d).moment opened_with (history ++ e ∷ [])) (sym tried.opened)
                    (moments_kept (seen j.disk) (seen j'.disk) (seen j.at_first_sync).moment opened_with history e (HoldsDuring history (call_of e)) was.moments goes holds refused);
                since = held_on (seen j.disk) (seen j'.disk) (seen cleared).moment cleared_with history e (HoldsDuring history (call_of e)) has.cleared_few was.since goes holds;
                stays = stays_on opened was.stays goes;
                stays_cleared = stays_on cleared was.stays_cleared goes;
              };
        }
