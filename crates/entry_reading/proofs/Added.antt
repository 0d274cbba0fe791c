-- What a run added may be added.
use Rattle.std.specs.Prelude.{◌&&◌, nat_lt, nat_le, ◌||◌, ◌^◌}
use Rattle.std.proofs.Common.{◌≡◌, ◌∙◌, ℕ, ◌+◌, ◌<◌, ◌≤◌, true, List, [], ◌∷◌, ◌++◌, All, refl, sym, ap, subst, append_assoc, arith}
use Rattle.std.proofs.lemmas.Bool.{and_parts, ltb-true}
use Rattle.std.proofs.lemmas.List.Elements.{All-nil, All-cons, All-head, All-tail}
use Rattle.batch_runs.specs.setoff_model.specs.declared.limits.TheConstants.{MOST_ENTRIES}
use Rattle.batch_runs.specs.setoff_model.specs.Names.{is_name}
use Rattle.batch_runs.specs.setoff_model.proofs.SameNames.{name_same}
use Rattle.batch_runs.specs.act_bodies.specs.Bodies.{is_keepable}
use Rattle.batch_runs.specs.claim_history.specs.declared.call.Call.{Call}
use Rattle.batch_runs.specs.claim_history.specs.declared.call.PoolEntry.{PoolEntry}
use Rattle.batch_runs.specs.claim_history.specs.declared.entry.Entry.{Entry}
use Rattle.batch_runs.specs.claim_history.specs.declared.entry.Reply.{Reply}
use Rattle.batch_runs.specs.claim_history.specs.declared.entry.Reply.TheVariants as reply
use Rattle.batch_runs.specs.claim_history.specs.declared.entry.Why.{Why}
use Rattle.batch_runs.specs.claim_history.specs.declared.entry.Why.TheVariants as why
use Rattle.batch_runs.specs.claim_history.specs.Acts.{is_abandonment, is_valid}
use Rattle.batch_runs.specs.claim_history.specs.Laws.{IsReplyInRange}
use Rattle.batch_runs.specs.claim_history.specs.Pools.{AreValid, IsLegal, call_of, entries_in}
use Rattle.batch_runs.specs.claim_history.specs.PoolNeeds.{IsWithinLimits}
use Rattle.batch_runs.specs.claim_history.proofs.Pools.{in_append, legal_in, past_own, valid_in}
use Rattle.batch_runs.specs.claim_history.proofs.Ranges.{replies_law}
use Rattle.batch_runs.specs.recorded_book.specs.Calls.{CanBeKept}
use Rattle.batch_runs.specs.recorded_book.specs.Devices.{AreBetween, IsBetween}
use Rattle.entry_reading.specs.Shown.{HasRanges, IsEntry, told_by}
use Rattle.entry_reading.specs.Texts.{AddedLaw, WereAdded}
use Rattle.entry_reading.proofs.Numbers.{IsLow, rounds_low}

abbrev Short : ℕ → Type 0
Short number = number < 2 ^ 64

one_short : (n : ℕ) → n < 2 ^ 64 → All Short (n ∷ [])
one_short n lt = All-cons Short n [] lt (All-nil Short)

-- the numbers that a refusal tells
refusal_short : (low high : ℕ) (w : Why) → high < 2 ^ 64 → IsLow (MOST_ENTRIES + 1) (reply.Refused w)
    → ((before counted : ℕ) → reply.Refused w ≡ reply.Refused (why.Device before counted) → (low ≤ before) × (before ≤ counted) × (counted ≤ high)) → All Short (told_by w)
refusal_short low high (why.Frozen round) short few between = one_short round (omega (arith, few))
refusal_short low high (why.RoundOpen round) short few between = one_short round (omega (arith, few))
refusal_short low high (why.NotOwner round) short few between = one_short round (omega (arith, few))
refusal_short low high (why.Device before after) short few between =
    let here = between before after refl in
    All-cons Short before (after ∷ []) (omega (arith, short, here.1, here.2)) (one_short after (omega (arith, short, here.2)))
refusal_short low high w short few between = All-nil Short

ranges_of : (low high : ℕ) (r : Reply) → high < 2 ^ 64 → IsReplyInRange r → IsLow (MOST_ENTRIES + 1) r
    → ((before counted : ℕ) → r ≡ reply.Refused (why.Device before counted) → (low ≤ before) × (before ≤ counted) × (counted ≤ high)) → HasRanges r
ranges_of low high (reply.Opened round) short range few between = omega (arith, few)
ranges_of low high (reply.Continued round) short range few between = omega (arith, few)
ranges_of low high (reply.Abandoned round) short range few between = omega (arith, few)
ranges_of low high (reply.Refused w) short range few between = refusal_short low high w short few between
ranges_of low high r short range few between = range

each_in : (P : Entry → Type 0) (front later : List Entry) (e : Entry) → All P (front ++ e ∷ later) → P e
each_in P [] later e all = All-head P e later all
each_in P (x ∷ front) later e all = each_in P front later e (All-tail P x (front ++ e ∷ later) all)

last_of : (P : PoolEntry → Type 0) (front later : List PoolEntry) (m : PoolEntry) → All P (front ++ m ∷ later) → P m
last_of P [] later m all = All-head P m later all
last_of P (x ∷ front) later m all = last_of P front later m (All-tail P x (front ++ m ∷ later) all)

kept : (call : Call) → is_keepable call ≡ true → (nat_lt call.caller (2 ^ 32) && is_name call.pool && is_valid call.act && (nat_le 1 call.caller || is_abandonment call.act)) ≡ true
unfolding is_keepable
kept call is = is

module _ (before later : List PoolEntry) (m : PoolEntry) (w : WereAdded before (m ∷ later)) where
  -- what holds of the entries of its pool holds of it
  of_pool : (P : Entry → Type 0) → All P (entries_in m.pool (before ++ m ∷ later)) → P m.entry
  of_pool P all =
      each_in P (entries_in m.pool before) (entries_in m.pool later) m.entry
      (subst (All P) (in_append m.pool before (m ∷ later) ∙ ap (λ (es : List Entry). entries_in m.pool before ++ es) (past_own m.pool m later (name_same m.pool))) all)

  entry_added : IsEntry m
  entry_added =
      let call = call_of m in
      let first = and_parts (nat_lt call.caller (2 ^ 32) && is_name call.pool && is_valid call.act) (nat_le 1 call.caller || is_abandonment call.act)
      (kept call (last_of (λ (x : PoolEntry). is_keepable (call_of x) ≡ true) before later m w.keepable)) in
      let second = and_parts (nat_lt call.caller (2 ^ 32) && is_name call.pool) (is_valid call.act) first.0 in
      let third = and_parts (nat_lt call.caller (2 ^ 32)) (is_name call.pool) second.0 in
      let range = of_pool (λ e. IsReplyInRange e.reply) (replies_law (entries_in m.pool (before ++ m ∷ later)) (legal_in (before ++ m ∷ later) m.pool w.legal) (valid_in (before ++ m ∷ later) m.pool w.valid)) in
      let few = of_pool (λ e. IsLow (MOST_ENTRIES + 1) e.reply) (rounds_low (before ++ m ∷ later) m.pool w.legal w.within) in
      record {
        caller = omega (arith, ltb-true call.caller (2 ^ 32) third.0);
        named = third.1;
        valid = second.1;
        ranges = ranges_of w.low w.high m.entry.reply w.short range few (last_of (IsBetween w.low w.high) before later m w.between);
      }

  added_later : WereAdded (before ++ m ∷ []) later
  added_later =
      let same : before ++ m ∷ later ≡ (before ++ m ∷ []) ++ later = sym (append_assoc before (m ∷ []) later) in
      record {
        legal = subst IsLegal same w.legal;
        valid = subst AreValid same w.valid;
        within = subst IsWithinLimits same w.within;
        keepable = subst CanBeKept same w.keepable;
        low = w.low;
        high = w.high;
        between = subst (AreBetween w.low w.high) same w.between;
        short = w.short;
      }

each_added : (before added : List PoolEntry) → WereAdded before added → All IsEntry added
each_added before [] w = All-nil IsEntry
each_added before (m ∷ added) w = All-cons IsEntry m added (entry_added before added m w) (each_added (before ++ m ∷ []) added (added_later before added m w))

pub added_law : AddedLaw
added_law before added w = record { legal = w.legal; valid = w.valid; entries = each_added before added w }
