-- The steps of a replay.
use Rattle.std.specs.Prelude.{reverse}
use Rattle.std.proofs.Common.{◌≡◌, Bool, true, false, not, ◌||◌, List, [], ◌∷◌, ◌++◌, map, All, refl, sym, ◌∙◌, ap, subst, true≢false}
use Rattle.std.proofs.lemmas.Bool.{false_from_ne_true}
use Rattle.std.proofs.lemmas.List.{map-append, reverse-append, reverse-reverse}
use Rattle.std.proofs.lemmas.List.Elements.{All-push}
use Rattle.limited_book.specs.claim_history.specs.declared.entry.Reply.{Reply}
use Rattle.limited_book.specs.claim_history.specs.declared.call.Call.{Call}
use Rattle.limited_book.specs.claim_history.specs.declared.call.PoolEntry.{PoolEntry}
use Rattle.limited_book.specs.claim_history.specs.Acts.{is_publication, is_close}
use Rattle.limited_book.specs.claim_history.specs.History.{is_accepted, is_no_refusal, is_opening, replied}
use Rattle.limited_book.specs.claim_history.specs.Pools.{IsLegal, answered, due_member, due_of_past, due_reply, replay_after, state_in, with_due}
use Rattle.limited_book.specs.claim_history.specs.PoolNeeds.{IsWithinLimits, is_full}
use Rattle.limited_book.specs.claim_history.proofs.Kept.{replay_append}
use Rattle.limited_book.specs.claim_history.proofs.PoolRoom.{due_is, use_law}
use Rattle.limited_book.specs.claim_history.proofs.Replies.{opens}
use Rattle.round_journal.specs.declared.record.Record.{Record}
use Rattle.limited_book.proofs.Limits.{publication_of}
use Rattle.journal_replay.specs.declared.replay_stop.ReplayStop.{ReplayStop}
use Rattle.journal_replay.specs.declared.replay_stop.ReplayStop.TheVariants.{Memory, BadAct, Overfull}
use Rattle.journal_replay.specs.Replays.{AreSound, IsReplayed, StopsFirst, Tells, recorded_call, history_of, is_faulty}

-- ---- Closes

-- a call that is no Close opens no round
pub other_opens_none : (history : List PoolEntry) (call : Call) (r : Reply) → r ≡ due_reply history call → is_close call.act ≡ false → is_opening r ≡ false
other_opens_none history call r due other =
    false_from_ne_true (is_opening r) (λ e. true≢false (sym (ap is_close (opens (state_in history call.pool) 0 call.caller call.act r (replied due) e).act_is ∙ refl) ∙ other))

-- a publication that is accepted is within the limits
pub published_so : (history new : List PoolEntry) (call : Call) (r : Reply) → new ≡ history ++ answered call r ∷ [] → IsLegal history → is_publication call.act ≡ true
    → r ≡ due_reply history call → is_no_refusal r ≡ true → IsWithinLimits history → IsReplayed history new call
published_so history new call r is legal publishes due accepted within =
    let fits_due : is_no_refusal (due_reply history call) ≡ true = sym (ap is_no_refusal due) ∙ accepted in
    record {
      history = is ∙ ap (λ (x : Reply). history ++ answered call x ∷ []) due;
      accepted = fits_due;
      fits = publication_of history call legal within publishes fits_due;
    }

-- ---- one more record

abbrev ask : List PoolEntry → Call → List PoolEntry
ask past call = due_member past call ∷ past

-- the newest member of the records with one more
pub more_asked : (before after : List Record) (r : Record) → replay_after [] (map recorded_call (before ++ r ∷ after)) ≡ replay_after (ask (replay_after [] (map recorded_call before)) (recorded_call r)) (map recorded_call after)
more_asked before after r =
    ap (replay_after []) (map-append recorded_call before (r ∷ after)) ∙ replay_append [] (map recorded_call before) (map recorded_call (r ∷ after))

-- the reply of a past is that of its history
pub due_past : (past : List PoolEntry) (call : Call) → due_of_past past call ≡ due_reply (reverse past) call
due_past past call = ap (λ (p : List PoolEntry). due_of_past p call) (sym (reverse-reverse past)) ∙ due_is (reverse past) call

pub history_more : (before : List Record) (r : Record) → history_of (before ++ r ∷ []) ≡ with_due (history_of before) (recorded_call r)
history_more before r =
    let past = replay_after [] (map recorded_call before) in
    let call = recorded_call r in
    ap reverse (more_asked before [] r) ∙ reverse-append (due_member past call ∷ []) past
    ∙ ap (λ (x : Reply). reverse past ++ answered call x ∷ []) (due_past past call)

pub sound_more : (before : List Record) (r : Record) (new : List PoolEntry) → AreSound before → IsReplayed (history_of before) new (recorded_call r) → AreSound (before ++ r ∷ [])
sound_more before r new sound done =
    let m : PoolEntry = answered (recorded_call r) (due_reply (history_of before) (recorded_call r)) in
    record {
      accepted = subst (All (λ x. is_accepted x.entry ≡ true)) (sym (history_more before r)) (All-push (λ (x : PoolEntry). is_accepted x.entry ≡ true) (history_of before) m sound.accepted done.accepted);
      within = subst IsWithinLimits (sym (history_more before r)) ((use_law (history_of before) m).within sound.within done.fits);
    }

-- ---- the end

or_true : (a b : Bool) → b ≡ true → (a || b) ≡ true
or_true true b e = refl
or_true false b e = e

tells_faulty : (history : List PoolEntry) (call : Call) (got : Reply) → got ≡ due_reply history call → is_no_refusal got ≡ false → is_faulty history call ≡ true
tells_faulty history call got due refused =
    ap (λ (b : Bool). not b || is_full history call) (sym (ap is_no_refusal due) ∙ refused)

pub first_stop : (records before after : List Record) (r : Record) (stop : ReplayStop) → records ≡ before ++ r ∷ after → AreSound before → Tells (history_of before) r.offset (recorded_call r) stop → StopsFirst records stop
first_stop records before after r Memory parts sound tells = tt
first_stop records before after r (BadAct at got) parts sound tells = record {
  before = before;
  record_is = r;
  first = record { after = after; parts = parts; sound = sound; faulty = tells_faulty (history_of before) (recorded_call r) got tells.1 tells.2 };
  tells = tells;
}
first_stop records before after r (Overfull at) parts sound tells = record {
  before = before;
  record_is = r;
  first = record { after = after; parts = parts; sound = sound; faulty = or_true _ _ tells.2 };
  tells = tells;
}

-- ---- the loop

pub replayed_more : (before : List Record) (r : Record) (history new : List PoolEntry) → history ≡ history_of before → AreSound before → IsReplayed history new (recorded_call r)
    → (new ≡ history_of (before ++ r ∷ [])) × AreSound (before ++ r ∷ [])
replayed_more before r history new same sound done =
    let here : IsReplayed (history_of before) new (recorded_call r) = subst (λ (h : List PoolEntry). IsReplayed h new (recorded_call r)) same done in
    (here.history ∙ sym (history_more before r), sound_more before r new sound here)

pub stopped_at : (records before after : List Record) (r : Record) (history : List PoolEntry) (stop : ReplayStop) → records ≡ before ++ r ∷ after → history ≡ history_of before → AreSound before
    → Tells history r.offset (recorded_call r) stop → StopsFirst records stop
stopped_at records before after r history stop parts same sound tells =
    first_stop records before after r stop parts sound (subst (λ (h : List PoolEntry). Tells h r.offset (recorded_call r) stop) same tells)
