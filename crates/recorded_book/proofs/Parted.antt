-- What a record keeps of a history in which no member tells of a device.
use Rattle.std.proofs.Common.{◌≡◌, ℕ, true, List, [], ◌∷◌, length, All, IsTrue, refl, subst, arith, length-append}
use Rattle.std.proofs.lemmas.List.{get_or_at}
use Rattle.round_journal.specs.disk_model.specs.Calls.{Seen}
use Rattle.limited_book.specs.claim_history.specs.declared.call.Call.{Call}
use Rattle.limited_book.specs.claim_history.specs.declared.call.PoolEntry.{PoolEntry}
use Rattle.limited_book.specs.claim_history.specs.History.{is_accepted}
use Rattle.limited_book.specs.claim_history.specs.Pools.{accepted_calls}
use Rattle.round_journal.specs.Bytes.{Header}
use Rattle.round_journal.specs.Kept.{IsKept}
use Rattle.recorded_book.specs.Calls.{TriedLast, bodies_of_calls}
use Rattle.recorded_book.specs.Recorded.{IsTried, RecorderView, Records}
use Rattle.recorded_book.proofs.Recording.{accepted_is_no_device}

none_tried : (history : List PoolEntry) (call : Call) → All (λ m. is_accepted m.entry ≡ true) history → TriedLast history call → ⊥
none_tried history call all tried =
    let there : is_accepted tried.tried.entry ≡ true =
    subst (λ (m : PoolEntry). is_accepted m.entry ≡ true) (get_or_at tried.before tried.tried tried.later tried.tried (length tried.before) refl)
    (subst (λ (h : List PoolEntry). All (λ m. is_accepted m.entry ≡ true) h) tried.parts all (length tried.before) tried.tried (omega (arith, length-append tried.before (tried.tried ∷ tried.later)))) in
    absurd (cc (accepted_is_no_device tried.tried.entry.reply there, tried.device))

last_none : (history : List PoolEntry) (last : List (List ℕ)) → All (λ m. is_accepted m.entry ≡ true) history → IsTried history last → last ≡ []
last_none history [] all tried = refl
last_none history (body ∷ more) all tried = absurd (none_tried history tried.0 all tried.1)

pub kept_alone : {D : Type 0} (seen : D → Seen) (r : RecorderView D) (history : List PoolEntry) → Records seen r history → All (λ m. is_accepted m.entry ≡ true) history → IsTrue (seen r.journal.disk).tells
    → (h : Header) × IsKept seen r.journal h (bodies_of_calls (accepted_calls history)) []
kept_alone seen r history has all told =
    let kept = (has.recorded told).kept in
    (kept.1, subst (λ (last : List (List ℕ)). IsKept seen r.journal kept.1 (bodies_of_calls (accepted_calls history)) last) (last_none history kept.0 all kept.3) kept.2)
