-- A legal history that tells of no device is the replay of its calls.
use Rattle.std.specs.Prelude.{reverse}
use Rattle.std.specs.List.{list_any}
use Rattle.std.proofs.Common.{◌≡◌, ◌∙◌, ℕ, Bool, false, ◌||◌, List, [], ◌∷◌, ◌++◌, map, refl, sym, ap, ap₂, append_assoc}
use Rattle.std.proofs.lemmas.List.{reverse-append, reverse-reverse, append-nil, map-append}
use Rattle.std.proofs.lemmas.List.Folds.{list_any-append}
use Rattle.claim_history.specs.declared.call.Call.{Call}
use Rattle.claim_history.specs.declared.call.PoolEntry.{PoolEntry}
use Rattle.claim_history.specs.declared.entry.Entry.{Entry}
use Rattle.claim_history.specs.declared.entry.Reply.{Reply}
use Rattle.claim_history.specs.History.{IsReply, failed, last_count, replied}
use Rattle.claim_history.specs.Needs.{is_of_device}
use Rattle.claim_history.specs.Pools.{IsLegal, IsLegalPast, answered, call_of, due_member, due_of_past, entries_of, replay_after, replay_of}
use Rattle.claim_history.proofs.Rows.{or_false}

-- the reply of an entry, and of a member, tells of the device
abbrev pub has_device_reply : Entry → Bool
has_device_reply e = is_of_device e.reply

abbrev pub tells_of_device : PoolEntry → Bool
tells_of_device m = is_of_device m.entry.reply

-- ---- no device

pub none_in_parts : (a b : List Entry) → list_any has_device_reply (a ++ b) ≡ false → (list_any has_device_reply a ≡ false) × (list_any has_device_reply b ≡ false)
none_in_parts a b none = or_false (list_any has_device_reply a) (list_any has_device_reply b) (sym (list_any-append has_device_reply a b) ∙ none)

pub none_in_first : (e : Entry) (entries : List Entry) → list_any has_device_reply (e ∷ entries) ≡ false → (is_of_device e.reply ≡ false) × (list_any has_device_reply entries ≡ false)
none_in_first e entries none = or_false (is_of_device e.reply) (list_any has_device_reply entries) none

pub none_in_front : (a b : List PoolEntry) → list_any tells_of_device (a ++ b) ≡ false → list_any tells_of_device a ≡ false
none_in_front a b none = (or_false (list_any tells_of_device a) (list_any tells_of_device b) (sym (list_any-append tells_of_device a b) ∙ none)).0

-- no entry of the members tells of it either
pub none_of_entries : (members : List PoolEntry) → list_any tells_of_device members ≡ false → list_any has_device_reply (entries_of members) ≡ false
none_of_entries [] none = refl
none_of_entries (m ∷ members) none =
    let p = or_false (tells_of_device m) (list_any tells_of_device members) none in
    ap₂ (λ (a b : Bool). a || b) p.0 (none_of_entries members p.1)

none_reversed : (members : List PoolEntry) → list_any tells_of_device members ≡ false → list_any tells_of_device (reverse members) ≡ false
none_reversed [] none = refl
none_reversed (m ∷ members) none =
    let p = or_false (tells_of_device m) (list_any tells_of_device members) none in
    ap (list_any tells_of_device) (reverse-append (m ∷ []) members)
    ∙ list_any-append tells_of_device (reverse members) (m ∷ [])
    ∙ ap₂ (λ (a b : Bool). a || (b || false)) (none_reversed members p.1) p.0

-- a legal reply that tells of no device is the one that is due
pub reply_due : (counted : ℕ) (due got : Reply) → IsReply counted due got → is_of_device got ≡ false → got ≡ due
reply_due counted due got (replied e) none = e
reply_due counted due got (failed device) none = absurd (cc (sym (ap is_of_device device.is) ∙ none))

-- ---- the replay of calls, the newest first

abbrev asked_past : List Call → List PoolEntry
asked_past [] = []
asked_past (call ∷ calls) = due_member (asked_past calls) call ∷ asked_past calls

past_is_asked : (past : List PoolEntry) → IsLegalPast past → list_any tells_of_device past ≡ false → past ≡ asked_past (map call_of past)
past_is_asked [] legal none = refl
past_is_asked (m ∷ past) legal none =
    let p = or_false (tells_of_device m) (list_any tells_of_device past) none in
    let due : m.entry.reply ≡ due_of_past past (call_of m) = reply_due (last_count (entries_of past)) (due_of_past past (call_of m)) m.entry.reply legal.0 p.0 in
    ap (λ (r : Reply). answered (call_of m) r ∷ past) due ∙ ap (λ (l : List PoolEntry). due_member l (call_of m) ∷ l) (past_is_asked past legal.1 p.1)

replay_is_asked : (done calls : List Call) → replay_after (asked_past done) calls ≡ asked_past (reverse calls ++ done)
replay_is_asked done [] = refl
replay_is_asked done (call ∷ calls) =
    replay_is_asked (call ∷ done) calls
    ∙ ap asked_past (sym (append_assoc (reverse calls) (call ∷ []) done) ∙ ap (λ (l : List Call). l ++ done) (sym (reverse-append (call ∷ []) calls)))

calls_reversed : (members : List PoolEntry) → map call_of (reverse members) ≡ reverse (map call_of members)
calls_reversed [] = refl
calls_reversed (m ∷ members) =
    ap (map call_of) (reverse-append (m ∷ []) members)
    ∙ map-append call_of (reverse members) (m ∷ [])
    ∙ ap (λ (l : List Call). l ++ call_of m ∷ []) (calls_reversed members)
    ∙ sym (reverse-append (call_of m ∷ []) (map call_of members))

pub history_is_replay : (history : List PoolEntry) → IsLegal history → list_any tells_of_device history ≡ false → history ≡ replay_of (map call_of history)
history_is_replay history legal none =
    sym (reverse-reverse history)
    ∙ ap reverse
    (past_is_asked (reverse history) legal (none_reversed history none)
    ∙ ap asked_past (calls_reversed history ∙ sym (append-nil (reverse (map call_of history))))
    ∙ sym (replay_is_asked [] (map call_of history)))
