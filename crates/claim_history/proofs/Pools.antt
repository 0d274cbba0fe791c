-- The history of each pool.
use Rattle.std.specs.Prelude.{filter, reverse, max, if◌then◌else◌}
use Rattle.std.proofs.Common.{◌≡◌, ℕ, ◌≤◌, Bool, true, false, List, [], ◌∷◌, ◌++◌, map, All, refl, sym, ◌∙◌, ap, subst, arith}
use Rattle.std.proofs.lemmas.List.{reverse-append, append-nil, map-append}
use Rattle.std.proofs.lemmas.List.Elements.{All-nil, All-cons, All-head, All-tail, filter-append}
use Rattle.setoff_model.proofs.SameNames.{name_same, same_name_is}
use Rattle.claim_history.specs.declared.entry.Entry.{Entry}
use Rattle.claim_history.specs.declared.call.Call.{Call}
use Rattle.claim_history.specs.declared.call.PoolEntry.{PoolEntry}
use Rattle.claim_history.specs.declared.entry.Reply.{Reply}
use Rattle.claim_history.specs.Acts.{is_valid}
use Rattle.claim_history.specs.States.{state, state_of}
use Rattle.claim_history.specs.History as one
use Rattle.claim_history.specs.History.{IsReply, answer, failed, last_count, replied, second_count}
use Rattle.claim_history.specs.Laws.{StaysOwned}
use Rattle.claim_history.specs.Pools.{AreValid, IsLegal, IsLegalPast, MayFollow, due_member, entries_in, entries_of, is_in, main_pool, member_of, replay_after}
use Rattle.claim_history.specs.PoolLaws.{JoinLaw, MainLaw, OwnedLaw, ReplayLaw, PoolsLaw}
use Rattle.std.proofs.lemmas.List.{reverse-reverse}
use Rattle.claim_history.proofs.Owned.{owned_law}

-- ---- the entries of a pool

pub in_append : (pool : List ℕ) (xs ys : List PoolEntry) → entries_in pool (xs ++ ys) ≡ entries_in pool xs ++ entries_in pool ys
in_append pool xs ys = ap (map (λ m. m.entry)) (filter-append (is_in pool) xs ys) ∙ map-append (λ m. m.entry) (filter (is_in pool) xs) (filter (is_in pool) ys)

reverse_step : (b : Bool) (m : PoolEntry) (ms : List PoolEntry)
    → reverse (entries_of ms) ++ entries_of (if b then m ∷ [] else []) ≡ reverse (entries_of (if b then m ∷ ms else ms))
reverse_step true m ms = sym (reverse-append (m.entry ∷ []) (entries_of ms))
reverse_step false m ms = append-nil (reverse (entries_of ms))

-- those of a past are the past of those of the history
pub in_reverse : (pool : List ℕ) (ms : List PoolEntry) → entries_in pool (reverse ms) ≡ reverse (entries_in pool ms)
in_reverse pool [] = refl
in_reverse pool (m ∷ ms) =
    ap (entries_in pool) (reverse-append (m ∷ []) ms) ∙ in_append pool (reverse ms) (m ∷ [])
    ∙ ap (λ (es : List Entry). es ++ entries_in pool (m ∷ [])) (in_reverse pool ms)
    ∙ reverse_step (is_in pool m) m (filter (is_in pool) ms)

pub in_own : (history : List PoolEntry) (pool : List ℕ) (e : Entry) → entries_in pool (history ++ member_of pool e ∷ []) ≡ entries_in pool history ++ e ∷ []
in_own history pool e =
    in_append pool history (member_of pool e ∷ [])
    ∙ ap (λ (b : Bool). entries_in pool history ++ entries_of (if b then member_of pool e ∷ [] else [])) (name_same pool)

pub in_other : (history : List PoolEntry) (m : PoolEntry) (pool : List ℕ) → is_in pool m ≡ false → entries_in pool (history ++ m ∷ []) ≡ entries_in pool history
in_other history m pool other =
    in_append pool history (m ∷ [])
    ∙ ap (λ (b : Bool). entries_in pool history ++ entries_of (if b then m ∷ [] else [])) other
    ∙ append-nil (entries_in pool history)

-- with one more member in front
pub past_own : (pool : List ℕ) (m : PoolEntry) (past : List PoolEntry) → is_in pool m ≡ true → entries_in pool (m ∷ past) ≡ m.entry ∷ entries_in pool past
past_own pool m past own = ap (λ (b : Bool). entries_of (if b then m ∷ filter (is_in pool) past else filter (is_in pool) past)) own

pub past_other : (pool : List ℕ) (m : PoolEntry) (past : List PoolEntry) → is_in pool m ≡ false → entries_in pool (m ∷ past) ≡ entries_in pool past
past_other pool m past other = ap (λ (b : Bool). entries_of (if b then m ∷ filter (is_in pool) past else filter (is_in pool) past)) other

-- ---- legal histories

-- a device that failed later than at all members failed later than at those of a pool
earlier_reply : (most counted : ℕ) (due got : Reply) → counted ≤ most → IsReply most due got → IsReply counted due got
earlier_reply most counted due got le (replied e) = replied e
earlier_reply most counted due got le (failed device) = failed (record { before = device.before; after = device.after; is = device.is; accepted = device.accepted; rose = device.rose; later = omega (arith, le, device.later) })

count_step : (b : Bool) (m : PoolEntry) (ms : List PoolEntry) (counted : ℕ) → last_count (entries_of ms) ≤ counted → last_count (entries_of (if b then m ∷ ms else ms)) ≤ max (second_count m.entry.reply) counted
count_step true m ms counted le = omega (arith, le)
count_step false m ms counted le = omega (arith, le)

pub counts_in : (pool : List ℕ) (past : List PoolEntry) → last_count (entries_in pool past) ≤ last_count (entries_of past)
counts_in pool [] = omega arith
counts_in pool (m ∷ past) = count_step (is_in pool m) m (filter (is_in pool) past) (last_count (entries_of past)) (counts_in pool past)

legal_step : (pool : List ℕ) (m : PoolEntry) (past : List PoolEntry) (b : Bool) → is_in pool m ≡ b
    → IsReply (last_count (entries_of past)) (answer (state (entries_in m.pool past)) m.entry.caller m.entry.act) m.entry.reply
    → one.IsLegalPoolPast (entries_in pool past) → one.IsLegalPoolPast (entries_of (if b then m ∷ filter (is_in pool) past else filter (is_in pool) past))
legal_step pool m past true own due legal =
    let here : m.pool ≡ pool = sym ((same_name_is pool m.pool).0 own) in
    let now = subst (λ (q : List ℕ). IsReply (last_count (entries_of past)) (answer (state (entries_in q past)) m.entry.caller m.entry.act) m.entry.reply) here due in
    (earlier_reply (last_count (entries_of past)) (last_count (entries_in pool past)) _ m.entry.reply (counts_in pool past) now, legal)
legal_step pool m past false other due legal = legal

pub legal_past : (pool : List ℕ) (past : List PoolEntry) → IsLegalPast past → one.IsLegalPoolPast (entries_in pool past)
legal_past pool [] legal = tt
legal_past pool (m ∷ past) legal = legal_step pool m past (is_in pool m) refl legal.0 (legal_past pool past legal.1)

pub legal_in : (history : List PoolEntry) (pool : List ℕ) → IsLegal history → one.IsLegalPool (entries_in pool history)
legal_in history pool legal = subst one.IsLegalPoolPast (in_reverse pool history) (legal_past pool (reverse history) legal)

abbrev Valid : Entry → Type 0
Valid e = is_valid e.act ≡ true

valid_step : (b : Bool) (m : PoolEntry) (ms : List PoolEntry) → Valid m.entry → All Valid (entries_of ms) → All Valid (entries_of (if b then m ∷ ms else ms))
valid_step true m ms here rest = All-cons Valid m.entry (entries_of ms) here rest
valid_step false m ms here rest = rest

pub valid_in : (history : List PoolEntry) (pool : List ℕ) → AreValid history → one.AreValidEntries (entries_in pool history)
valid_in [] pool valid = All-nil Valid
valid_in (m ∷ ms) pool valid =
    valid_step (is_in pool m) m (filter (is_in pool) ms) (All-head Valid m.entry (entries_of ms) valid) (valid_in ms pool (All-tail Valid m.entry (entries_of ms) valid))

pub next_in : (history : List PoolEntry) (m : PoolEntry) → MayFollow history m → one.MayFollowInPool (entries_in m.pool history) m.entry
next_in history m joins =
    let counts = subst (λ (es : List Entry). last_count es ≤ last_count (entries_of (reverse history))) (in_reverse m.pool history) (counts_in m.pool (reverse history)) in
    earlier_reply (last_count (entries_of (reverse history))) (last_count (reverse (entries_in m.pool history))) _ m.entry.reply counts joins

pub pools_law : PoolsLaw
pools_law = record { legal = legal_in; valid = valid_in; next = next_in }

join_legal : (history : List PoolEntry) (m : PoolEntry) → IsLegal history → MayFollow history m → IsLegal (history ++ m ∷ [])
join_legal history m legal joins =
    let now = subst (λ (es : List Entry). IsReply (last_count (entries_of (reverse history))) (answer (state es) m.entry.caller m.entry.act) m.entry.reply) (sym (in_reverse m.pool history)) joins in
    subst IsLegalPast (sym (reverse-append history (m ∷ []))) (now, legal)

pub join_law : JoinLaw
join_law = record { legal = join_legal; own = in_own; others = in_other }

pub replay_legal : (calls : List Call) (past : List PoolEntry) → IsLegalPast past → IsLegalPast (replay_after past calls)
replay_legal [] past legal = legal
replay_legal (call ∷ calls) past legal = replay_legal calls (due_member past call ∷ past) (replied refl, legal)

pub pool_replay_law : ReplayLaw
pool_replay_law calls = subst IsLegalPast (sym (reverse-reverse (replay_after [] calls))) (replay_legal calls [] tt)

-- ---- the pool MAIN alone

main_in : (es : List Entry) → entries_in main_pool (map (member_of main_pool) es) ≡ es
main_in [] = refl
main_in (e ∷ es) = ap (λ (rest : List Entry). e ∷ rest) (main_in es)

main_of : (es : List Entry) → entries_of (map (member_of main_pool) es) ≡ es
main_of [] = refl
main_of (e ∷ es) = ap (λ (rest : List Entry). e ∷ rest) (main_of es)

main_reverse : (es : List Entry) → map (member_of main_pool) (reverse es) ≡ reverse (map (member_of main_pool) es)
main_reverse [] = refl
main_reverse (e ∷ es) =
    ap (map (member_of main_pool)) (reverse-append (e ∷ []) es) ∙ map-append (member_of main_pool) (reverse es) (e ∷ [])
    ∙ ap (λ (ms : List PoolEntry). ms ++ member_of main_pool e ∷ []) (main_reverse es)
    ∙ sym (reverse-append (member_of main_pool e ∷ []) (map (member_of main_pool) es))

main_past : (es : List Entry) → one.IsLegalPoolPast es → IsLegalPast (map (member_of main_pool) es)
main_past [] legal = tt
main_past (e ∷ es) legal =
    let counted = subst (λ (xs : List Entry). IsReply (last_count xs) (answer (state es) e.caller e.act) e.reply) (sym (main_of es)) legal.0 in
    (subst (λ (xs : List Entry). IsReply (last_count (entries_of (map (member_of main_pool) es))) (answer (state xs) e.caller e.act) e.reply) (sym (main_in es)) counted, main_past es legal.1)

pub main_law : MainLaw
main_law = record {
  legal = λ es. (
    λ legal. subst one.IsLegalPool (main_in es) (legal_in (map (member_of main_pool) es) main_pool legal),
    λ legal. subst IsLegalPast (main_reverse es) (main_past (reverse es) legal),
  );
  same = main_in;
}

-- ---- an owned round

pub pool_owned_law : OwnedLaw
pool_owned_law history pool before later close caller legal parts is others =
    subst (λ (es : List Entry). StaysOwned caller close (state_of (before ++ close ∷ [])) (state_of es)) (sym parts)
    (owned_law before later close caller (subst one.IsLegalPool parts (legal_in history pool legal)) is others)
