-- The accepted members of a history come to what all of them come to, and their calls come to them when they are asked anew.
use Rattle.std.specs.Prelude.{reverse, filter, if◌then◌else◌}
use Rattle.std.proofs.Common.{◌≡◌, ◌∙◌, Bool, true, false, List, [], ◌∷◌, ◌++◌, map, refl, sym, ap, true≢false, ℕ}
use Rattle.std.proofs.lemmas.List.{map-append, reverse-append, reverse-reverse}
use Rattle.std.proofs.lemmas.List.Elements.{filter-append}
use Rattle.claim_history.specs.declared.act.Act.{Act}
use Rattle.claim_history.specs.declared.call.Call.{Call}
use Rattle.claim_history.specs.declared.call.PoolEntry.{PoolEntry}
use Rattle.claim_history.specs.declared.entry.Reply.{Reply}
use Rattle.claim_history.specs.declared.entry.Reply.TheVariants as reply
use Rattle.claim_history.specs.States.{State, after, state}
use Rattle.claim_history.specs.History.{answer, is_accepted, is_no_refusal, last_count}
use Rattle.claim_history.specs.Pools.{IsLegal, IsLegalPast, accepted_calls, accepted_members, answered, call_of, due_member, due_of_past, entries_in, entries_of, is_in, replay_after}
use Rattle.claim_history.proofs.Replies.{accepted_due}

-- ---- accepted members

pub kept_step : (m : PoolEntry) (members : List PoolEntry) (b : Bool) → is_accepted m.entry ≡ b
    → accepted_members (m ∷ members) ≡ (if b then m ∷ accepted_members members else accepted_members members)
kept_step m members b is = ap (λ (c : Bool). if c then m ∷ accepted_members members else accepted_members members) is

pub kept_append : (xs ys : List PoolEntry) → accepted_members (xs ++ ys) ≡ accepted_members xs ++ accepted_members ys
kept_append xs ys = filter-append (λ (x : PoolEntry). is_accepted x.entry) xs ys

kept_one : (m : PoolEntry) (b : Bool) → is_accepted m.entry ≡ b → reverse (accepted_members (m ∷ [])) ≡ accepted_members (m ∷ [])
kept_one m true is = ap reverse (kept_step m [] true is) ∙ sym (kept_step m [] true is)
kept_one m false is = ap reverse (kept_step m [] false is) ∙ sym (kept_step m [] false is)

pub kept_reverse : (history : List PoolEntry) → accepted_members (reverse history) ≡ reverse (accepted_members history)
kept_reverse [] = refl
kept_reverse (m ∷ history) =
    ap accepted_members (reverse-append (m ∷ []) history) ∙ kept_append (reverse history) (m ∷ [])
    ∙ ap (λ (l : List PoolEntry). l ++ accepted_members (m ∷ [])) (kept_reverse history)
    ∙ ap (λ (l : List PoolEntry). reverse (accepted_members history) ++ l) (sym (kept_one m (is_accepted m.entry) refl))
    ∙ sym (reverse-append (accepted_members (m ∷ [])) (accepted_members history)) ∙ ap reverse (sym (kept_append (m ∷ []) history))

-- ---- a refusal changes nothing

refusal_same : (caller : ℕ) (a : Act) (r : Reply) (s : State) → is_no_refusal r ≡ false → after caller a r s ≡ s
refusal_same caller a (reply.Refused w) s none = refl
refusal_same caller a r s none = absurd (true≢false none)

-- one more member of a pool, or of another one
more_by : (m : PoolEntry) (b : Bool) (xs ys : List PoolEntry) → state (entries_of xs) ≡ state (entries_of ys)
    → state (entries_of (if b then m ∷ xs else xs)) ≡ state (entries_of (if b then m ∷ ys else ys))
more_by m true xs ys same = ap (after m.entry.caller m.entry.act m.entry.reply) same
more_by m false xs ys same = same

refused_by : (m : PoolEntry) (b : Bool) (xs : List PoolEntry) → is_accepted m.entry ≡ false → state (entries_of (if b then m ∷ xs else xs)) ≡ state (entries_of xs)
refused_by m true xs is = refusal_same m.entry.caller m.entry.act m.entry.reply (state (entries_of xs)) is
refused_by m false xs is = refl

pub more_in : (pool : List ℕ) (m : PoolEntry) (xs ys : List PoolEntry) → state (entries_in pool xs) ≡ state (entries_in pool ys)
    → state (entries_in pool (m ∷ xs)) ≡ state (entries_in pool (m ∷ ys))
more_in pool m xs ys same = more_by m (is_in pool m) (filter (is_in pool) xs) (filter (is_in pool) ys) same

pub refused_in : (pool : List ℕ) (m : PoolEntry) (past : List PoolEntry) → is_accepted m.entry ≡ false
    → state (entries_in pool (m ∷ past)) ≡ state (entries_in pool past)
refused_in pool m past is = refused_by m (is_in pool m) (filter (is_in pool) past) is

same_state_by : (pool : List ℕ) (m : PoolEntry) (past : List PoolEntry) (b : Bool) → is_accepted m.entry ≡ b
    → state (entries_in pool (accepted_members past)) ≡ state (entries_in pool past)
    → state (entries_in pool (accepted_members (m ∷ past))) ≡ state (entries_in pool (m ∷ past))
same_state_by pool m past true is same =
    ap (λ (ms : List PoolEntry). state (entries_in pool ms)) (kept_step m past true is) ∙ more_in pool m (accepted_members past) past same
same_state_by pool m past false is same =
    ap (λ (ms : List PoolEntry). state (entries_in pool ms)) (kept_step m past false is) ∙ same ∙ sym (refused_in pool m past is)

-- a past comes to what its accepted members come to, in each pool
pub same_state : (pool : List ℕ) (past : List PoolEntry) → state (entries_in pool (accepted_members past)) ≡ state (entries_in pool past)
same_state pool [] = refl
same_state pool (m ∷ past) = same_state_by pool m past (is_accepted m.entry) refl (same_state pool past)

pub same_due : (past : List PoolEntry) (call : Call) → due_of_past (accepted_members past) call ≡ due_of_past past call
same_due past call = ap (λ (s : State). answer s call.caller call.act) (same_state call.pool past)

-- ---- the replay

pub replay_append : (past : List PoolEntry) (xs ys : List Call) → replay_after past (xs ++ ys) ≡ replay_after (replay_after past xs) ys
replay_append past [] ys = refl
replay_append past (x ∷ xs) ys = replay_append (due_member past x ∷ past) xs ys

abbrev again : List PoolEntry → List PoolEntry
again past = replay_after [] (map call_of (reverse past))

again_by : (m : PoolEntry) (past : List PoolEntry) (b : Bool) → is_accepted m.entry ≡ b → IsLegalPast (m ∷ past)
    → again (accepted_members past) ≡ accepted_members past → again (accepted_members (m ∷ past)) ≡ accepted_members (m ∷ past)
again_by m past true is legal same =
    let before = accepted_members past in
    let calls : map call_of (reverse (m ∷ before)) ≡ map call_of (reverse before) ++ call_of m ∷ [] = ap (map call_of) (reverse-append (m ∷ []) before) ∙ map-append call_of (reverse before) (m ∷ []) in
    let told : due_of_past before (call_of m) ≡ m.entry.reply = same_due past (call_of m) ∙ accepted_due (last_count (entries_of past)) (due_of_past past (call_of m)) m.entry.reply legal.0 is in
    ap again (kept_step m past true is) ∙ ap (replay_after []) calls ∙ replay_append [] (map call_of (reverse before)) (call_of m ∷ [])
    ∙ ap (λ (p : List PoolEntry). due_member p (call_of m) ∷ p) same ∙ ap (λ (r : Reply). answered (call_of m) r ∷ before) told ∙ sym (kept_step m past true is)
again_by m past false is legal same = ap again (kept_step m past false is) ∙ same ∙ sym (kept_step m past false is)

kept_again : (past : List PoolEntry) → IsLegalPast past → again (accepted_members past) ≡ accepted_members past
kept_again [] legal = refl
kept_again (m ∷ past) legal = again_by m past (is_accepted m.entry) refl legal (kept_again past legal.1)

-- the calls of the accepted members come to them
pub replayed_past : (history : List PoolEntry) → IsLegal history → replay_after [] (accepted_calls history) ≡ accepted_members (reverse history)
replayed_past history legal =
    ap (λ (l : List PoolEntry). replay_after [] (map call_of l)) (sym (reverse-reverse (accepted_members history)) ∙ ap reverse (sym (kept_reverse history)))
    ∙ kept_again (reverse history) legal
