-- Histories of several pools, at worked cases.
use Rattle.std.specs.Prelude.{◌+◌, codes, drop, map, pos, Some}
use Rattle.std.proofs.Common.{◌≡◌, ℕ, List, [], ◌∷◌, ◌++◌, refl}
use Rattle.claim_history.specs.declared.act.Act.TheVariants as act
use Rattle.claim_history.specs.declared.call.Call.{Call}
use Rattle.claim_history.specs.declared.call.PoolEntry.{PoolEntry}
use Rattle.claim_history.specs.declared.entry.Reply.{Reply}
use Rattle.claim_history.specs.declared.entry.Reply.TheVariants as reply
use Rattle.claim_history.specs.declared.entry.Why.TheVariants as why
use Rattle.claim_history.specs.Needs.{body_length_of}
use Rattle.claim_history.specs.Pools.{main_pool, replay_of}
use Rattle.claim_history.specs.PoolNeeds.{needed_bytes_of, needed_entries_of, pool_bytes, reserved_bytes_of, reserved_entries_of, used_bytes_of}
use Rattle.claim_history.specs.PoolRounds.{ended}
use Rattle.text_tests.proofs.Worked.{position}
use Rattle.text_tests.proofs.WorkedRounds.{A, B, by, key, circle, circle_outcome, close_plain}

abbrev EAST : List ℕ
EAST = codes "EAST"

abbrev in_pool : List ℕ → Call → Call
in_pool pool call = record call { pool = pool }

abbrev replies : List Call → List Reply
replies calls = map (λ (m : PoolEntry). m.entry.reply) (replay_of calls)

-- ---- one firm in two pools

abbrev firms : List Call
firms = in_pool main_pool (by 1 (act.Firm A)) ∷ in_pool EAST (by 1 (act.Firm A)) ∷ in_pool EAST (by 1 (act.Position A)) ∷ []

firms_replies : replies firms ≡ reply.Done ∷ reply.Done ∷ position (pos 0) 0 0 ∷ []
firms_replies = refl

-- the body of the second act
east_body : body_length_of (act.Firm A) + pool_bytes EAST ≡ 13
east_body = refl

-- and of one that confirms a part
part_body : body_length_of (act.Confirm (key B (codes "I-1")) A (Some 600)) + pool_bytes EAST ≡ 27
part_body = refl

-- ---- rounds of two pools side by side

abbrev two_pools : List Call
two_pools = map (in_pool main_pool) circle ++ in_pool main_pool (by 1 close_plain) ∷ in_pool EAST (by 2 close_plain) ∷ []

abbrev publish : List Call
publish = in_pool EAST (by 2 (act.Publish 1 (record { discharges = []; prices = [] }))) ∷ in_pool main_pool (by 1 (act.Publish 1 circle_outcome)) ∷ []

two_pools_replies : drop 9 (replies (two_pools ++ publish)) ≡ reply.Opened 1 ∷ reply.Opened 1 ∷ reply.Published 0 ∷ reply.Published 2100 ∷ []
two_pools_replies = refl

-- each pool has an owner of its own
not_owner : drop 11 (replies (two_pools ++ in_pool main_pool (by 2 act.Abandon) ∷ in_pool EAST (by 2 act.Abandon) ∷ [])) ≡ reply.Refused (why.NotOwner 1) ∷ reply.Abandoned 1 ∷ []
not_owner = refl

-- ---- what two open rounds reserve

abbrev empty_rounds : List Call
empty_rounds = in_pool main_pool (by 1 close_plain) ∷ in_pool EAST (by 1 close_plain) ∷ []

empty_rounds_bytes : used_bytes_of (replay_of empty_rounds) ≡ 45
empty_rounds_bytes = refl

-- 32 bytes for the pool MAIN, and 32 with twice the bytes of its name for the pool EAST
empty_rounds_reserve : reserved_bytes_of (replay_of empty_rounds) ≡ 76
empty_rounds_reserve = refl

empty_rounds_entries : reserved_entries_of (replay_of empty_rounds) ≡ 4
empty_rounds_entries = refl

abbrev abandoned : List Call
abandoned = empty_rounds ++ in_pool main_pool (by 0 act.Abandon) ∷ in_pool EAST (by 0 act.Abandon) ∷ []

abandoned_replies : drop 2 (replies abandoned) ≡ reply.Abandoned 1 ∷ reply.Abandoned 1 ∷ []
abandoned_replies = refl

-- they are what ends the rounds that are left open
abandoned_are : ended (replay_of empty_rounds) ≡ replay_of abandoned
abandoned_are = refl

abandoned_bytes : used_bytes_of (replay_of abandoned) ≡ 71
abandoned_bytes = refl

abandoned_reserve : reserved_bytes_of (replay_of abandoned) ≡ 0
abandoned_reserve = refl

-- an act of one pool needs what the rounds of both reserve
needs_both : needed_bytes_of (replay_of empty_rounds) (in_pool EAST (by 1 (act.Firm A))) ≡ 45 + 18 + 76
needs_both = refl

needs_entries : needed_entries_of (replay_of empty_rounds) (in_pool EAST (by 1 (act.Firm A))) ≡ 2 + 1 + 4
needs_entries = refl
