-- The rounds of all pools: the cut of each, which of them a history leaves open, and what calls bound.
use Rattle.std.specs.Prelude.{◌≡◌, ◌≤◌, ◌+◌, ◌==◌, ℕ, Bool, false, List, [], ◌∷◌, ◌++◌, count_by}
use Rattle.std.specs.Prelude.{drop, filter, length, map, reverse, take, Option, Some, None}
use Rattle.std.specs.List.{slice_get}
use Rattle.setoff_model.specs.declared.kind.Kind.{Kind}
use Rattle.setoff_model.specs.CutView.{CutView}
use Rattle.claim_history.specs.declared.act.Act.TheVariants as act
use Rattle.claim_history.specs.declared.entry.Reply.{Reply}
use Rattle.claim_history.specs.declared.entry.Reply.TheVariants as reply
use Rattle.claim_history.specs.declared.call.Call.{Call}
use Rattle.claim_history.specs.declared.call.PoolEntry.{PoolEntry}
use Rattle.claim_history.specs.Cut.{cut_of}
use Rattle.claim_history.specs.Acts.{is_filing, is_registration}
use Rattle.claim_history.specs.States.{OpenRound}
use Rattle.claim_history.specs.Pools.{AreValid, IsLegal, entries_in, ledger_in, member_of, open_round_in, state_in}
use Rattle.claim_history.specs.PoolNeeds.{open_in}
use Rattle.claim_history.specs.Rounds as one
use Rattle.claim_history.specs.Rounds.{cut_published, open_cut_of}

-- the cut of the round of this number of a pool
abbrev pub IsRoundCut : List PoolEntry → List ℕ → ℕ → CutView → Type 0
IsRoundCut history pool number cut = one.IsPoolRoundCut (entries_in pool history) number cut

-- the cut of the round that is open in a pool
abbrev pub open_cut_in : List PoolEntry → List ℕ → Option CutView
open_cut_in history pool = open_cut_of (entries_in pool history)

-- the cut is that of the round that the call, a CLOSE, opens next in its pool
abbrev pub IsCutDue : List PoolEntry → Call → CutView → Type 0
IsCutDue history call cut = (kind : Kind) (horizon : ℕ) → call.act ≡ act.Close kind horizon
    → cut ≡ cut_of ((state_in history call.pool).openings + 1) (ledger_in history call.pool) kind horizon

-- ---- the cuts of published rounds

-- the cuts of the rounds that a past published, newest first, each that of the round that was open in its pool
abbrev pub past_cuts : List PoolEntry → List CutView
past_cuts [] = []
past_cuts (m ∷ past) = cut_published (open_in past m.pool) m.entry.reply ++ past_cuts past

-- the cuts of the rounds that a history published, in order
abbrev pub cuts_of : List PoolEntry → List CutView
cuts_of history = reverse (past_cuts (reverse history))

-- those of them that were published after the first so many members
abbrev pub cuts_after : ℕ → List PoolEntry → List CutView
cuts_after count history = drop (length (cuts_of (take count history))) (cuts_of history)

-- one more member adds the cut of the round that it publishes in its pool
abbrev pub CutsLaw : Type 0
CutsLaw = (count : ℕ) (history : List PoolEntry) (m : PoolEntry) → count ≤ length history
    → cuts_after count (history ++ m ∷ []) ≡ cuts_after count history ++ cut_published (open_round_in history m.pool) m.entry.reply

-- ---- how large a cut is

-- a cut has at most as many claims as calls of any pool file one, and as many parties as calls of any pool register a firm
pub record CutIsBounded (history : List PoolEntry) (cut : CutView) : Type 0 where
  pub claims : length cut.claims ≤ count_by (λ m. is_filing m.entry.act) history
  pub parties : length cut.parties ≤ count_by (λ m. is_registration m.entry.act) history

-- so it is of each round of each pool of a legal history of valid acts
abbrev pub CutBoundLaw : Type 0
CutBoundLaw = (history : List PoolEntry) (pool : List ℕ) (number : ℕ) (cut : CutView) → IsLegal history → AreValid history
    → IsRoundCut history pool number cut → CutIsBounded history cut

-- ---- rounds that are left open

-- the reply opened the round that is open now
abbrev pub opened : Option OpenRound → Reply → Bool
opened (Some round) (reply.Opened number) = number == round.cut.round
opened _ _ = false

-- the member opened the round that is open in its pool after the history
abbrev pub is_left_open : List PoolEntry → PoolEntry → Bool
is_left_open history m = opened (open_round_in history m.pool) m.entry.reply

-- the members of a history that opened the rounds that it leaves open, in order
abbrev pub left_open : List PoolEntry → List PoolEntry
left_open history = filter (is_left_open history) history

-- the bureau's own abandonment of the round that a reply opened
abbrev pub ending_reply : Reply → Reply
ending_reply (reply.Opened number) = reply.Abandoned number
ending_reply r = r

abbrev pub ending_of : PoolEntry → PoolEntry
ending_of m = member_of m.pool (record { caller = 0; act = act.Abandon; reply = ending_reply m.entry.reply })

-- the history with one abandonment for each round that it leaves open, in the order of their openings
abbrev pub ended : List PoolEntry → List PoolEntry
ended history = history ++ map ending_of (left_open history)

-- the same for the rounds that its first so many members opened
abbrev pub ended_first : ℕ → List PoolEntry → List PoolEntry
ended_first count history = history ++ map ending_of (filter (is_left_open history) (take count history))

-- a round that a later member opened is not ended by the abandonments of those that earlier ones opened, and none is open after all
pub record EndedLaw : Type 0 where
  pub still : (history : List PoolEntry) (place : ℕ) (m : PoolEntry) → IsLegal history → slice_get history place ≡ Some m
      → is_left_open (ended_first place history) m ≡ is_left_open history m
  pub none : (history : List PoolEntry) (pool : List ℕ) → IsLegal history → open_round_in (ended history) pool ≡ None
