-- A batch and what came of its lines.
use Rattle.std.specs.Prelude.{◌≡◌, ◌⊎◌, ◌&&◌, ◌==◌, ◌≤◌, ℕ, Bool, true, false, List, [], ◌∷◌, ◌++◌, length, drop, map, filter}
use Rattle.std.specs.List.{list_all, list_any}
use mathlib.Core.List.{IsPrefix}
use Rattle.limited_book.specs.setoff_model.specs.CutView.{CutView, OutcomeView, obligations}
use Rattle.limited_book.specs.setoff_model.specs.Same.{same_name}
use Rattle.limited_book.specs.setoff_model.specs.Setoff.{Proves, IsOldestFirst}
use Rattle.limited_book.specs.claim_history.specs.declared.act.Act.{Act}
use Rattle.limited_book.specs.claim_history.specs.declared.act.Act.TheVariants as act
use Rattle.limited_book.specs.claim_history.specs.declared.call.Call.{Call}
use Rattle.limited_book.specs.claim_history.specs.declared.call.PoolEntry.{PoolEntry}
use Rattle.limited_book.specs.claim_history.specs.declared.entry.Reply.{Reply}
use Rattle.limited_book.specs.claim_history.specs.declared.entry.Reply.TheVariants as reply
use Rattle.limited_book.specs.claim_history.specs.declared.entry.Why.TheVariants as why
use Rattle.limited_book.specs.claim_history.specs.History.{is_accepted}
use Rattle.limited_book.specs.claim_history.specs.Acts.{is_close}
use Rattle.limited_book.specs.claim_history.specs.Laws.{round_in}
use Rattle.limited_book.specs.claim_history.specs.Pools.{members_by}
use Rattle.limited_book.specs.claim_history.specs.PoolRounds.{IsRoundCut}
use Rattle.limited_book.specs.Limited.{IsFull}
use Rattle.limited_book.specs.declared.full.Full.{Full}
use Rattle.request_text.specs.declared.request.Request.{Request}
use Rattle.served_lines.specs.declared.answer.Answer.{Answer}
use Rattle.served_lines.specs.declared.line_end.LineEnd.{LineEnd}
use Rattle.served_lines.specs.declared.line_end.LineEnd.TheVariants as ends

-- the call of a request: its lane is the caller
abbrev pub asked_call : Request → Call
asked_call request = record { caller = request.lane; pool = request.pool; act = request.act }

-- the requests of one lane
abbrev pub of_lane : ℕ → List Request → List Request
of_lane lane requests = filter (λ request. request.lane == lane) requests

-- the member is of the request's call
pub record IsCall (request : Request) (m : PoolEntry) : Type 0 where
  pub by : m.entry.caller ≡ request.lane
  pub in_pool : m.pool ≡ request.pool
  pub asks : m.entry.act ≡ request.act

-- a member that is refused, or of another verb than Close
abbrev pub EndsAtOnce : Act → PoolEntry → Type 0
EndsAtOnce (act.Close kind horizon) m = is_accepted m.entry ≡ false
EndsAtOnce _ m = Unit {0}

-- the request is a Close, and the member accepts it for this round
pub record IsCloseFor (request : Request) (round : ℕ) (m : PoolEntry) : Type 0 where
  pub call : IsCall request m
  pub closes : is_close request.act ≡ true
  pub accepted : is_accepted m.entry ≡ true
  pub round_is : round_in m.entry.reply ≡ round

-- the round is published, or the disk failed
abbrev pub IsEnding : Reply → Type 0
IsEnding (reply.Published total) = Unit {0}
IsEnding (reply.Refused (why.Device before counted)) = Unit {0}
IsEnding _ = ⊥

-- the publication of the round by the request's lane in the request's pool, whose outcome is proved for the round's cut and oldest
-- first
pub record IsPublicationOf (whole : List PoolEntry) (request : Request) (round : ℕ) (m : PoolEntry) : Type 0 where
  pub outcome : OutcomeView
  pub cut : CutView
  pub by : m.entry.caller ≡ request.lane
  pub in_pool : m.pool ≡ request.pool
  pub asks : m.entry.act ≡ act.Publish round outcome
  pub ends : IsEnding m.entry.reply
  pub cut_is : IsRoundCut whole request.pool round cut
  pub proved : Proves (obligations cut) outcome.discharges outcome.prices
  pub oldest_first : IsOldestFirst (obligations cut) outcome.discharges

-- one member, which ends at once
pub record IsOne (request : Request) (members : List PoolEntry) : Type 0 where
  pub call : PoolEntry
  pub is : members ≡ call ∷ []
  pub asks : IsCall request call
  pub ends : EndsAtOnce request.act call

-- an accepted Close alone
pub record IsClose (request : Request) (members : List PoolEntry) : Type 0 where
  pub round : ℕ
  pub close : PoolEntry
  pub is : members ≡ close ∷ []
  pub closes : IsCloseFor request round close

-- an accepted Close and the publication of its round
pub record IsRound (whole : List PoolEntry) (request : Request) (members : List PoolEntry) : Type 0 where
  pub round : ℕ
  pub close : PoolEntry
  pub publication : PoolEntry
  pub is : members ≡ close ∷ publication ∷ []
  pub closes : IsCloseFor request round close
  pub publishes : IsPublicationOf whole request round publication

-- Somewhere past the opened members, where the caller had done these since, the call was full as is told.
pub record WasFull (whole : List PoolEntry) (opened : ℕ) (done : List PoolEntry) (call : Call) (full : Full) : Type 0 where
  pub place : List PoolEntry
  pub begins : IsPrefix place whole
  pub past : opened ≤ length place
  pub done_is : members_by call.caller (drop opened place) ≡ done
  pub is_full : IsFull place call full

-- the members of a line, after those that its lane had done since the opening
abbrev pub LineAdds : List PoolEntry → ℕ → List PoolEntry → Request → LineEnd → List PoolEntry → Type 0
LineAdds whole opened done request ends.Replied members = IsOne request members ⊎ IsRound whole request members
LineAdds whole opened done request ends.Memory members = (members ≡ []) ⊎ IsClose request members
LineAdds whole opened done request (ends.Full what needed limit) members =
    (members ≡ []) × WasFull whole opened done (asked_call request) (record { what = what; needed = needed; limit = limit })

-- a request and what came of it
pub record Line : Type 0 where
  pub request : Request
  pub end : LineEnd

-- the members of lines in turn
abbrev pub LinesAdd : List PoolEntry → ℕ → List PoolEntry → List Line → List PoolEntry → Type 0
LinesAdd whole opened done [] members = members ≡ []
LinesAdd whole opened done (line ∷ lines) members =
    (front later : List PoolEntry) × (members ≡ front ++ later) × LineAdds whole opened done line.request line.end front
    × LinesAdd whole opened (done ++ front) lines later

-- each request with what came of it
abbrev pub lines_of : List Request → List Answer → List Line
lines_of [] answers = []
lines_of (request ∷ requests) [] = []
lines_of (request ∷ requests) (answer ∷ answers) = record { request = request; end = answer.end } ∷ lines_of requests answers

-- the lines of one lane
abbrev pub lane_lines : ℕ → List Request → List Answer → List Line
lane_lines lane requests answers = filter (λ line. line.request.lane == lane) (lines_of requests answers)

-- the member is by the lane and in the pool of the request
abbrev pub is_asked_by : PoolEntry → Request → Bool
is_asked_by m request = request.lane == m.entry.caller && same_name request.pool m.pool

-- so it is of one of the requests
abbrev pub has_request : List Request → PoolEntry → Bool
has_request requests m = list_any (is_asked_by m) requests

-- Each line of the batch has its answer. After this history each member that was added has the lane and the pool of a request of the
-- batch, and the members of each lane are those of its lines in order.
pub record IsServed (batch : List Request) (answers : List Answer) (before added : List PoolEntry) : Type 0 where
  pub answered : map (λ answer. answer.line) answers ≡ map (λ request. request.line) batch
  pub asked : list_all (has_request batch) added ≡ true
  pub each : (lane : ℕ) → LinesAdd (before ++ added) (length before) [] (lane_lines lane batch answers) (members_by lane added)
