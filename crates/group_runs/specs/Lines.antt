-- What the lines of a load add to a history.
use Rattle.std.specs.Prelude.{◌≡◌, ℕ, Option, None, Some, if◌then◌else◌, true, false, List, [], ◌∷◌, ◌++◌, map}
use Rattle.printed_text.specs.setoff_model.specs.Names.{is_name}
use Rattle.claim_history.specs.declared.call.Call.{Call}
use Rattle.claim_history.specs.declared.call.PoolEntry.{PoolEntry}
use Rattle.claim_history.specs.Acts.{is_close, is_request}
use Rattle.claim_history.specs.PoolNeeds.{is_full}
use Rattle.claim_history.specs.Pools.{accepted_calls, answered, due_reply}
use Rattle.printed_text.specs.limited_book.specs.Limited.{IsFull}
use Rattle.request_text.specs.declared.request.Request.{Request}
use Rattle.request_text.specs.Lanes.{IsLane}
use Rattle.printed_text.specs.served_lines.specs.declared.answer.Answer.{Answer}
use Rattle.printed_text.specs.served_lines.specs.declared.line_end.LineEnd.{LineEnd}
use Rattle.printed_text.specs.served_lines.specs.declared.line_end.LineEnd.TheVariants as ends
use Rattle.printed_text.specs.served_lines.specs.Served.{Line, asked_call}
use Rattle.printed_text.specs.Printing.{printed_of}

-- the lane is one, the pool has a name, and the act is one that a line can ask for, and no Close
pub record CanBeLoaded (request : Request) : Type 0 where
  pub lane : IsLane request.lane
  pub named : is_name request.pool ≡ true
  pub valid : is_request request.act ≡ true
  pub other : is_close request.act ≡ false

-- the number of the first request that is a Close
abbrev pub first_close_of : List Request → Option ℕ
first_close_of [] = None
first_close_of (request ∷ requests) = if is_close request.act then Some request.line else first_close_of requests

-- ---- one line

-- what a request adds after a history that ended so: where it was replied to, its member with the reply that is due
abbrev pub end_adds : List PoolEntry → Request → LineEnd → List PoolEntry
end_adds before request ends.Replied = answered (asked_call request) (due_reply before (asked_call request)) ∷ []
end_adds before request _ = []

-- that it ended so: it was not full where it was replied to, and it was full where that is told
abbrev pub IsEndDue : List PoolEntry → Request → LineEnd → Type 0
IsEndDue before request ends.Replied = is_full before (asked_call request) ≡ false
IsEndDue before request ends.Memory = Unit {0}
IsEndDue before request (ends.Full what needed limit) =
    IsFull before (asked_call request) (record { what = what; needed = needed; limit = limit })

-- ---- lines in the order of the input, whatever their lanes

abbrev pub lines_add : List PoolEntry → List Line → List PoolEntry
lines_add before [] = []
lines_add before (line ∷ lines) =
    end_adds before line.request line.end ++ lines_add (before ++ end_adds before line.request line.end) lines

abbrev pub AreEndsDue : List PoolEntry → List Line → Type 0
AreEndsDue before [] = Unit {0}
AreEndsDue before (line ∷ lines) =
    IsEndDue before line.request line.end × AreEndsDue (before ++ end_adds before line.request line.end) lines

-- the requests of lines
abbrev pub requests_of_lines : List Line → List Request
requests_of_lines lines = map (λ line. line.request) lines

-- what came of the lines, as it is told
abbrev pub answers_of_lines : List Line → List Answer
answers_of_lines lines = map (λ line. record { line = line.request.line; end = line.end }) lines

-- ---- groups of lines in turn

abbrev pub groups_add : List PoolEntry → List (List Line) → List PoolEntry
groups_add before [] = []
groups_add before (group ∷ groups) = lines_add before group ++ groups_add (before ++ lines_add before group) groups

abbrev pub GroupsAreDue : List PoolEntry → List (List Line) → Type 0
GroupsAreDue before [] = Unit {0}
GroupsAreDue before (group ∷ groups) = AreEndsDue before group × GroupsAreDue (before ++ lines_add before group) groups

-- the accepted calls of each group, in the order of the groups
abbrev pub group_calls : List PoolEntry → List (List Line) → List (List Call)
group_calls before [] = []
group_calls before (group ∷ groups) = accepted_calls (lines_add before group) ∷ group_calls (before ++ lines_add before group) groups

-- the text of a group: its entries in order, and then a line for each of its lines that was not replied to
abbrev pub group_text : List PoolEntry → List Line → List ℕ
group_text before lines = printed_of before (lines_add before lines) (answers_of_lines lines)

-- their texts
abbrev pub groups_text : List PoolEntry → List (List Line) → List ℕ
groups_text before [] = []
groups_text before (group ∷ groups) = group_text before group ++ groups_text (before ++ lines_add before group) groups
