-- What lines and groups add, one more behind the others.
use Rattle.std.proofs.Common.{◌≡◌, ◌∙◌, ℕ, ◌≤◌, ◌^◌, true, false, List, [], ◌∷◌, ◌++◌, length, map, drop, refl, sym, ap, ap₂, subst, append_assoc, arith, length-append}
use Rattle.std.specs.Prelude.{All}
use Rattle.std.proofs.lemmas.List.{append-nil, drop_all, take_all}
use Rattle.std.proofs.lemmas.List.Elements.{All-head, All-tail}
use Rattle.std.proofs.lemmas.Bool.{le-leb, lt-ltb}
use Rattle.claim_history.specs.declared.call.Call.{Call}
use Rattle.claim_history.specs.declared.call.PoolEntry.{PoolEntry}
use Rattle.claim_history.specs.Acts.{is_publication}
use Rattle.claim_history.specs.Pools.{accepted_calls, answered, due_reply, open_round_in, state_in}
use Rattle.claim_history.specs.PoolRounds.{cuts_after, cuts_of}
use Rattle.claim_history.proofs.Calls.{accepted_append}
use Rattle.claim_history.proofs.PoolCuts.{cuts_law}
use Rattle.claim_history.proofs.Published.{answer_publishes}
use Rattle.claim_history.proofs.Shapes.{request_apart, request_valid}
use Rattle.printed_text.specs.setoff_model.specs.CutView.{CutView}
use Rattle.printed_text.specs.act_bodies.specs.Bodies.{is_keepable}
use Rattle.request_text.specs.declared.request.Request.{Request}
use Rattle.printed_text.specs.served_lines.specs.declared.line_end.LineEnd.{LineEnd}
use Rattle.printed_text.specs.served_lines.specs.declared.line_end.LineEnd.TheVariants as ends
use Rattle.printed_text.specs.served_lines.specs.Served.{Line, asked_call}
use Rattle.printed_text.specs.Printing.{printed_of}
use Rattle.group_loader.specs.Groups.{joined}
use Rattle.group_runs.specs.Lines.{AreEndsDue, CanBeLoaded, GroupsAreDue, IsEndDue, answers_of_lines, end_adds, group_calls, groups_add, groups_text, lines_add}

-- ---- a request that can be loaded

pub keepable_request : (request : Request) → CanBeLoaded request → is_keepable (asked_call request) ≡ true
unfolding is_keepable
keepable_request request can =
    rw (lt-ltb request.lane (2 ^ 32) (omega (arith, can.lane.1))) (rw can.named (rw (request_valid request.act can.valid) (rw (le-leb 1 request.lane can.lane.0) refl)))

-- ---- one line more

pub lines_more : (before : List PoolEntry) (lines : List Line) (line : Line)
    → lines_add before (lines ++ line ∷ []) ≡ lines_add before lines ++ end_adds (before ++ lines_add before lines) line.request line.end
lines_more before [] line =
    append-nil (end_adds before line.request line.end)
    ∙ ap (λ (h : List PoolEntry). end_adds h line.request line.end) (sym (append-nil before))
lines_more before (x ∷ lines) line =
    let here = end_adds before x.request x.end in
    ap (λ (l : List PoolEntry). here ++ l) (lines_more (before ++ here) lines line)
    ∙ sym (append_assoc here (lines_add (before ++ here) lines) (end_adds ((before ++ here) ++ lines_add (before ++ here) lines) line.request line.end))
    ∙ ap (λ (h : List PoolEntry). (here ++ lines_add (before ++ here) lines) ++ end_adds h line.request line.end) (append_assoc before here (lines_add (before ++ here) lines))

pub due_more : (before : List PoolEntry) (lines : List Line) (line : Line) → AreEndsDue before lines
    → IsEndDue (before ++ lines_add before lines) line.request line.end → AreEndsDue before (lines ++ line ∷ [])
due_more before [] line all due = (subst (λ (h : List PoolEntry). IsEndDue h line.request line.end) (append-nil before) due, tt)
due_more before (x ∷ lines) line all due =
    let here = end_adds before x.request x.end in (
      all.0,
      due_more (before ++ here) lines line all.1 (subst (λ (h : List PoolEntry). IsEndDue h line.request line.end) (sym (append_assoc before here (lines_add (before ++ here) lines))) due),
    )

-- ---- lines publish nothing

cuts_none : (history : List PoolEntry) → cuts_after (length history) history ≡ []
cuts_none history =
    ap (λ (h : List PoolEntry). drop (length (cuts_of h)) (cuts_of history)) (take_all (length history) history (omega arith))
    ∙ drop_all (length (cuts_of history)) (cuts_of history) (omega arith)

-- a member with a due reply, whose act is no publication, adds no cut
module _ (count : ℕ) (history : List PoolEntry) (few : count ≤ length history) (none : cuts_after count history ≡ []) where
  one_publishes : (request : Request) (end : LineEnd) → is_publication request.act ≡ false → cuts_after count (history ++ end_adds history request end) ≡ []
  one_publishes request ends.Replied apart =
      let m = answered (asked_call request) (due_reply history (asked_call request)) in
      cuts_law count history m few
      ∙ ap₂ (λ (a b : List CutView). a ++ b) none (answer_publishes (state_in history request.pool) request.lane request.act apart (open_round_in history request.pool))
  one_publishes request ends.Memory apart = ap (cuts_after count) (append-nil history) ∙ none
  one_publishes request (ends.Full what needed limit) apart = ap (cuts_after count) (append-nil history) ∙ none

pub none_publishes : (count : ℕ) (history : List PoolEntry) (lines : List Line) → count ≤ length history → cuts_after count history ≡ []
    → All CanBeLoaded (map (λ line. line.request) lines) → cuts_after count (history ++ lines_add history lines) ≡ []
none_publishes count history [] few none all = ap (cuts_after count) (append-nil history) ∙ none
none_publishes count history (x ∷ lines) few none all =
    let here = end_adds history x.request x.end in
    let requests = map (λ (line : Line). line.request) lines in
    let can = All-head CanBeLoaded x.request requests all in
    ap (cuts_after count) (sym (append_assoc history here (lines_add (history ++ here) lines)))
    ∙ none_publishes count (history ++ here) lines (omega (arith, few, length-append history here))
    (one_publishes count history few none x.request x.end (request_apart x.request.act can.valid))
    (All-tail CanBeLoaded x.request requests all)

pub no_cuts : (history : List PoolEntry) (lines : List Line) → All CanBeLoaded (map (λ line. line.request) lines)
    → cuts_after (length history) (history ++ lines_add history lines) ≡ []
no_cuts history lines all = none_publishes (length history) history lines (omega arith) (cuts_none history) all

-- ---- groups behind groups

pub groups_more : (before : List PoolEntry) (groups later : List (List Line))
    → groups_add before (groups ++ later) ≡ groups_add before groups ++ groups_add (before ++ groups_add before groups) later
groups_more before [] later = ap (λ (h : List PoolEntry). groups_add h later) (sym (append-nil before))
groups_more before (g ∷ groups) later =
    let here = lines_add before g in
    let rest = groups_add (before ++ here) groups in
    ap (λ (l : List PoolEntry). here ++ l) (groups_more (before ++ here) groups later)
    ∙ sym (append_assoc here rest (groups_add ((before ++ here) ++ rest) later))
    ∙ ap (λ (h : List PoolEntry). (here ++ rest) ++ groups_add h later) (append_assoc before here rest)

pub groups_due : (before : List PoolEntry) (groups later : List (List Line)) → GroupsAreDue before groups
    → GroupsAreDue (before ++ groups_add before groups) later → GroupsAreDue before (groups ++ later)
groups_due before [] later all due = subst (λ (h : List PoolEntry). GroupsAreDue h later) (append-nil before) due
groups_due before (g ∷ groups) later all due =
    let here = lines_add before g in
    (all.0, groups_due (before ++ here) groups later all.1 (subst (λ (h : List PoolEntry). GroupsAreDue h later) (sym (append_assoc before here (groups_add (before ++ here) groups))) due))

pub calls_more : (before : List PoolEntry) (groups later : List (List Line))
    → group_calls before (groups ++ later) ≡ group_calls before groups ++ group_calls (before ++ groups_add before groups) later
calls_more before [] later = ap (λ (h : List PoolEntry). group_calls h later) (sym (append-nil before))
calls_more before (g ∷ groups) later =
    let here = lines_add before g in
    ap (λ (l : List (List Call)). accepted_calls here ∷ l)
    (calls_more (before ++ here) groups later
    ∙ ap (λ (h : List PoolEntry). group_calls (before ++ here) groups ++ group_calls h later) (append_assoc before here (groups_add (before ++ here) groups)))

pub text_more : (before : List PoolEntry) (groups later : List (List Line))
    → groups_text before (groups ++ later) ≡ groups_text before groups ++ groups_text (before ++ groups_add before groups) later
text_more before [] later = ap (λ (h : List PoolEntry). groups_text h later) (sym (append-nil before))
text_more before (g ∷ groups) later =
    let here = lines_add before g in
    let told = printed_of before here (answers_of_lines g) in
    let rest = groups_text (before ++ here) groups in
    ap (λ (t : List ℕ). told ++ t) (text_more (before ++ here) groups later)
    ∙ sym (append_assoc told rest (groups_text ((before ++ here) ++ groups_add (before ++ here) groups) later))
    ∙ ap (λ (h : List PoolEntry). (told ++ rest) ++ groups_text h later) (append_assoc before here (groups_add (before ++ here) groups))

-- the accepted calls of groups are those of their members
pub calls_joined : (before : List PoolEntry) (groups : List (List Line)) → accepted_calls (groups_add before groups) ≡ joined (group_calls before groups)
calls_joined before [] = refl
calls_joined before (g ∷ groups) =
    let here = lines_add before g in
    accepted_append here (groups_add (before ++ here) groups) ∙ ap (λ (l : List Call). accepted_calls here ++ l) (calls_joined (before ++ here) groups)

pub calls_after_groups : (before : List PoolEntry) (groups : List (List Line))
    → accepted_calls (before ++ groups_add before groups) ≡ accepted_calls before ++ joined (group_calls before groups)
calls_after_groups before groups = accepted_append before (groups_add before groups) ∙ ap (λ (l : List Call). accepted_calls before ++ l) (calls_joined before groups)
