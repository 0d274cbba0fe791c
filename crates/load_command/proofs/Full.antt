-- Within the bound of the journal and the input no line of a load is full.
use Rattle.std.specs.Prelude.{map, drop, take, ◌==◌, ◌&&◌, ◌||◌, if◌then◌else◌}
use Rattle.std.proofs.Common.{◌≡◌, ◌∙◌, inl, ℕ, zero, suc, ◌≤◌, Bool, true, false, List, All, [], ◌∷◌, ◌++◌, length, refl, sym, ap, ap₂, subst, true≢false, append_assoc, arith}
use Rattle.std.proofs.lemmas.Bool.{eq-eqb}
use Rattle.std.proofs.lemmas.List.{append-nil, length-drop, map-append, take-append-drop}
use Rattle.std.proofs.lemmas.List.Concat.{flat_map-append, flat_map-cons}
use Rattle.std.proofs.lemmas.List.Elements.{All-cons, All-head, All-nil, All-tail}
use Rattle.std.proofs.Math.Seq.{drop-length}
use Rattle.setoff_model.specs.Names.{is_name}
use Rattle.setoff_model.proofs.Lists.{All-first}
use Rattle.setoff_model.proofs.SameNames.{name_same}
use Rattle.journal_texts.specs.bureau_desk.specs.claim_history.specs.declared.act.Act.{Act}
use Rattle.journal_texts.specs.bureau_desk.specs.claim_history.specs.declared.act.Act.TheVariants as act
use Rattle.journal_texts.specs.bureau_desk.specs.claim_history.specs.declared.call.PoolEntry.{PoolEntry}
use Rattle.journal_texts.specs.bureau_desk.specs.claim_history.specs.Acts.{is_close, is_request}
use Rattle.journal_texts.specs.bureau_desk.specs.claim_history.specs.Pools.{AreValid, IsLegal, answered, due_reply, members_by}
use Rattle.journal_texts.specs.bureau_desk.specs.round_journal.specs.declared.record.Record.{Record}
use Rattle.journal_texts.specs.bureau_desk.specs.journal_replay.specs.Replays.{history_of}
use Rattle.journal_texts.specs.bureau_desk.specs.recorded_book.specs.Acting.{IsOpenedHistory}
use Rattle.journal_texts.specs.printed_text.specs.request_text.specs.declared.request.Request.{Request}
use Rattle.journal_texts.specs.printed_text.specs.served_lines.specs.declared.answer.Answer.{Answer}
use Rattle.journal_texts.specs.printed_text.specs.served_lines.specs.declared.line_end.LineEnd.{LineEnd}
use Rattle.journal_texts.specs.printed_text.specs.served_lines.specs.declared.line_end.LineEnd.TheVariants as ends
use Rattle.journal_texts.specs.printed_text.specs.served_lines.specs.Bound.{AreRequests, IsWithinBound}
use Rattle.journal_texts.specs.printed_text.specs.served_lines.specs.Ends.{has_line_end, is_full_end}
use Rattle.journal_texts.specs.printed_text.specs.served_lines.specs.Served.{EndsAtOnce, IsServed, Line, LinesAdd, asked_call, lane_lines}
use Rattle.journal_texts.specs.printed_text.specs.served_lines.proofs.Bound.{bound_law}
use Rattle.journal_texts.specs.printed_text.specs.declared.exit_status.ExitStatus.{ExitStatus}
use Rattle.journal_texts.specs.Journals.{HasRoomForAll}
use Rattle.journal_texts.proofs.Room.{opened_within}
use Rattle.group_runs.specs.declared.limits.TheConstants.{GROUP_LINES}
use Rattle.group_runs.specs.Lines.{AreEndsDue, CanBeLoaded, GroupsAreDue, IsEndDue, answers_of_lines, end_adds, groups_add, lines_add, requests_of_lines}
use Rattle.group_runs.specs.Runs.{CanAllBeLoaded, KeepsHistory, cut_batch, groups_of, some_end}
use Rattle.load_command.specs.Headline.{LoadEnd, all_kept, disk_failed, requests_of, sink_failed}
use Rattle.load_command.proofs.Fronts.{legal_front, valid_front}

-- ---- one line, as a batch of one request

-- a request that is no Close ends at once
other_ends : (a : Act) (m : PoolEntry) → is_close a ≡ false → EndsAtOnce a m
other_ends (act.Close kind horizon) m other = absurd (true≢false other)
other_ends a m other = tt

module _ (before : List PoolEntry) (r : Request) (can : CanBeLoaded r) where
  abbrev answer_of : LineEnd → Answer
  answer_of end = record { line = r.line; end = end }

  abbrev line_of : LineEnd → Line
  line_of end = record { request = r; end = end }

  abbrev member : PoolEntry
  member = answered (asked_call r) (due_reply before (asked_call r))

  -- the line is the only one of its lane, and of other lanes there is none
  replied_adds : (b : Bool) → LinesAdd (before ++ member ∷ []) (length before) [] (if b then line_of ends.Replied ∷ [] else []) (if b then member ∷ [] else [])
  replied_adds true = (member ∷ [], [], refl, inl (record { call = member; is = refl; asks = record { by = refl; in_pool = refl; asks = refl }; ends = other_ends r.act member can.other }), refl)
  replied_adds false = refl

  memory_adds : (b : Bool) → LinesAdd (before ++ []) (length before) [] (if b then line_of ends.Memory ∷ [] else []) []
  memory_adds true = ([], [], refl, inl refl, refl)
  memory_adds false = refl

  each_adds : (end : LineEnd) → IsEndDue before r end → (lane : ℕ)
      → LinesAdd (before ++ end_adds before r end) (length before) [] (lane_lines lane (r ∷ []) (answer_of end ∷ [])) (members_by lane (end_adds before r end))
  each_adds ends.Replied due lane = replied_adds (r.lane == lane)
  each_adds ends.Memory due lane = memory_adds (r.lane == lane)
  each_adds (ends.Full what needed limit) due lane = full_adds (r.lane == lane) where
    full_adds : (b : Bool) → LinesAdd (before ++ []) (length before) [] (if b then line_of (ends.Full what needed limit) ∷ [] else []) []
    full_adds true = (
      [],
      [],
      refl,
      (
        refl,
        record {
          place = before;
          begins = ([], refl);
          past = omega arith;
          done_is = ap (members_by r.lane) (drop-length before);
          is_full = due;
        },
      ),
      refl,
    )
    full_adds false = refl

  each_asked : (end : LineEnd) → IsEndDue before r end → IsServed (r ∷ []) (answer_of end ∷ []) before (end_adds before r end)
  each_asked ends.Replied due = record {
    answered = refl;
    asked = ap₂ (λ (a b : Bool). ((a && b) || false) && true) (eq-eqb r.lane r.lane refl) (name_same r.pool);
    each = each_adds ends.Replied due;
  }
  each_asked ends.Memory due = record { answered = refl; asked = refl; each = each_adds ends.Memory due }
  each_asked (ends.Full what needed limit) due = record { answered = refl; asked = refl; each = each_adds (ends.Full what needed limit) due }

  is_asked : AreRequests (r ∷ [])
  is_asked = record {
    pools = All-cons (λ (x : Request). is_name x.pool ≡ true) r [] can.named (All-nil (λ (x : Request). is_name x.pool ≡ true));
    valid = All-cons (λ (x : Request). is_request x.act ≡ true) r [] can.valid (All-nil (λ (x : Request). is_request x.act ≡ true));
  }

  line_fits : (end : LineEnd) (later : List Request) → IsEndDue before r end → IsLegal (before ++ end_adds before r end) → AreValid (before ++ end_adds before r end) → IsWithinBound before (r ∷ later)
      → ((is_full_end end || false) ≡ false) × IsWithinBound (before ++ end_adds before r end) later
  line_fits end later due legal valid bound = bound_law (r ∷ []) later (answer_of end ∷ []) before (end_adds before r end) (each_asked end due) legal valid is_asked bound

-- ---- lines in turn

either_full : (a b : Bool) → (a || false) ≡ false → b ≡ false → (a || b) ≡ false
either_full true b one more = absurd (true≢false one)
either_full false b one more = more

lines_fit : (before : List PoolEntry) (lines : List Line) (later : List Request) → AreEndsDue before lines → All CanBeLoaded (requests_of_lines lines) → IsLegal (before ++ lines_add before lines) → AreValid (before ++ lines_add before lines)
    → IsWithinBound before (requests_of_lines lines ++ later) → (has_line_end is_full_end (answers_of_lines lines) ≡ false) × IsWithinBound (before ++ lines_add before lines) later
lines_fit before [] later due can legal valid bound = (refl, subst (λ (h : List PoolEntry). IsWithinBound h later) (sym (append-nil before)) bound)
lines_fit before (x ∷ lines) later due can legal valid bound =
    let here = end_adds before x.request x.end in
    let rest = lines_add (before ++ here) lines in
    let requests = requests_of_lines lines in
    let legal_all = subst IsLegal (sym (append_assoc before here rest)) legal in
    let valid_all = subst AreValid (sym (append_assoc before here rest)) valid in
    let one = line_fits before x.request (All-head CanBeLoaded x.request requests can) x.end (requests ++ later) due.0 (legal_front (before ++ here) rest legal_all) (valid_front (before ++ here) rest valid_all) bound in
    let more = lines_fit (before ++ here) lines later due.1 (All-tail CanBeLoaded x.request requests can) legal_all valid_all one.1 in (
      either_full (is_full_end x.end) (has_line_end is_full_end (answers_of_lines lines)) one.0 more.0,
      subst (λ (h : List PoolEntry). IsWithinBound h later) (append_assoc before here rest) more.1,
    )

-- ---- groups in turn

-- their requests
abbrev asked_by : List (List Line) → List Request
asked_by groups = requests_of (map requests_of_lines groups)

asked_more : (g : List Line) (groups : List (List Line)) → asked_by (g ∷ groups) ≡ requests_of_lines g ++ asked_by groups
asked_more g groups = flat_map-cons (λ (l : List Request). l) (requests_of_lines g) (map requests_of_lines groups)

All-second : {X : Type 0} (P : X → Type 0) (xs ys : List X) → All P (xs ++ ys) → All P ys
All-second P [] ys h = h
All-second P (x ∷ xs) ys h = All-second P xs ys (All-tail P x (xs ++ ys) h)

either_some : (a b : Bool) → a ≡ false → b ≡ false → (a || b) ≡ false
either_some true b one more = absurd (true≢false one)
either_some false b one more = more

groups_fit : (before : List PoolEntry) (groups : List (List Line)) (later : List Request) → GroupsAreDue before groups → All CanBeLoaded (asked_by groups) → IsLegal (before ++ groups_add before groups) → AreValid (before ++ groups_add before groups)
    → IsWithinBound before (asked_by groups ++ later) → some_end is_full_end groups ≡ false
groups_fit before [] later due can legal valid bound = refl
groups_fit before (g ∷ groups) later due can legal valid bound =
    let here = lines_add before g in
    let rest = groups_add (before ++ here) groups in
    let own = requests_of_lines g in
    let parts = asked_more g groups in
    let can_all = subst (All CanBeLoaded) parts can in
    let legal_all = subst IsLegal (sym (append_assoc before here rest)) legal in
    let valid_all = subst AreValid (sym (append_assoc before here rest)) valid in
    let room = subst (IsWithinBound before) (ap (λ (l : List Request). l ++ later) parts ∙ append_assoc own (asked_by groups) later) bound in
    let one = lines_fit before g (asked_by groups ++ later) due.0 (All-first CanBeLoaded own (asked_by groups) can_all) (legal_front (before ++ here) rest legal_all) (valid_front (before ++ here) rest valid_all) room in
    either_some (has_line_end is_full_end (answers_of_lines g)) (some_end is_full_end groups) one.0
    (groups_fit (before ++ here) groups later due.1 (All-second CanBeLoaded own (asked_by groups) can_all) legal_all valid_all one.1)

due_front : (before : List PoolEntry) (groups later : List (List Line)) → GroupsAreDue before (groups ++ later) → GroupsAreDue before groups
due_front before [] later h = tt
due_front before (g ∷ groups) later h = (h.0, due_front (before ++ lines_add before g) groups later h.1)

-- ---- the requests of batches and of their groups

cut_asks : (times : ℕ) (batch : List Request) → length batch ≤ times → requests_of (cut_batch times batch) ≡ batch
cut_asks zero [] few = refl
cut_asks zero (r ∷ batch) few = absurd (omega (arith, few))
cut_asks (suc times) [] few = refl
cut_asks (suc times) (r ∷ batch) few =
    let later = drop GROUP_LINES (r ∷ batch) in
    flat_map-cons (λ (l : List Request). l) (take GROUP_LINES (r ∷ batch)) (cut_batch times later)
    ∙ ap (λ (l : List Request). take GROUP_LINES (r ∷ batch) ++ l) (cut_asks times later (omega (arith, few, length-drop GROUP_LINES (r ∷ batch))))
    ∙ take-append-drop GROUP_LINES (r ∷ batch)

groups_ask : (batches : List (List Request)) → requests_of (groups_of batches) ≡ requests_of batches
groups_ask [] = refl
groups_ask (batch ∷ batches) =
    ap requests_of (flat_map-cons (λ (b : List Request). cut_batch (length b) b) batch batches)
    ∙ flat_map-append (λ (l : List Request). l) (cut_batch (length batch) batch) (groups_of batches)
    ∙ ap₂ (λ (a b : List Request). a ++ b) (cut_asks (length batch) batch (omega arith)) (groups_ask batches)
    ∙ sym (flat_map-cons (λ (l : List Request). l) batch batches)

can_each : (batches : List (List Request)) → CanAllBeLoaded batches → All CanBeLoaded (requests_of batches)
can_each [] can = All-nil CanBeLoaded
can_each (batch ∷ batches) can =
    let Each : List Request → Type 0 = λ b. All CanBeLoaded b in
    subst (All CanBeLoaded) (sym (flat_map-cons (λ (l : List Request). l) batch batches)) (both batch (requests_of batches) (All-head Each batch batches can) (can_each batches (All-tail Each batch batches can))) where
      both : (xs ys : List Request) → All CanBeLoaded xs → All CanBeLoaded ys → All CanBeLoaded (xs ++ ys)
      both [] ys a b = b
      both (x ∷ xs) ys a b = All-cons CanBeLoaded x (xs ++ ys) (All-head CanBeLoaded x xs a) (both xs ys (All-tail CanBeLoaded x xs a) b)

-- the groups that are kept are the first of the batches' groups
first_of : (low high : ℕ) (requests : List (List Request)) (groups : List (List Line)) (tried : List Line) (status : ExitStatus) (told : List ℕ) → LoadEnd low high requests groups tried status told
    → (rest : List (List Request)) × (requests ≡ map requests_of_lines groups ++ rest)
first_of low high requests groups tried status told (all_kept is none) = ([], sym is ∙ sym (append-nil (map requests_of_lines groups)))
first_of low high requests groups tried status told (sink_failed rest is none) = (rest, is)
first_of low high requests groups tried status told (disk_failed rest before after is from to rose) = (
  requests_of_lines tried ∷ rest,
  is ∙ ap (λ (l : List (List Request)). l ++ rest) (map-append requests_of_lines groups (tried ∷ [])) ∙ append_assoc (map requests_of_lines groups) (requests_of_lines tried ∷ []) rest,
)

-- ---- a load

pub none_full : (records : List Record) (begun : List PoolEntry) (batches : List (List Request)) (groups : List (List Line)) (tried : List Line) (low high : ℕ) (status : ExitStatus) (told : List ℕ)
    → CanAllBeLoaded batches → LoadEnd low high (groups_of batches) groups tried status told → GroupsAreDue begun (groups ++ tried ∷ []) → KeepsHistory begun → IsOpenedHistory (history_of records) begun
    → KeepsHistory (begun ++ groups_add begun groups) → HasRoomForAll records (requests_of batches) → some_end is_full_end groups ≡ false
none_full records begun batches groups tried low high status told can ended due first opened keeps room =
    let front = first_of low high (groups_of batches) groups tried status told ended in
    let rest = requests_of front.0 in
    let parts : requests_of batches ≡ asked_by groups ++ rest =
    sym (groups_ask batches) ∙ ap requests_of front.1 ∙ flat_map-append (λ (l : List Request). l) (map requests_of_lines groups) front.0 in
    groups_fit begun groups rest (due_front begun groups (tried ∷ []) due)
    (All-first CanBeLoaded (asked_by groups) rest (subst (All CanBeLoaded) parts (can_each batches can)))
    keeps.legal keeps.valid
    (opened_within records begun (asked_by groups ++ rest) first.keepable opened (subst (HasRoomForAll records) parts room))
