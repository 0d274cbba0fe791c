-- The members of the lines of a trial.
use Rattle.std.specs.List.{list_all}
use Rattle.std.specs.Prelude.{if◌then◌else◌}
use Rattle.std.proofs.Common.{◌≡◌, ◌∙◌, ◌==◌, ◌||◌, ◌⊎◌, inl, inr, ℕ, ◌+◌, Bool, true, false, List, [], ◌∷◌, ◌++◌, map, refl, sym, ap, ap₂, subst, eqb-true, All}
use Rattle.std.proofs.lemmas.Bool.{and_parts}
use Rattle.std.proofs.lemmas.List.{append-nil}
use Rattle.std.proofs.lemmas.List.Elements.{All-nil, All-cons, All-head, All-tail}
use Rattle.setoff_model.specs.Same.{same_name}
use Rattle.setoff_model.proofs.SameNames.{same_name_is}
use Rattle.claim_history.specs.declared.act.Act.{Act}
use Rattle.claim_history.specs.declared.call.Call.{Call}
use Rattle.claim_history.specs.declared.call.PoolEntry.{PoolEntry}
use Rattle.claim_history.specs.Acts.{is_close}
use Rattle.claim_history.specs.Pools.{call_of, entries_of, main_pool, member_of, members_by}
use Rattle.request_text.specs.declared.request.Request.{Request}
use Rattle.request_text.specs.Grammar.{numbered}
use Rattle.lane_runner.specs.served_lines.specs.declared.answer.Answer.{Answer}
use Rattle.lane_runner.specs.served_lines.specs.declared.line_end.LineEnd.{LineEnd}
use Rattle.lane_runner.specs.served_lines.specs.declared.line_end.LineEnd.TheVariants as ends
use Rattle.lane_runner.specs.served_lines.specs.Ends.{has_line_end, is_full_end, is_memory_end}
use Rattle.lane_runner.specs.served_lines.specs.Served.{IsCall, IsOne, IsRound, IsServed, Line, LineAdds, LinesAdd, has_request, is_asked_by, lane_lines, lines_of}
use Rattle.claim_history.proofs.Rows.{or_false}
use Rattle.trial_round.specs.Input.{by_lane_one, call_by_one, close_act}

-- ---- all lines are of lane 1 and of the pool MAIN

abbrev pub OfLaneOne : Request → Type 0
OfLaneOne request = (request.lane ≡ 1) × (request.pool ≡ main_pool)

pub numbered_of_one : (number : ℕ) (acts : List Act) → All OfLaneOne (numbered number (map by_lane_one acts))
numbered_of_one number [] = All-nil OfLaneOne
numbered_of_one number (a ∷ acts) =
    All-cons OfLaneOne (record { line = number; lane = 1; pool = main_pool; act = a }) (numbered (number + 1) (map by_lane_one acts)) (refl, refl) (numbered_of_one (number + 1) acts)

all_lines : (requests : List Request) (answers : List Answer) → All OfLaneOne requests → lane_lines 1 requests answers ≡ lines_of requests answers
all_lines [] answers one = refl
all_lines (request ∷ requests) [] one = refl
all_lines (request ∷ requests) (answer ∷ answers) one =
    let line : Line = record { request = request; end = answer.end } in
    ap (λ (lane : ℕ). if lane == 1 then line ∷ lane_lines 1 requests answers else lane_lines 1 requests answers) (All-head OfLaneOne request requests one).0
    ∙ ap (λ (lines : List Line). line ∷ lines) (all_lines requests answers (All-tail OfLaneOne request requests one))

-- the member is by lane 1, in the pool MAIN
abbrev pub IsByOne : PoolEntry → Type 0
IsByOne m = (m.entry.caller ≡ 1) × (m.pool ≡ main_pool)

asked_so : (request : Request) (m : PoolEntry) → OfLaneOne request → is_asked_by m request ≡ true → IsByOne m
asked_so request m one is =
    let p = and_parts (request.lane == m.entry.caller) (same_name request.pool m.pool) is in
    (sym (eqb-true request.lane m.entry.caller p.0) ∙ one.0, sym ((same_name_is request.pool m.pool).0 p.1) ∙ one.1)

first_or_later : (request : Request) (m : PoolEntry) (others : Bool) (b : Bool) → is_asked_by m request ≡ b → OfLaneOne request → (others ≡ true → IsByOne m) → (b || others) ≡ true → IsByOne m
first_or_later request m others true is one rest has = asked_so request m one is
first_or_later request m others false is one rest has = rest has

by_one : (requests : List Request) (m : PoolEntry) → All OfLaneOne requests → has_request requests m ≡ true → IsByOne m
by_one [] m one has = absurd (cc has)
by_one (request ∷ requests) m one has =
    first_or_later request m (has_request requests m) (is_asked_by m request) refl (All-head OfLaneOne request requests one)
    (by_one requests m (All-tail OfLaneOne request requests one)) has

all_by_one : (requests : List Request) (added : List PoolEntry) → All OfLaneOne requests → list_all (has_request requests) added ≡ true → All IsByOne added
all_by_one requests [] one asked = All-nil IsByOne
all_by_one requests (m ∷ added) one asked =
    let p = and_parts (has_request requests m) (list_all (has_request requests) added) asked in
    All-cons IsByOne m added (by_one requests m one p.0) (all_by_one requests added one p.1)

all_members : (added : List PoolEntry) → All IsByOne added → members_by 1 added ≡ added
all_members [] one = refl
all_members (m ∷ added) one =
    ap (λ (n : ℕ). if n == 1 then m ∷ members_by 1 added else members_by 1 added) (All-head IsByOne m added one).0
    ∙ ap (λ (l : List PoolEntry). m ∷ l) (all_members added (All-tail IsByOne m added one))

-- they are their entries in the pool MAIN
of_main : (added : List PoolEntry) → All IsByOne added → map (member_of main_pool) (entries_of added) ≡ added
of_main [] one = refl
of_main (m ∷ added) one =
    ap₂ (λ (pool : List ℕ) (l : List PoolEntry). member_of pool m.entry ∷ l) (sym (All-head IsByOne m added one).1) (of_main added (All-tail IsByOne m added one))

-- so it is of what a batch of such lines adds
pub added_by_one : (acts : List Act) (answers : List Answer) (added : List PoolEntry) → IsServed (numbered 1 (map by_lane_one acts)) answers [] added → All IsByOne added
added_by_one acts answers added served = all_by_one (numbered 1 (map by_lane_one acts)) added (numbered_of_one 1 acts) served.asked

pub added_of_main : (acts : List Act) (answers : List Answer) (added : List PoolEntry) → IsServed (numbered 1 (map by_lane_one acts)) answers [] added → map (member_of main_pool) (entries_of added) ≡ added
added_of_main acts answers added served = of_main added (added_by_one acts answers added served)

pub in_one_lane : (requests : List Request) (answers : List Answer) (added : List PoolEntry) → All OfLaneOne requests → IsServed requests answers [] added → LinesAdd added 0 [] (lines_of requests answers) added
in_one_lane requests answers added one served =
    subst (λ (members : List PoolEntry). LinesAdd added 0 [] (lines_of requests answers) members) (all_members added (all_by_one requests added one served.asked))
    (subst (λ (lines : List Line). LinesAdd added 0 [] lines (members_by 1 added)) (all_lines requests answers one) (served.each 1))

-- ---- each line was replied to

replied : (end : LineEnd) → is_memory_end end ≡ false → is_full_end end ≡ false → end ≡ ends.Replied
replied ends.Replied memory full = refl
replied ends.Memory memory full = absurd (cc memory)
replied (ends.Full what needed limit) memory full = absurd (cc full)

-- the members of the acts, one each, and then those of the Close
pub record AreParts (whole : List PoolEntry) (acts : List Act) (members : List PoolEntry) : Type 0 where
  pub before : List PoolEntry
  pub last : List PoolEntry
  pub parts : members ≡ before ++ last
  pub calls : map call_of before ≡ map call_by_one acts
  pub request : Request
  pub closes : request.act ≡ close_act
  pub ends : IsOne request last ⊎ IsRound whole request last

one_call : (request : Request) (a : Act) (call : PoolEntry) → OfLaneOne request → request.act ≡ a → IsCall request call → call_of call ≡ call_by_one a
one_call request a call one asks is =
    let make : ℕ → List ℕ → Act → Call = λ (n : ℕ) (pool : List ℕ) (x : Act). record { caller = n; pool = pool; act = x } in
    ap (λ (n : ℕ). make n call.pool call.entry.act) (is.by ∙ one.0) ∙ ap₂ (make 1) (is.in_pool ∙ one.1) (is.asks ∙ asks)

module _ (whole : List PoolEntry) where
  -- the members of one line that is no Close
  one_member : (request : Request) (a : Act) (front : List PoolEntry) → OfLaneOne request → request.act ≡ a → is_close a ≡ false → (IsOne request front ⊎ IsRound whole request front)
      → (call : PoolEntry) × (front ≡ call ∷ []) × (call_of call ≡ call_by_one a)
  one_member request a front lane asks other (inl one) = (one.call, one.is, one_call request a one.call lane asks one.asks)
  one_member request a front lane asks other (inr round) = absurd (cc (sym other ∙ ap is_close (sym asks) ∙ round.closes.closes))

  -- one act more at the start
  one_more : (a : Act) (acts : List Act) (front later entries : List PoolEntry) (call : PoolEntry) → entries ≡ front ++ later → front ≡ call ∷ [] → call_of call ≡ call_by_one a → AreParts whole acts later → AreParts whole (a ∷ acts) entries
  one_more a acts front later entries call is one by rest = record {
    before = call ∷ rest.before;
    last = rest.last;
    parts = is ∙ ap (λ (l : List PoolEntry). l ++ later) one ∙ ap (λ (l : List PoolEntry). call ∷ l) rest.parts;
    calls = ap (λ (c : Call). c ∷ map call_of rest.before) by ∙ ap (λ (l : List Call). call_by_one a ∷ l) rest.calls;
    request = rest.request;
    closes = rest.closes;
    ends = rest.ends;
  }

  abbrev Adds : ℕ → List PoolEntry → ℕ → List Act → List Answer → List PoolEntry → Type 0
  Adds opened done number acts answers entries = LinesAdd whole opened done (lines_of (numbered number (map by_lane_one (acts ++ close_act ∷ []))) answers) entries

  parts_of : (opened number : ℕ) (done : List PoolEntry) (acts : List Act) (answers : List Answer) (entries : List PoolEntry) → All (λ a. is_close a ≡ false) acts
      → map (λ answer. answer.line) answers ≡ map (λ request. request.line) (numbered number (map by_lane_one (acts ++ close_act ∷ [])))
      → has_line_end is_memory_end answers ≡ false → has_line_end is_full_end answers ≡ false → Adds opened done number acts answers entries → AreParts whole acts entries
  parts_of opened number done [] [] entries other answered memory full adds = absurd (cc answered)
  parts_of opened number done [] (answer ∷ answers) entries other answered memory full adds =
      let request : Request = record { line = number; lane = 1; pool = main_pool; act = close_act } in
      let is : answer.end ≡ ends.Replied = replied answer.end (or_false (is_memory_end answer.end) (has_line_end is_memory_end answers) memory).0 (or_false (is_full_end answer.end) (has_line_end is_full_end answers) full).0 in
      record {
        before = [];
        last = entries;
        parts = refl;
        calls = refl;
        request = request;
        closes = refl;
        ends = subst (λ (l : List PoolEntry). IsOne request l ⊎ IsRound whole request l) (sym (adds.2 ∙ ap (λ (l : List PoolEntry). adds.0 ++ l) adds.4 ∙ append-nil adds.0))
            (subst (λ (end : LineEnd). LineAdds whole opened done request end adds.0) is adds.3);
      }
  parts_of opened number done (a ∷ acts) [] entries other answered memory full adds = absurd (cc answered)
  parts_of opened number done (a ∷ acts) (answer ∷ answers) entries other answered memory full adds =
      let request : Request = record { line = number; lane = 1; pool = main_pool; act = a } in
      let no_memory = or_false (is_memory_end answer.end) (has_line_end is_memory_end answers) memory in
      let no_full = or_false (is_full_end answer.end) (has_line_end is_full_end answers) full in
      let is : answer.end ≡ ends.Replied = replied answer.end no_memory.0 no_full.0 in
      let one = one_member request a adds.0 (refl, refl) refl (All-head (λ x. is_close x ≡ false) a acts other) (subst (λ (end : LineEnd). LineAdds whole opened done request end adds.0) is adds.3) in
      let rest = parts_of opened (number + 1) (done ++ adds.0) acts answers adds.1 (All-tail (λ x. is_close x ≡ false) a acts other) (cc answered) no_memory.1 no_full.1 adds.4 in
      one_more a acts adds.0 adds.1 entries one.0 adds.2 one.1 one.2 rest

-- what the lines of a trial add, where each was replied to
pub trial_parts : (acts : List Act) (answers : List Answer) (added : List PoolEntry) → All (λ a. is_close a ≡ false) acts
    → IsServed (numbered 1 (map by_lane_one (acts ++ close_act ∷ []))) answers [] added → has_line_end is_memory_end answers ≡ false → has_line_end is_full_end answers ≡ false → AreParts added acts added
trial_parts acts answers added other served memory full =
    let batch = numbered 1 (map by_lane_one (acts ++ close_act ∷ [])) in
    parts_of added 0 1 [] acts answers added other served.answered memory full (in_one_lane batch answers added (numbered_of_one 1 (acts ++ close_act ∷ [])) served)
