-- The answers of lines that lanes have served, one more at a time.
use Rattle.std.specs.Prelude.{All}
use Rattle.std.proofs.Common.{◌≡◌, ◌∙◌, ◌+◌, ◌-◌, ◌<◌, ◌≤◌, ℕ, List, [], ◌∷◌, ◌++◌, length, map, take, take_all, get_or, set, refl, sym, ap, subst, arith, append_assoc}
use Rattle.std.proofs.Math.ListN.{length-set}
use Rattle.std.proofs.lemmas.List.{append-nil, get_or_default}
use Rattle.setoff_model.specs.declared.limits.TheConstants.{MOST_LANES}
use Rattle.turn_lock.specs.Turns.{EachOf}
use Rattle.served_lines.specs.request_text.specs.declared.request.Request.{Request}
use Rattle.served_lines.specs.declared.answer.Answer.{Answer}
use Rattle.served_lines.specs.declared.line_end.LineEnd.{LineEnd}
use Rattle.served_lines.specs.Served.{of_lane}
use Rattle.lane_runner.proofs.Merged.{Agree, agree_more, answered_more, answer_of, next_more}
use Rattle.served_lines.proofs.OfLane.{fewer_before, one_more}
use Rattle.lane_runner.specs.declared.lane.Lane.{Lane}
use Rattle.lane_runner.specs.Merging.{HasMergedMore, HaveEnds}

module _ {D Q : Type 0} (requests : List Request) (lanes : List (Lane D Q)) where
  -- the answers of the first ones stand behind the old ones, and it is known how many ends each lane has told
  pub record IsMerging (i : ℕ) (told : List ℕ) (old now : List Answer) : Type 0 where
    pub later : List Answer
    pub items : now ≡ old ++ later
    pub answered : map (λ a. a.line) later ≡ map (λ r. r.line) (take i requests)
    pub each : EachOf (λ k lane. Agree (k + 1) (take i requests) later lane.ends.items) lanes
    pub many : length told ≡ MOST_LANES
    pub cursors : (k : ℕ) → k < MOST_LANES → get_or told k 0 ≡ length (of_lane (k + 1) (take i requests))

  -- none has
  pub merges_none : (told : List ℕ) (old : List Answer) → length told ≡ MOST_LANES → ((k : ℕ) → k < MOST_LANES → get_or told k 0 ≡ 0) → IsMerging 0 told old old
  merges_none told old many zero = record {
    later = [];
    items = sym (append-nil old);
    answered = refl;
    each = λ k d lt. refl;
    many = many;
    cursors = zero;
  }

  module _ (few : length lanes ≤ MOST_LANES) (among : All (λ r. (1 ≤ r.lane) × (r.lane ≤ length lanes)) requests) (have : HaveEnds requests lanes) (i : ℕ) (told : List ℕ) (old now : List Answer) (m : IsMerging i told old now)
      (request : Request) (lt : i < length requests) (is : request ≡ get_or requests i request) (lane : Lane D Q) (lane_is : lane ≡ get_or lanes (request.lane - 1) lane) where
    range : (1 ≤ request.lane) × (request.lane ≤ length lanes)
    range = subst (λ (r : Request). (1 ≤ r.lane) × (r.lane ≤ length lanes)) (sym is) (among i request lt)

    abbrev l : ℕ
    l = request.lane - 1

    own : request.lane ≡ l + 1
    own = let low = range.0 in omega (arith, low)

    -- the lane has an end for it
    pub next_there : get_or told l 0 < length lane.ends.items
    next_there =
        let low = range.0 in
        let high = range.1 in
        let all : length (get_or lanes l lane).ends.items ≡ length (of_lane (l + 1) requests) = have l lane (omega (arith, low, high)) in
        let count : length lane.ends.items ≡ length (of_lane (l + 1) requests) = subst (λ (x : Lane D Q). length x.ends.items ≡ length (of_lane (l + 1) requests)) (sym lane_is) all in
        let next = m.cursors l (omega (arith, low, high, few)) in
        let fewer = fewer_before (l + 1) requests i request lt is own in
        omega (arith, next, fewer, count)

    more : take (i + 1) requests ≡ take i requests ++ request ∷ []
    more = one_more requests i request lt is

    lane_now : (k : ℕ) (d : Lane D Q) → k < length lanes → request.lane ≡ k + 1 → lane ≡ get_or lanes k d
    lane_now k d ltk same =
        let place : l ≡ k = omega (arith, same, own) in
        lane_is ∙ ap (λ (n : ℕ). get_or lanes n lane) place ∙ get_or_default lanes k lane d ltk

    pub merges_more : (end : LineEnd) → end ≡ get_or lane.ends.items (get_or told l 0) end → (new : List Answer) → new ≡ now ++ answer_of request end ∷ [] → IsMerging (i + 1) (set told l (get_or told l 0 + 1)) old new
    merges_more end end_is new items =
        let low = range.0 in
        let high = range.1 in
        let lane_few : l < MOST_LANES = omega (arith, low, high, few) in
        record {
          later = m.later ++ answer_of request end ∷ [];
          items = items ∙ ap (λ (a : List Answer). a ++ answer_of request end ∷ []) m.items ∙ append_assoc old m.later (answer_of request end ∷ []);
          answered = answered_more (take i requests) m.later request end m.answered ∙ ap (map (λ (x : Request). x.line)) (sym more);
          each = λ k d ltk.
              let ends = (get_or lanes k d).ends.items in
              let all : length ends ≡ length (of_lane (k + 1) requests) = have k d ltk in
              subst (λ (qs : List Request). Agree (k + 1) qs (m.later ++ answer_of request end ∷ []) ends) (sym more)
              (agree_more (k + 1) (take i requests) m.later request end m.answered ends (m.each k d ltk)
              (λ same. let fewer = fewer_before (k + 1) requests i request lt is same in omega (arith, fewer, all))
              (λ same. let place : l ≡ k = omega (arith, same, own) in
              end_is
              ∙ ap (λ (x : Lane D Q). get_or x.ends.items (get_or told l 0) end) (lane_now k d ltk same)
              ∙ ap (λ (n : ℕ). get_or ends n end) (m.cursors l lane_few ∙ ap (λ (n : ℕ). length (of_lane (n + 1) (take i requests))) place)));
          many = length-set told l (get_or told l 0 + 1) ∙ m.many;
          cursors = λ k low_k. next_more told (take i requests) request l own m.many lane_few m.cursors k low_k ∙ ap (λ (qs : List Request). length (of_lane (k + 1) qs)) (sym more);
        }

  -- all have
  pub merged : (i : ℕ) (told : List ℕ) (old now : List Answer) → IsMerging i told old now → length requests ≤ i → HasMergedMore requests lanes old now
  merged i told old now m le =
      let all : take i requests ≡ requests = take_all i requests le in
      record {
        later = m.later;
        is = m.items;
        have = record {
          answered = m.answered ∙ ap (map (λ (r : Request). r.line)) all;
          each = λ k d lt. subst (λ (rs : List Request). Agree (k + 1) rs m.later (get_or lanes k d).ends.items) all (m.each k d lt);
        };
      }
