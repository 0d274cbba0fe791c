-- A lane, while it serves what it is handed.
use Rattle.std.proofs.Common.{◌≡◌, ◌∙◌, ◌+◌, ◌<◌, ◌≤◌, ℕ, List, [], ◌∷◌, ◌++◌, All, map, refl, sym, ap, subst, arith, append_assoc, vec_len, vec_capacity}
use Rattle.live_reading.specs.declared.handed.TheConstants.{MOST_HANDED}
use Rattle.std.proofs.lemmas.List.{append-nil, map-append}
use Rattle.std.proofs.lemmas.List.Elements.{All-append, All-cons, All-nil}
use Rattle.rtrb.specs.Ring.{received, SameConsumer}
use Rattle.rtrb.specs.declared.consumer.Consumer.{Consumer}
use Rattle.lane_runner.specs.claim_history.specs.declared.act.Act.{Act}
use Rattle.lane_runner.specs.claim_history.specs.declared.call.PoolEntry.{PoolEntry}
use Rattle.lane_runner.specs.request_text.specs.declared.request.Request.{Request}
use Rattle.turn_lock.specs.declared.turn.Turn.{Turn}
use Rattle.turn_lock.specs.Seats.{number}
use Rattle.lane_runner.specs.bureau_desk.specs.declared.base.DeskBase.{DeskBase}
use Rattle.lane_runner.specs.bureau_desk.specs.Desks.{DeskView}
use Rattle.lane_runner.specs.shared_bureau.specs.Adding.{IsReady}
use Rattle.lane_runner.specs.served_lines.specs.declared.line_end.LineEnd.{LineEnd}
use Rattle.lane_runner.specs.Serving.{HasServed}
use Rattle.lane_runner.specs.Lanes.{HasRun}
use Rattle.lane_runner.proofs.Running.{run_begins, run_more}
use Rattle.live_reading.specs.declared.handed.Handed.TheVariants as handed
use Rattle.live_reading.specs.Handing.{MayHand, handed_of, lines_since}
use Rattle.live_intake.specs.Segments.{HasServedSegment, IsFitLiveLane, LiveLane}
use Rattle.live_reading.proofs.Handing.{since_line}

-- the same ring
pub same_twice : {T A P : Type 0} (a b c : Consumer T A P) → SameConsumer a b → SameConsumer b c → SameConsumer a c
same_twice a b c x y = (
  (y.0.0 ∙ x.0.0, y.0.1 ∙ x.0.1, y.0.2 ∙ x.0.2, y.0.3 ∙ x.0.3),
  y.1 ∙ x.1,
)

module _ {D : Type 0} (turn : Turn (DeskView D) PoolEntry (DeskBase D)) (first : LiveLane D) where
  -- it has taken these requests since the last mark, and served them
  pub record IsTaking (lane : LiveLane D) : Type 0 where
    pub requests : List Request
    pub own : All (λ r. r.lane ≡ number first.seat) requests
    pub taken : received lane.queue ≡ received first.queue ++ map handed_of requests
    pub run : HasRun first.seat lane.seat requests lane.ends.items
    pub ready : IsReady turn lane.seat
    pub same : SameConsumer first.queue lane.queue
    pub counted : lines_since 0 (received lane.queue) ≡ vec_len lane.ends
    pub spare : MOST_HANDED ≤ vec_capacity lane.ends

  pub begins : (lane : LiveLane D) → IsFitLiveLane turn first → lane.seat ≡ first.seat → lane.queue ≡ first.queue → lane.ends.items ≡ [] → vec_len lane.ends ≡ 0 → MOST_HANDED ≤ vec_capacity lane.ends → IsTaking lane
  begins lane fit seat ring none len spare = record {
    requests = [];
    own = λ i r lt. absurd (omega (arith, lt));
    taken = ap received ring ∙ sym (append-nil (received first.queue));
    run = subst (HasRun first.seat lane.seat []) (sym none) (subst (λ s. HasRun first.seat s [] []) (sym seat) (run_begins first.seat));
    ready = subst (IsReady turn) (sym seat) fit.ready;
    same = subst (SameConsumer first.queue) (sym ring) ((refl, refl, refl, refl), refl);
    counted = ap (λ r. lines_since 0 (received r)) ring ∙ fit.marked ∙ sym len;
    spare = spare;
  }

  module _ (old : LiveLane D) (taking : IsTaking old) (line : ℕ) (pool : List ℕ) (a : Act) (allowed : MayHand (received old.queue) (handed.Line line pool a)) where
    abbrev pub request : Request
    request = record { line = line; lane = number old.seat; pool = pool; act = a }

    -- there is room for its end
    pub has_room : vec_len old.ends < vec_capacity old.ends
    has_room = omega (arith, allowed.1, taking.counted, taking.spare)

    pub takes_line : (new : LiveLane D) (end : LineEnd) → received new.queue ≡ received old.queue ++ handed.Line line pool a ∷ [] → SameConsumer old.queue new.queue → HasServed old.seat new.seat request end → IsReady turn new.seat
        → new.ends.items ≡ old.ends.items ++ end ∷ [] → vec_len new.ends ≡ vec_len old.ends + 1 → vec_capacity new.ends ≡ vec_capacity old.ends → IsTaking new
    takes_line new end more same served ready items len capacity = record {
      requests = taking.requests ++ request ∷ [];
      own = All-append (λ (r : Request). r.lane ≡ number first.seat) taking.requests (request ∷ []) taking.own (All-cons (λ (r : Request). r.lane ≡ number first.seat) request [] taking.run.served.same.number_is (All-nil (λ (r : Request). r.lane ≡ number first.seat)));
      taken =
          more
          ∙ ap (λ l. l ++ handed.Line line pool a ∷ []) taking.taken
          ∙ append_assoc (received first.queue) (map handed_of taking.requests) (handed.Line line pool a ∷ [])
          ∙ ap (λ l. received first.queue ++ l) (sym (map-append handed_of taking.requests (request ∷ [])));
      run = subst (HasRun first.seat new.seat (taking.requests ++ request ∷ [])) (sym items) (run_more first.seat old.seat new.seat taking.requests old.ends.items request end taking.run served);
      ready = ready;
      same = same_twice first.queue old.queue new.queue taking.same same;
      counted = ap (lines_since 0) more ∙ since_line 0 (received old.queue) line pool a ∙ ap (λ n. n + 1) taking.counted ∙ sym len;
      spare = omega (arith, taking.spare, capacity);
    }

  -- the mark is the end
  pub takes_mark : (old : LiveLane D) → IsTaking old → (new : LiveLane D) → new.seat ≡ old.seat → new.ends ≡ old.ends → received new.queue ≡ received old.queue ++ handed.End ∷ [] → SameConsumer old.queue new.queue → HasServedSegment turn first new
  takes_mark old taking new seat ends more same = record {
    requests = taking.requests;
    own = taking.own;
    taken = more ∙ ap (λ l. l ++ handed.End ∷ []) taking.taken ∙ append_assoc (received first.queue) (map handed_of taking.requests) (handed.End ∷ []);
    run = subst (λ e. HasRun first.seat new.seat taking.requests e.items) (sym ends) (subst (λ s. HasRun first.seat s taking.requests old.ends.items) (sym seat) taking.run);
    ready = subst (IsReady turn) (sym seat) taking.ready;
    same = same_twice first.queue old.queue new.queue taking.same same;
    spare = subst (λ e. MOST_HANDED ≤ vec_capacity e) (sym ends) taking.spare;
  }
