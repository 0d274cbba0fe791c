-- A lane and its ring, after a segment.
use Rattle.std.proofs.Common.{◌≡◌, ◌∙◌, ◌+◌, ◌<◌, ◌≤◌, ℕ, List, [], ◌∷◌, ◌++◌, All, length, get_or, map, sym, ap, subst, arith, append_assoc, vec_capacity}
use Rattle.live_reading.specs.declared.handed.TheConstants.{MOST_HANDED}
use Rattle.std.proofs.lemmas.List.{append_cancel_left}
use Rattle.rtrb.specs.declared.producer.Producer.{Producer}
use Rattle.rtrb.specs.declared.consumer.Consumer.{Consumer}
use Rattle.rtrb.specs.Ring.{received, sent, producer_capacity, IsPair, SameConsumer, SameProducer}
use Rattle.lane_runner.specs.claim_history.specs.declared.call.PoolEntry.{PoolEntry}
use Rattle.lane_runner.specs.request_text.specs.declared.request.Request.{Request}
use Rattle.turn_lock.specs.declared.turn.Turn.{Turn}
use Rattle.turn_lock.specs.Seats.{number}
use Rattle.lane_runner.specs.bureau_desk.specs.declared.base.DeskBase.{DeskBase}
use Rattle.lane_runner.specs.bureau_desk.specs.Desks.{DeskView}
use Rattle.lane_runner.specs.shared_bureau.specs.Adding.{IsReady}
use Rattle.lane_runner.specs.served_lines.specs.Served.{of_lane}
use Rattle.lane_runner.specs.Lanes.{HasRun}
use Rattle.lane_runner.proofs.Places.{one_of}
use Rattle.live_reading.specs.declared.handed.Handed.{Handed}
use Rattle.live_reading.specs.declared.handed.Handed.TheVariants as handed
use Rattle.live_reading.specs.Handing.{IsMarked, handed_of, lines_since, segment_of}
use Rattle.live_reading.specs.Rings.{AreOpen, HasHandedSegment, HaveHanded, IsOpen, Ring}
use Rattle.live_intake.specs.Meeting.{ArePairs, HasMetLane, HaveMet}
use Rattle.live_intake.specs.Segments.{HasServedSegment, HaveServedSegment, LiveLane}
use Rattle.live_intake.specs.Joining.{AreJoined, HasServedThese, HaveServedThese, IsJoined}
use Rattle.live_reading.proofs.Handing.{all_own, prefix_of, same_requests, since_mark}

-- both ends of one ring, after each has gone on
pair_later : {T A P : Type 0} (p q : Producer T A P) (c d : Consumer T A P) → IsPair p c → SameProducer p q → SameConsumer c d → IsPair q d
pair_later p q c d h x y = (
  y.0.0 ∙ h.0 ∙ sym x.0.0,
  y.0.1 ∙ h.1 ∙ sym x.0.1,
  y.0.2 ∙ h.2 ∙ sym x.0.2,
  y.0.3 ∙ h.3 ∙ sym x.0.3,
)

-- a segment that is joined is open
open_now : {D : Type 0} (k : ℕ) (ring : Ring) (lane : LiveLane D) → IsJoined k ring lane → IsOpen ring
open_now k ring lane h = record { all = omega (arith, h.free, h.marked); line = omega (arith, h.free) }

module _ {D : Type 0} (turn : Turn (DeskView D) PoolEntry (DeskBase D)) (requests : List Request) where
  module _ (k : ℕ) (ring0 ring1 ring2 : Ring) (lane0 lane1 lane2 : LiveLane D) (joined : IsJoined k ring0 lane0) (told : HasHandedSegment ring0 ring1 (of_lane (k + 1) requests)) (served : HasServedSegment turn lane0 lane1) where
    pub pair_now : IsPair ring1 lane1.queue
    pair_now = pair_later ring0 ring1 lane0.queue lane1.queue joined.pair told.same served.same

    module _ (met : HasMetLane ring1 lane1 ring2 lane2) where
      abbrev own : List Request
      own = of_lane (k + 1) requests

      got : received lane2.queue ≡ sent ring0 ++ segment_of served.requests
      got = met.met.received_is ∙ served.taken ∙ ap (λ l. l ++ segment_of served.requests) joined.all

      gave : sent ring2 ≡ sent ring0 ++ segment_of own
      gave = met.met.sent_is ∙ told.sent_is

      abbrev rest : List Handed
      rest = met.met.fifo.0

      whole : segment_of served.requests ++ rest ≡ segment_of own
      whole = append_cancel_left (sent ring0) (segment_of served.requests ++ rest) (segment_of own)
          (sym (append_assoc (sent ring0) (segment_of served.requests) rest) ∙ ap (λ l. l ++ rest) (sym got) ∙ met.met.fifo.1 ∙ gave)

      these : served.requests ≡ own
      these = same_requests (k + 1) served.requests own (subst (λ n. All (λ r. r.lane ≡ n) served.requests) joined.number_is served.own) (all_own (k + 1) requests) (prefix_of served.requests own rest whole).0

      all : received lane2.queue ≡ sent ring2
      all = got ∙ ap (λ rs. sent ring0 ++ segment_of rs) these ∙ sym gave

      marked : IsMarked (sent ring2)
      marked = ap (lines_since 0) (gave ∙ sym (append_assoc (sent ring0) (map handed_of own) (handed.End ∷ []))) ∙ since_mark 0 (sent ring0 ++ map handed_of own)

      places : producer_capacity ring2 ≡ MOST_HANDED + 1
      places = met.met.same_ring.1 ∙ told.same.1 ∙ joined.places

      pub joined_again : IsJoined k ring2 lane2
      joined_again = record {
        pair = met.met.pair;
        all = all;
        marked = marked;
        places = places;
        free = omega (arith, met.met.free, places, ap length all);
        number_is = ap number met.seat_is ∙ served.run.served.same.number_is ∙ joined.number_is;
      }

      pub served_these : HasServedThese turn own lane0 lane2
      served_these = record {
        run = subst (λ rs. HasRun lane0.seat lane2.seat rs lane2.ends.items) these
            (subst (λ e. HasRun lane0.seat lane2.seat served.requests e.items) (sym met.ends_are)
            (subst (λ s. HasRun lane0.seat s served.requests lane1.ends.items) (sym met.seat_is) served.run));
        ready = subst (IsReady turn) (sym met.seat_is) served.ready;
        spare = subst (λ e. MOST_HANDED ≤ vec_capacity e) (sym met.ends_are) served.spare;
      }

  -- all lanes
  module _ (rings0 rings1 rings2 : List Ring) (lanes0 lanes1 lanes2 : List (LiveLane D)) (joined : AreJoined rings0 lanes0) where
    pub all_open : AreOpen rings0
    all_open = λ k ring lt. open_now k (get_or rings0 k ring) _ (joined.each k ring (one_of lanes0 k (omega (arith, joined.same, lt))) lt)

    module _ (told : HaveHanded rings0 rings1 requests) (served : HaveServedSegment turn lanes0 lanes1) where
      pub all_pairs : ArePairs rings1 lanes1
      all_pairs = record {
        all = served.0 ∙ joined.same ∙ sym told.all;
        each = λ k ring lane lt.
            let lt' : k < length rings0 = omega (arith, told.all, lt) in
            pair_now k (get_or rings0 k ring) (get_or rings1 k ring) (get_or rings1 k ring) (get_or lanes0 k lane) (get_or lanes1 k lane) (get_or lanes1 k lane)
            (joined.each k ring lane lt') (told.each k ring lt') (served.1 k lane (omega (arith, joined.same, lt')));
      }

      module _ (met : HaveMet rings1 lanes1 rings2 lanes2) where
        abbrev At : (k : ℕ) (ring : Ring) (lane : LiveLane D) → k < length rings0 → Type 0
        At k ring lane lt = IsJoined k (get_or rings2 k ring) (get_or lanes2 k lane) × HasServedThese turn (of_lane (k + 1) requests) (get_or lanes0 k lane) (get_or lanes2 k lane)

        at : (k : ℕ) (ring : Ring) (lane : LiveLane D) (lt : k < length rings0) → At k ring lane lt
        at k ring lane lt =
            let r0 = get_or rings0 k ring in
            let r1 = get_or rings1 k ring in
            let r2 = get_or rings2 k ring in
            let l0 = get_or lanes0 k lane in
            let l1 = get_or lanes1 k lane in
            let l2 = get_or lanes2 k lane in
            let j = joined.each k ring lane lt in
            let t = told.each k ring lt in
            let s = served.1 k lane (omega (arith, joined.same, lt)) in
            let m = met.each k ring lane (omega (arith, met.all_rings, told.all, lt)) in
            (joined_again k r0 r1 r2 l0 l1 l2 j t s m, served_these k r0 r1 r2 l0 l1 l2 j t s m)

        pub all_joined : AreJoined rings2 lanes2
        all_joined = record {
          same = met.all ∙ served.0 ∙ joined.same ∙ sym told.all ∙ sym met.all_rings;
          each = λ k ring lane lt. (at k ring lane (omega (arith, met.all_rings, told.all, lt))).0;
        }

        pub all_served : HaveServedThese turn requests lanes0 lanes2
        all_served = record {
          all = met.all ∙ served.0;
          each = λ k lane lt. let lt' : k < length rings0 = omega (arith, joined.same, lt) in (at k (one_of rings0 k lt') lane lt').1;
        }
