-- Lanes that have their places, beside their rings.
use Rattle.std.proofs.Common.{◌≡◌, ◌∙◌, ◌+◌, ◌<◌, ℕ, zero, suc, List, [], ◌∷◌, ◌++◌, length, map, get_or, sym, ap, arith, length-append}
use Rattle.setoff_model.specs.declared.limits.TheConstants.{MOST_LANES}
use Rattle.turn_lock.specs.declared.turn.Turn.{Turn}
use Rattle.turn_lock.specs.Turns.{EachOf}
use Rattle.lane_runner.specs.claim_history.specs.declared.call.PoolEntry.{PoolEntry}
use Rattle.lane_runner.specs.bureau_desk.specs.declared.base.DeskBase.{DeskBase}
use Rattle.lane_runner.specs.bureau_desk.specs.Desks.{DeskView}
use Rattle.lane_runner.specs.declared.lane.Place.{Place}
use Rattle.lane_runner.specs.Seating.{IsNewLane, place_of}
use Rattle.lane_runner.proofs.AllLanes.{as_many, placed}
use Rattle.lane_runner.proofs.Places.{one_of}
use Rattle.live_reading.specs.Handing.{lines_since}
use Rattle.live_reading.specs.Rings.{Ring}
use Rattle.live_intake.specs.Segments.{LiveLane, RingEnd}
use Rattle.live_intake.specs.Rooms.{ArePlaces, IsPlace}
use Rattle.live_intake.specs.Batching.{AreReady}

-- ---- places that are made, one more at a time

-- one more behind those that are there
pushed_both : {X Y : Type 0} (P : X → Y → Type 0) (xs : List X) (ys : List Y) (x : X) (y : Y) → length ys ≡ length xs → ((k : ℕ) (a : X) (b : Y) → k < length xs → P (get_or xs k a) (get_or ys k b)) → P x y
    → (k : ℕ) (a : X) (b : Y) → k < length (xs ++ x ∷ []) → P (get_or (xs ++ x ∷ []) k a) (get_or (ys ++ y ∷ []) k b)
pushed_both P [] [] x y same h p zero a b lt = p
pushed_both P [] [] x y same h p (suc k) a b lt = absurd (omega (arith, lt))
pushed_both P [] (y0 ∷ ys) x y same h p k a b lt = absurd (omega (arith, same))
pushed_both P (x0 ∷ xs) [] x y same h p k a b lt = absurd (omega (arith, same))
pushed_both P (x0 ∷ xs) (y0 ∷ ys) x y same h p zero a b lt = h zero a b (omega arith)
pushed_both P (x0 ∷ xs) (y0 ∷ ys) x y same h p (suc k) a b lt = pushed_both P xs ys x y (omega (arith, same)) (λ i c d l. h (suc i) c d (omega (arith, l))) p k a b (omega (arith, lt))

pub places_more : (rings : List Ring) (places : List (Place RingEnd)) (ring : Ring) (place : Place RingEnd) → ArePlaces rings places → IsPlace ring place → ArePlaces (rings ++ ring ∷ []) (places ++ place ∷ [])
places_more rings places ring place so_far one = record {
  same = omega (arith, so_far.same, length-append rings (ring ∷ []), length-append places (place ∷ []));
  each = pushed_both IsPlace rings places ring place so_far.same so_far.each one;
}

-- ---- new lanes in such places

pub ready_to_begin : {D : Type 0} (turn : Turn (DeskView D) PoolEntry (DeskBase D)) (before : ℕ) (rings : List Ring) (places : List (Place RingEnd)) (lanes : List (LiveLane D))
    → length places ≡ MOST_LANES → ArePlaces rings places → map place_of lanes ≡ places → EachOf (IsNewLane turn before) lanes → AreReady turn rings lanes
ready_to_begin {D} turn before rings places lanes many room same new =
    let long : length lanes ≡ length places = as_many lanes places same in
    let own : (k : ℕ) (ring : Ring) (lane : LiveLane D) → k < length lanes → IsPlace (get_or rings k ring) (place_of (get_or lanes k lane)) =
    λ k ring lane lt. placed (λ n place. IsPlace (get_or rings n ring) place) lanes places same (λ n place l. room.each n ring place (omega (arith, l, room.same))) k lane lt in
    record {
      many = long ∙ many;
      joined = record {
        same = long ∙ room.same;
        each = λ k ring lane lt.
            let here : k < length lanes = omega (arith, lt, long, room.same) in
            let at = own k ring lane here in
            record {
              pair = at.pair;
              all = at.none_received ∙ sym at.none_sent;
              marked = ap (lines_since 0) at.none_sent;
              places = at.places;
              free = at.free;
              number_is = (new k lane here).seat.number_is;
            };
      };
      fit = λ k lane lt.
          let at = own k (one_of rings k (omega (arith, lt, long, room.same))) lane lt in
          record { ready = (new k lane lt).ready; marked = ap (lines_since 0) at.none_received; spare = at.spare };
    }
