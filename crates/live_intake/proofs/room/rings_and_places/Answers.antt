use Rattle.std.proofs.Common.{rules, ◌≡◌, ◌++◌, [], ◌∷◌, List, length, sym, subst, arith, ap, length-append, vec_len}
use Rattle.lane_runner.specs.declared.lane.Place.{Place}
use Rattle.live_reading.specs.Rings.{Ring}
use Rattle.live_intake.specs.Segments.{RingEnd}
use Rattle.live_intake.specs.Rooms.{ArePlaces}
use Rattle.live_intake.proofs.Seating.{places_more}
use Rattle.live_intake.proofs.room.rings_and_places.Goals as goal

pub loop-alloc-preserved : goal.loop-alloc-preserved
loop-alloc-preserved c =
    let inv = c.loop-alloc.invariant in
    let rings = c.loop-alloc.rings.items in
    let places = c.loop-alloc.places.items in
    let ring : Ring = c.in_ok-ring.ring in
    let place : Place RingEnd = c.in_ok-ring.place in
    let ring_items : c.push_reserved.new.self.items ≡ rings ++ ring ∷ [] = c.push_reserved.ensures.items in
    let items : c.push_reserved-in-loop-alloc.new.self.items ≡ places ++ place ∷ [] = c.push_reserved-in-loop-alloc.ensures.items in
    let long : length places ≡ vec_len c.loop-alloc.places = search rules in
    record {
      each = subst (λ (r : List Ring). ArePlaces r c.push_reserved-in-loop-alloc.new.self.items) (sym ring_items)
          (subst (ArePlaces (rings ++ ring ∷ [])) (sym items) (places_more rings places ring place inv.each c.in_ok-ring.ensures));
      few = omega (arith, long, ap length items, length-append places (place ∷ []));
      rings_spare = omega (arith, inv.rings_spare, c.push_reserved.ensures.capacity);
      spare = omega (arith, inv.spare, c.push_reserved-in-loop-alloc.ensures.capacity);
    }
