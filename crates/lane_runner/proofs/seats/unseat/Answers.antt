use Rattle.std.proofs.Common.{◌≡◌, ◌∙◌, List, [], ◌∷◌, ◌++◌, length, map, reverse, sym, ap, arith, append_assoc, length-append}
use Rattle.std.proofs.lemmas.List.{map-append, reverse-append}
use Rattle.lane_runner.specs.declared.lane.Lane.{Lane}
use Rattle.lane_runner.proofs.seats.unseat.Goals as goal

-- the last lane gives its seat
one_given : {X S : Type 0} (seat : X → S) (left lanes : List X) (lane : X) (seats given : List S) → lanes ≡ left ++ lane ∷ [] → given ≡ seats ++ seat lane ∷ [] → given ++ reverse (map seat left) ≡ seats ++ reverse (map seat lanes)
one_given {X} {S} seat left lanes lane seats given lanes_are given_is =
    let one : reverse (map seat lanes) ≡ seat lane ∷ reverse (map seat left) =
    ap (λ (l : List X). reverse (map seat l)) lanes_are
    ∙ ap (λ (l : List S). reverse l) (map-append seat left (lane ∷ []))
    ∙ reverse-append (map seat left) (seat lane ∷ []) in
    ap (λ (l : List S). l ++ reverse (map seat left)) given_is
    ∙ append_assoc seats (seat lane ∷ []) (reverse (map seat left))
    ∙ ap (λ (l : List S). seats ++ l) (sym one)

pub loop-lane-preserved : goal.loop-lane-preserved
loop-lane-preserved g c =
    let L : Type 0 = Lane g.row.D.Denot g.row.Q.Denot in
    let inv = c.loop-lane.invariant in
    let left : List L = c.pop.new.self.items in
    let lane : L = c.in-Some.lane in
    let seats = c.loop-lane.seats.items in
    record {
      parts = one_given (λ (l : L). l.seat) left c.loop-lane.lanes.items lane seats c.push_reserved.new.self.items c.in-Some.ensures.items c.push_reserved.ensures.items ∙ inv.parts;
      room = omega (arith, inv.room, ap length c.push_reserved.ensures.items, length-append seats (lane.seat ∷ []), ap length c.in-Some.ensures.items, length-append left (lane ∷ []), c.push_reserved.ensures.capacity);
    }
