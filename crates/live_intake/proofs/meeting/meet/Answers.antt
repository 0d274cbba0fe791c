use Rattle.std.proofs.Common.{rules, ◌≡◌, ◌∙◌, ◌<◌, length, get_or, arith}
use Rattle.std.proofs.Math.ListN.{length-set}
use Rattle.std.proofs.lemmas.List.{get_or_default}
use Rattle.live_intake.specs.Segments.{LiveLane}
use Rattle.live_intake.specs.Meeting.{HasMet, HasMetLane}
use Rattle.live_reading.specs.Rings.{Ring}
use Rattle.live_intake.proofs.Meets.{done_more, met_here, rest_less}
use Rattle.live_intake.proofs.meeting.meet.Goals as goal

pub loop-k-preserved : goal.loop-k-preserved
loop-k-preserved g c =
    let L : Type 0 = LiveLane g.row.D.Denot in
    let inv = c.loop-k.invariant in
    let k = c.loop-k.k in
    let rings = c.loop-k.rings in
    let lanes = c.loop-k.lanes in
    let rings0 = c.args.rings.now in
    let lanes0 = c.args.lanes.now in
    let ltr : k < length rings = search rules in
    let ltl : k < length lanes = omega (arith, ltr, inv.all, inv.all_rings, c.requires.all) in
    let ring : Ring = get_or rings k c.index-rings-k.result in
    let lane : L = get_or lanes k c.index-lanes-k.result in
    let new : L = record lane { queue = c.meet_one.new.end } in
    let ring_is : (a : Ring) → ring ≡ get_or rings0 k a = λ a. get_or_default rings k c.index-rings-k.result a ltr ∙ (inv.rest k a lane (omega arith)).0 in
    let lane_is : (b : L) → lane ≡ get_or lanes0 k b = λ b. get_or_default lanes k c.index-lanes-k.result b ltl ∙ (inv.rest k ring b (omega arith)).1 in
    let met : HasMet ring lane.queue c.meet_one.new.ring c.meet_one.new.end = search rules in
    let P : Ring → L → Ring → L → Type 0 = λ r0 l0 r l. HasMetLane r0 l0 r l in
    record {
      all_rings = length-set rings k c.meet_one.new.ring ∙ inv.all_rings;
      all = length-set lanes k new ∙ inv.all;
      done = done_more P rings rings0 lanes lanes0 k c.meet_one.new.ring new ltr ltl inv.done inv.rest (λ a b. met_here (get_or rings0 k a) ring c.meet_one.new.ring (get_or lanes0 k b) lane c.meet_one.new.end (ring_is a) (lane_is b) met);
      rest = rest_less P rings rings0 lanes lanes0 k c.meet_one.new.ring new ltr ltl inv.done inv.rest (λ a b. met_here (get_or rings0 k a) ring c.meet_one.new.ring (get_or lanes0 k b) lane c.meet_one.new.end (ring_is a) (lane_is b) met);
    }
