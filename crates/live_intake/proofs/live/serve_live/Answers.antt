use Rattle.std.proofs.Common.{rules, ◌≡◌, ◌∙◌, ◌≤◌, List, ◌++◌, All, length, map, reverse, take, drop, sym, ap, subst, arith, vec_capacity}
use Rattle.std.proofs.lemmas.List.{length-map, length-reverse}
use Rattle.lane_runner.specs.claim_history.specs.declared.call.PoolEntry.{PoolEntry}
use Rattle.turn_lock.specs.declared.turn.Seat.{Seat}
use Rattle.turn_lock.specs.Turns.{EachOf}
use Rattle.turn_lock.specs.Seats.{registrar_view}
use Rattle.lane_runner.specs.bureau_desk.specs.declared.base.DeskBase.{DeskBase}
use Rattle.lane_runner.specs.bureau_desk.specs.Desks.{DeskView}
use Rattle.lane_runner.specs.shared_bureau.specs.Adding.{IsReady}
use Rattle.lane_runner.specs.shared_bureau.specs.Finishing.{HasFinished}
use Rattle.lane_runner.specs.request_text.specs.declared.request.Request.{Request}
use Rattle.lane_runner.specs.Seating.{IsNewLane}
use Rattle.lane_runner.proofs.AllLanes.{all_ready, all_served, left_whole}
use Rattle.live_intake.specs.Segments.{LiveLane}
use Rattle.live_intake.specs.Batching.{AreReady}
use Rattle.live_reading.specs.Rings.{Ring}
use Rattle.live_intake.proofs.Seating.{ready_to_begin}
use Rattle.live_intake.proofs.live.serve_live.Goals as goal

pub serve_segments-stop-requires-clause-ready : goal.serve_segments-stop-requires-clause-ready
serve_segments-stop-requires-clause-ready g c κs within =
    let L : Type 0 = LiveLane g.row.D.Denot in
    let turn = c.args.shared.turn in
    let rings = c.args.room.rings.items in
    let items = c.seat_lanes.new.lanes.items in
    let ready = ready_to_begin turn (registrar_view c.args.registrar).opened rings c.args.room.places.items items c.requires.room.many c.requires.room.places c.seat_lanes.ensures.places c.seat_lanes.ensures.lanes in
    subst (λ (r : List Ring). AreReady turn r c.as_mut_slice.result.now) (sym c.as_mut_slice-2.ensures.value) (subst (λ (l : List L). AreReady turn rings l) (sym c.as_mut_slice.ensures.value) ready)

pub unseat-requires-clause-spare : goal.unseat-requires-clause-spare
unseat-requires-clause-spare g c =
    let L : Type 0 = LiveLane g.row.D.Denot in
    let items = c.seat_lanes.new.lanes.items in
    let lasts = c.serve_segments-stop.new.lanes in
    let told = c.serve_segments-stop.ensures.served in
    let long : length lasts ≡ length items = told.served.all ∙ ap (λ (l : List L). length l) c.as_mut_slice.ensures.value in
    let len : length items ≤ c.seat_lanes.new.lanes.len = search rules in
    let same : take c.seat_lanes.new.lanes.len (lasts ++ drop (length lasts) items) ≡ lasts = left_whole c.seat_lanes.new.lanes.len items lasts long len in
    subst (λ n. n ≤ vec_capacity c.args.room.seats) (sym (ap (λ (l : List L). length l) same ∙ told.ready.many)) c.requires.room.seats

pub finish-desk-requires-clause-all : goal.finish-desk-requires-clause-all
finish-desk-requires-clause-all g c =
    let L : Type 0 = LiveLane g.row.D.Denot in
    let S : Type 0 = Seat (DeskView g.row.D.Denot) PoolEntry (DeskBase g.row.D.Denot) in
    let items = c.seat_lanes.new.lanes.items in
    let lasts = c.serve_segments-stop.new.lanes in
    let told = c.serve_segments-stop.ensures.served in
    let long : length lasts ≡ length items = told.served.all ∙ ap (λ (l : List L). length l) c.as_mut_slice.ensures.value in
    let len : length items ≤ c.seat_lanes.new.lanes.len = search rules in
    let same : take c.seat_lanes.new.lanes.len (lasts ++ drop (length lasts) items) ≡ lasts = left_whole c.seat_lanes.new.lanes.len items lasts long len in
    let seats : c.unseat.new.seats.items ≡ reverse (map (λ (l : L). l.seat) lasts) = c.unseat.ensures ∙ ap (λ (l : List L). reverse (map (λ (x : L). x.seat) l)) same in
    ap (λ (l : List S). length l) seats ∙ length-reverse (map (λ (l : L). l.seat) lasts) ∙ length-map lasts (λ (l : L). l.seat) ∙ told.ready.many ∙ sym c.requires.room.many ∙ sym c.seat_lanes.ensures.registrar.made_is

pub finish-desk-requires-clause-ready : goal.finish-desk-requires-clause-ready
finish-desk-requires-clause-ready g c =
    let L : Type 0 = LiveLane g.row.D.Denot in
    let S : Type 0 = Seat (DeskView g.row.D.Denot) PoolEntry (DeskBase g.row.D.Denot) in
    let turn = c.args.shared.turn in
    let items = c.seat_lanes.new.lanes.items in
    let lasts = c.serve_segments-stop.new.lanes in
    let told = c.serve_segments-stop.ensures.served in
    let long : length lasts ≡ length items = told.served.all ∙ ap (λ (l : List L). length l) c.as_mut_slice.ensures.value in
    let len : length items ≤ c.seat_lanes.new.lanes.len = search rules in
    let same : take c.seat_lanes.new.lanes.len (lasts ++ drop (length lasts) items) ≡ lasts = left_whole c.seat_lanes.new.lanes.len items lasts long len in
    let seats : c.unseat.new.seats.items ≡ reverse (map (λ (l : L). l.seat) lasts) = c.unseat.ensures ∙ ap (λ (l : List L). reverse (map (λ (x : L). x.seat) l)) same in
    subst (λ (l : List S). All (IsReady turn) l) (sym seats) (all_ready turn lasts (λ k d lt. (told.ready.fit k d lt).ready))

pub returns-clause-served : goal.returns-clause-served
returns-clause-served g c =
    let L : Type 0 = LiveLane g.row.D.Denot in
    let S : Type 0 = Seat (DeskView g.row.D.Denot) PoolEntry (DeskBase g.row.D.Denot) in
    let turn = c.args.shared.turn in
    let known = registrar_view c.args.registrar in
    let made = registrar_view c.seat_lanes.new.registrar in
    let desk = c.finish-desk.result in
    let answers = c.serve_segments-stop.new.answers.items in
    let items = c.seat_lanes.new.lanes.items in
    let firsts = c.as_mut_slice.result.now in
    let lasts = c.serve_segments-stop.new.lanes in
    let told = c.serve_segments-stop.ensures.served in
    let new : EachOf (IsNewLane turn known.opened) firsts = subst (EachOf (IsNewLane turn known.opened)) (sym c.as_mut_slice.ensures.value) c.seat_lanes.ensures.lanes in
    let long : length lasts ≡ length items = told.served.all ∙ ap (λ (l : List L). length l) c.as_mut_slice.ensures.value in
    let len : length items ≤ c.seat_lanes.new.lanes.len = search rules in
    let same : take c.seat_lanes.new.lanes.len (lasts ++ drop (length lasts) items) ≡ lasts = left_whole c.seat_lanes.new.lanes.len items lasts long len in
    let seats : c.unseat.new.seats.items ≡ reverse (map (λ (l : L). l.seat) lasts) = c.unseat.ensures ∙ ap (λ (l : List L). reverse (map (λ (x : L). x.seat) l)) same in
    let fin : HasFinished g.D.Disk.seen desk made (reverse (map (λ (l : L). l.seat) lasts)) = subst (λ (l : List S). HasFinished g.D.Disk.seen desk made l) seats c.finish-desk.ensures in
    let among : All (λ (r : Request). (1 ≤ r.lane) × (r.lane ≤ length lasts)) told.batch =
    λ k r lt. let lane = told.served.own k r lt in let high = lane.1 in (lane.0, omega (arith, high, told.ready.many)) in
    record {
      batch = told.batch;
      all = all_served turn c.args.registrar c.seat_lanes.new.registrar c.seat_lanes.ensures.registrar firsts lasts new told.served.all told.batch answers told.served.each g.D.Disk.seen desk c.requires.opened told.served.answered among fin;
      ends = told.ends;
    }
