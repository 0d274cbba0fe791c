-- Lanes with new seats, and what all of them have done.
use Rattle.std.proofs.Common.{◌≡◌, ◌∙◌, ◌+◌, ◌<◌, ◌≤◌, ℕ, List, [], ◌++◌, length, take, take_all, drop, get_or, map, reverse, All, refl, sym, ap, subst, arith, vec_capacity}
use Rattle.std.proofs.Math.ListN.{drop_of_length-le}
use Rattle.std.proofs.lemmas.List.{append-nil, get_or-map, length-map}
use Rattle.std.proofs.lemmas.List.Elements.{All-map}
use Rattle.shared_bureau.specs.disk_model.specs.Calls.{Seen}
use Rattle.shared_bureau.specs.claim_history.specs.declared.call.PoolEntry.{PoolEntry}
use Rattle.shared_bureau.specs.claim_history.proofs.Pasts.{all_reverse}
use Rattle.served_lines.specs.request_text.specs.declared.request.Request.{Request}
use Rattle.turn_lock.specs.declared.turn.Registrar.{Registrar}
use Rattle.turn_lock.specs.declared.turn.Seat.{Seat}
use Rattle.turn_lock.specs.declared.turn.Turn.{Turn}
use Rattle.turn_lock.specs.Turns.{EachOf}
use Rattle.turn_lock.specs.Seats.{number, registrar_view}
use Rattle.shared_bureau.specs.bureau_desk.specs.declared.base.DeskBase.{DeskBase}
use Rattle.shared_bureau.specs.bureau_desk.specs.Desks.{DeskView}
use Rattle.shared_bureau.specs.Adding.{IsReady}
use Rattle.shared_bureau.specs.Finishing.{HasFinished}
use Rattle.served_lines.specs.declared.answer.Answer.{Answer}
use Rattle.served_lines.specs.Served.{lane_lines, of_lane}
use Rattle.lane_runner.specs.declared.lane.Lane.{Lane}
use Rattle.lane_runner.specs.declared.lane.Place.{Place}
use Rattle.lane_runner.specs.Lanes.{HasServedLines, IsFit, ended}
use Rattle.lane_runner.specs.LanesServed.{HaveServed}
use Rattle.lane_runner.specs.Merging.{HasMerged, HaveEnds}
use Rattle.lane_runner.specs.Rooms.{HavePlaces}
use Rattle.lane_runner.specs.Seating.{HasMade, HasServedAll, IsNewLane, IsNewSeatAt, place_of}
use Rattle.lane_runner.proofs.Batched.{served_all}
use Rattle.lane_runner.proofs.Places.{one_of}

-- what stands behind a borrow of a whole list is the list that was left there
pub left_whole : {X : Type 0} (n : ℕ) (xs ys : List X) → length ys ≡ length xs → length xs ≤ n → take n (ys ++ drop (length ys) xs) ≡ ys
left_whole n xs ys same le =
    ap (λ l. take n (ys ++ l)) (drop_of_length-le xs (omega (arith, same)))
    ∙ ap (take n) (append-nil ys)
    ∙ take_all n ys (omega (arith, same, le))

-- ---- the places of lanes

pub as_many : {D Q : Type 0} (lanes : List (Lane D Q)) (places : List (Place Q)) → map place_of lanes ≡ places → length lanes ≡ length places
as_many lanes places same = sym (length-map lanes place_of) ∙ ap (λ l. length l) same

-- each place is that of its lane
pub placed : {D Q : Type 0} (P : ℕ → Place Q → Type 0) (lanes : List (Lane D Q)) (places : List (Place Q)) → map place_of lanes ≡ places → EachOf P places
    → EachOf (λ (k : ℕ) (lane : Lane D Q). P k (place_of lane)) lanes
placed P lanes places same each k lane lt =
    subst (P k) (ap (λ l. get_or l k (place_of lane)) (sym same) ∙ get_or-map place_of lanes k lane (place_of lane) lt)
    (each k (place_of lane) (omega (arith, lt, as_many lanes places same)))

-- lanes with room for what comes of their requests
pub all_fit : {D Q : Type 0} (turn : Turn (DeskView D) PoolEntry (DeskBase D)) (requests : List Request) (before : ℕ) (lanes : List (Lane D Q)) (places : List (Place Q))
    → map place_of lanes ≡ places → HavePlaces requests places → EachOf (IsNewLane turn before) lanes → All (IsFit turn requests) lanes
all_fit {D} {Q} turn requests before lanes places same room new k lane lt =
    let one = new k lane lt in
    let P : ℕ → Place Q → Type 0 = λ n place. (place.ends.items ≡ []) × (length (of_lane (n + 1) requests) ≤ vec_capacity place.ends) in
    let here = placed P lanes places same room k lane lt in
    record { ready = one.ready; fresh = here.0; room = subst (λ (n : ℕ). length (of_lane n requests) ≤ vec_capacity (get_or lanes k lane).ends) (sym one.seat.number_is) here.1 }

-- ---- the seats of lanes

-- no seat holds a turn
pub all_ready : {D Q : Type 0} (turn : Turn (DeskView D) PoolEntry (DeskBase D)) (lanes : List (Lane D Q)) → All (λ (l : Lane D Q). IsReady turn l.seat) lanes → All (IsReady turn) (reverse (map (λ (l : Lane D Q). l.seat) lanes))
all_ready {D} {Q} turn lanes ready =
    let seats : List (Seat (DeskView D) PoolEntry (DeskBase D)) = map (λ (l : Lane D Q). l.seat) lanes in
    all_reverse (IsReady turn) seats (All-map (IsReady turn) (λ (l : Lane D Q). l.seat) lanes ready)

module _ {D Q : Type 0} (turn : Turn (DeskView D) PoolEntry (DeskBase D)) (old new : Registrar (DeskView D) PoolEntry (DeskBase D)) {count : ℕ} (have : HasMade old new count) (firsts lasts : List (Lane D Q))
    (fresh : EachOf (IsNewLane turn (registrar_view old).opened) firsts) (all : length lasts ≡ length firsts) (requests : List Request) (answers : List Answer)
    (each : (k : ℕ) (lane : Lane D Q) → k < length firsts → HasServedLines (get_or firsts k lane).seat (get_or lasts k lane).seat (lane_lines (k + 1) requests answers)) where
  abbrev DeskSeat : Type 0
  DeskSeat = Seat (DeskView D) PoolEntry (DeskBase D)

  abbrev seats : List (Lane D Q) → List DeskSeat
  seats lanes = map (λ (l : Lane D Q). l.seat) lanes

  -- the seats were new
  new_seats : EachOf (IsNewSeatAt (registrar_view old).opened) (seats firsts)
  new_seats k s lt =
      let lt' : k < length firsts = omega (arith, lt, length-map firsts (λ (l : Lane D Q). l.seat)) in
      let d = one_of firsts k lt' in
      subst (IsNewSeatAt (registrar_view old).opened k) (sym (get_or-map (λ (l : Lane D Q). l.seat) firsts k d s lt')) (fresh k d lt').seat

  -- each has served the lines of its lane
  each_seat : (k : ℕ) (s : DeskSeat) → k < length (seats firsts) → HasServedLines (get_or (seats firsts) k s) (get_or (seats lasts) k s) (lane_lines (k + 1) requests answers)
  each_seat k s lt =
      let lt_old : k < length firsts = omega (arith, lt, length-map firsts (λ (l : Lane D Q). l.seat)) in
      let lt_now : k < length lasts = omega (arith, lt_old, all) in
      let none = one_of firsts k lt_old in
      subst (λ (x : DeskSeat). HasServedLines x (get_or (seats lasts) k s) (lane_lines (k + 1) requests answers)) (sym (get_or-map (λ (l : Lane D Q). l.seat) firsts k none s lt_old))
      (subst (λ (x : DeskSeat). HasServedLines (get_or firsts k none).seat x (lane_lines (k + 1) requests answers)) (sym (get_or-map (λ (l : Lane D Q). l.seat) lasts k none s lt_now))
      (each k none lt_old))

  pub all_served : (of_disk : D → Seen) (d : DeskView D) → (registrar_view old).opened ≡ length (registrar_view old).history.seen → map (λ a. a.line) answers ≡ map (λ r. r.line) requests
      → All (λ (r : Request). (1 ≤ r.lane) × (r.lane ≤ length lasts)) requests → HasFinished of_disk d (registrar_view new) (reverse (seats lasts)) → HasServedAll of_disk (registrar_view old) d requests answers
  all_served of_disk d opened_is answered among fin =
      let first_length = length-map firsts (λ (l : Lane D Q). l.seat) in
      let last_length = length-map lasts (λ (l : Lane D Q). l.seat) in
      served_all requests answers (registrar_view old).opened (seats firsts) (seats lasts) new_seats (last_length ∙ all ∙ sym first_length) each_seat of_disk (registrar_view old) (registrar_view new) d opened_is refl
      have.seen have.opened_is have.base_is answered (λ k r lt. (among k r lt).0) (λ k r lt. let high = (among k r lt).1 in omega (arith, high, last_length)) fin

-- ---- lanes that served the requests of a batch

module _ {D Q : Type 0} (turn : Turn (DeskView D) PoolEntry (DeskBase D)) (requests : List Request) (before : ℕ) (firsts lasts : List (Lane D Q)) (new : EachOf (IsNewLane turn before) firsts) (served : HaveServed turn requests firsts lasts) where
  -- each lane has an end for each of its requests
  pub have_ends : HaveEnds requests lasts
  have_ends k d lt =
      let lt' : k < length firsts = omega (arith, lt, served.0) in
      (served.1 k d lt').run.all ∙ ap (λ (n : ℕ). length (of_lane n requests)) (new k d lt').seat.number_is

  pub still_ready : All (λ (l : Lane D Q). IsReady turn l.seat) lasts
  still_ready k d lt = (served.1 k d (omega (arith, lt, served.0))).ready

  -- and has served its lines
  pub have_lines : (answers : List Answer) → HasMerged requests lasts answers → (k : ℕ) (d : Lane D Q) → k < length firsts
      → HasServedLines (get_or firsts k d).seat (get_or lasts k d).seat (lane_lines (k + 1) requests answers)
  have_lines answers merged k d lt =
      let old = get_or firsts k d in
      let now = get_or lasts k d in
      let lines : ended (of_lane (number old.seat) requests) now.ends.items ≡ lane_lines (k + 1) requests answers =
      ap (λ (n : ℕ). ended (of_lane n requests) now.ends.items) (new k d lt).seat.number_is ∙ sym (merged.each k d (omega (arith, lt, served.0))) in
      subst (HasServedLines old.seat now.seat) lines (served.1 k d lt).run.served
