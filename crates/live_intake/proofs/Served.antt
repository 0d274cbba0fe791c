-- The lanes between segments, and what they have served so far.
use Rattle.std.specs.Prelude.{None, Option}
use Rattle.std.proofs.Common.{◌≡◌, ◌∙◌, ◌+◌, ◌<◌, ◌≤◌, ℕ, false, List, [], ◌++◌, All, length, get_or, map, refl, sym, ap, subst, arith}
use Rattle.std.proofs.lemmas.List.{map-append}
use Rattle.std.proofs.lemmas.List.Elements.{All-append}
use Rattle.lane_runner.specs.claim_history.specs.declared.call.PoolEntry.{PoolEntry}
use Rattle.turn_lock.specs.declared.turn.Turn.{Turn}
use Rattle.lane_runner.specs.bureau_desk.specs.declared.base.DeskBase.{DeskBase}
use Rattle.lane_runner.specs.bureau_desk.specs.Desks.{DeskView}
use Rattle.lane_runner.specs.request_text.specs.declared.request.Request.{Request}
use Rattle.lane_runner.specs.request_text.specs.Lanes.{IsLane}
use Rattle.lane_runner.specs.served_lines.specs.declared.answer.Answer.{Answer}
use Rattle.lane_runner.specs.served_lines.specs.Served.{lane_lines}
use Rattle.lane_runner.specs.Lanes.{HasServedLines}
use Rattle.lane_runner.specs.Merging.{HasMerged, HaveEnds}
use Rattle.lane_runner.proofs.Places.{one_of}
use Rattle.live_reading.specs.input_front.specs.Taken.{IntakeView}
use Rattle.live_reading.specs.declared.stop.Stop.{Stop}
use Rattle.live_reading.specs.Handing.{IsMarked}
use Rattle.live_intake.specs.Joining.{AreJoined, HaveServedThese}
use Rattle.live_reading.specs.Rings.{Ring}
use Rattle.live_intake.specs.Segments.{LiveLane}
use Rattle.live_intake.specs.Batching.{AreReady, HasServedBatch, HasServedMore, HaveServedAll}
use Rattle.live_intake.proofs.Following.{lane_lines_append, none_served, then_served}
use Rattle.live_reading.proofs.InReading.{ends_more, none_read}

-- ---- one segment

module _ {D : Type 0} (turn : Turn (DeskView D) PoolEntry (DeskBase D)) (requests : List Request) (rings0 rings1 : List Ring) (lanes0 lanes1 : List (LiveLane D)) (ready : AreReady turn rings0 lanes0) (joined : AreJoined rings1 lanes1) (served : HaveServedThese turn requests lanes0 lanes1) where
  pub ready_again : AreReady turn rings1 lanes1
  ready_again = record {
    many = served.all ∙ ready.many;
    joined = joined;
    fit = λ k lane lt.
        let ltr : k < length rings1 = omega (arith, lt, joined.same) in
        let at = joined.each k (one_of rings1 k ltr) lane ltr in
        let one = served.each k lane (omega (arith, lt, served.all)) in
        record { ready = one.ready; marked = subst IsMarked (sym at.all) at.marked; spare = one.spare };
  }

  pub have_ends : HaveEnds requests lanes1
  have_ends k lane lt = (served.each k lane (omega (arith, lt, served.all))).run.all

  pub all_among : All (λ r. IsLane r.lane) requests → All (λ r. (1 ≤ r.lane) × (r.lane ≤ length lanes1)) requests
  all_among own k r lt =
      let lane = own k r lt in
      let low = lane.0 in
      let high = lane.1 in
      (low, omega (arith, high, served.all, ready.many))

  pub served_so : All (λ r. IsLane r.lane) requests → (later : List Answer) → HasMerged requests lanes1 later → HaveServedAll lanes0 lanes1 requests later
  served_so own later have = record {
    all = served.all;
    own = own;
    answered = have.answered;
    each = λ k lane lt.
        subst (HasServedLines (get_or lanes0 k lane).seat (get_or lanes1 k lane).seat) (sym (have.each k lane (omega (arith, lt, served.all)))) (served.each k lane lt).run.served;
  }

-- nothing was served
pub none_served_of : {D : Type 0} (lanes : List (LiveLane D)) → HaveServedAll lanes lanes [] []
none_served_of lanes = record { all = refl; own = λ i r lt. absurd (omega (arith, lt)); answered = refl; each = λ k lane lt. none_served (get_or lanes k lane).seat }

-- ---- one after another

module _ {D : Type 0} (firsts olds news : List (LiveLane D)) (requests more : List Request) (answers later : List Answer) (h : HaveServedAll firsts olds requests answers) (k : HaveServedAll olds news more later) where
  pub served_twice : HaveServedAll firsts news (requests ++ more) (answers ++ later)
  served_twice = record {
    all = k.all ∙ h.all;
    own = All-append (λ (r : Request). IsLane r.lane) requests more h.own k.own;
    answered =
        map-append (λ (a : Answer). a.line) answers later
        ∙ ap (λ (l : List ℕ). l ++ map (λ (a : Answer). a.line) later) h.answered
        ∙ ap (λ (l : List ℕ). map (λ (r : Request). r.line) requests ++ l) k.answered
        ∙ sym (map-append (λ (r : Request). r.line) requests more);
    each = λ n lane lt.
        subst (HasServedLines (get_or firsts n lane).seat (get_or news n lane).seat) (sym (lane_lines_append (n + 1) requests more answers later h.answered))
        (then_served (get_or firsts n lane).seat (get_or olds n lane).seat (get_or news n lane).seat (lane_lines (n + 1) requests answers) (lane_lines (n + 1) more later) (h.each n lane lt) (k.each n lane (omega (arith, lt, h.all))));
  }

module _ {D : Type 0} (turn : Turn (DeskView D) PoolEntry (DeskBase D)) where
  pub batch_none : (l : Option (List ℕ)) (n : ℕ) (v : IntakeView) (rings : List Ring) (lanes : List (LiveLane D)) (answers : List Answer) → answers ≡ [] → v.fenced ≡ false → AreReady turn rings lanes → HasServedBatch turn l n n v v rings lanes lanes answers None
  batch_none l n v rings lanes answers none begun ready = record {
    batch = [];
    ready = ready;
    served = subst (HaveServedAll lanes lanes []) (sym none) (none_served_of lanes);
    ends = (begun, none_read v);
  }

  module _ (l1 l2 : Option (List ℕ)) (n0 n1 n2 : ℕ) (u v w : IntakeView) (rings1 rings2 : List Ring) (firsts olds news : List (LiveLane D)) (answers1 answers2 : List Answer) (h : HasServedBatch turn l1 n0 n1 u v rings1 firsts olds answers1 None) where
    pub batch_more : (why : Option Stop) → n0 ≤ n1 → HasServedMore turn l2 n1 n2 v w rings2 olds news answers1 answers2 why → HasServedBatch turn l2 n0 n2 u w rings2 firsts news answers2 why
    batch_more why le k = record {
      batch = h.batch ++ k.requests;
      ready = k.ready;
      served = subst (HaveServedAll firsts news (h.batch ++ k.requests)) (sym k.answers_are) (served_twice firsts olds news h.batch k.requests answers1 k.later h.served k.served);
      ends = ends_more u v h.batch h.ends.1 l2 n0 n1 n2 w k.requests why le k.ends;
    }
