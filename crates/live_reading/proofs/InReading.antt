-- The reader of a segment, one line more at a time.
use Rattle.std.specs.Prelude.{Some, None, Option, ◌⊎◌}
use Rattle.std.proofs.Common.{◌≡◌, ◌∙◌, ◌==◌, ◌+◌, ◌-◌, ◌<◌, ◌≤◌, ℕ, Bool, true, false, List, [], ◌∷◌, ◌++◌, All, length, drop, get_or, map, take, refl, sym, ap, subst, arith, append_assoc, eqb-true, inl, inr}
use Rattle.std.proofs.KnownBytes.{Consumes-nil, Consumes-trans}
use Rattle.std.proofs.lemmas.Bool.{eqb-false}
use Rattle.std.proofs.lemmas.List.{append-nil, get_or_default, map-append}
use Rattle.std.proofs.lemmas.List.Elements.{All-append, All-cons, All-nil, filter-append}
use Rattle.std.specs.Io.KnownBytes.{Consumes, IsAtEnd, Keeps}
use Rattle.served_lines.specs.fault_count.specs.Counts.{HasRisen}
use Rattle.served_lines.specs.fault_count.proofs.Rising.{risen_within}
use Rattle.rtrb.specs.declared.producer.Producer.{Producer}
use Rattle.rtrb.specs.Ring.{sent, SameProducer}
use Rattle.served_lines.specs.request_text.specs.declared.error.LineCause.{LineCause}
use Rattle.served_lines.specs.request_text.specs.declared.request.Request.{Request}
use Rattle.served_lines.specs.request_text.specs.Grammar.{IsFirstBadLine, IsRequestText}
use Rattle.served_lines.specs.request_text.specs.Lanes.{IsLane}
use Rattle.served_lines.specs.Served.{of_lane}
use Rattle.served_lines.proofs.OfLane.{other_more, own_more}
use Rattle.input_front.specs.declared.line.Line.TheVariants as line
use Rattle.input_front.specs.Front.{IsBatchAt, IsFrontOf}
use Rattle.input_front.specs.declared.intake.More.TheVariants as more
use Rattle.input_front.specs.Taken.{HasCome, HasLast, HasNext, HasNoFeed, HasNoLine, HasPiece, HasRead, IntakeView, IsFirstBad, IsFirstWholeBad, KeepsRead, OfRead}
use Rattle.input_front.proofs.Fronts.{front_law}
use Rattle.input_front.proofs.Reading.{front_read, no_line}
use Rattle.live_reading.specs.declared.handed.Handed.TheVariants as handed
use Rattle.live_reading.specs.declared.stop.Stop.{Stop}
use Rattle.live_reading.specs.declared.stop.Stop.TheVariants as stop
use Rattle.live_reading.specs.Handing.{handed_of}
use Rattle.live_reading.specs.Rings.{AreMarked, HasHanded, HasSent, HaveHanded, Ring}
use Rattle.live_reading.specs.Reading.{Ends, HasFront, HasGoneOn, HasReadLast, HasReadThese, HasSentAll, HasTakenPiece, HaveSentAll, IsBadForGood}

-- ---- rings

same_producer : {T A P : Type 0} (a b c : Producer T A P) → SameProducer a b → SameProducer b c → SameProducer a c
same_producer a b c x y = ((y.0.0 ∙ x.0.0, y.0.1 ∙ x.0.1, y.0.2 ∙ x.0.2, y.0.3 ∙ x.0.3), y.1 ∙ x.1)

-- nothing yet
pub none_sent : (rings : List Ring) → HaveSentAll rings rings []
none_sent rings = record { all = refl; each = λ k ring lt. record { same = ((refl, refl, refl, refl), refl); sent_is = sym (append-nil (sent (get_or rings k ring))) } }

-- one more
sent_one : (lane : ℕ) (first old new : Ring) (requests : List Request) (request : Request) → request.lane ≡ lane → HasSentAll first old (of_lane lane requests) → HasSent old new (handed_of request) → HasSentAll first new (of_lane lane (requests ++ request ∷ []))
sent_one lane first old new requests request is so_far one = record {
  same = same_producer first old new so_far.same one.same;
  sent_is =
      one.sent_is
      ∙ ap (λ l. l ++ handed_of request ∷ []) so_far.sent_is
      ∙ append_assoc (sent first) (map handed_of (of_lane lane requests)) (handed_of request ∷ [])
      ∙ ap (λ l. sent first ++ l) (sym (map-append handed_of (of_lane lane requests) (request ∷ [])))
      ∙ ap (λ l. sent first ++ map handed_of l) (sym (own_more lane requests request is));
}

module _ (firsts olds news : List Ring) (requests : List Request) (request : Request) (so_far : HaveSentAll firsts olds requests) (one : HasHanded olds news request) where
  by_lane : (k : ℕ) (ring : Ring) → k < length firsts → (b : Bool) → (k + 1 == request.lane) ≡ b → HasSentAll (get_or firsts k ring) (get_or news k ring) (of_lane (k + 1) (requests ++ request ∷ []))
  by_lane k ring lt true is =
      let lane : k + 1 ≡ request.lane = eqb-true (k + 1) request.lane is in
      let place : request.lane - 1 ≡ k = omega (arith, lane) in
      sent_one (k + 1) (get_or firsts k ring) (get_or olds k ring) (get_or news k ring) requests request (sym lane) (so_far.each k ring lt)
      (subst (λ n. HasSent (get_or olds n ring) (get_or news n ring) (handed_of request)) place (one.own ring))
  by_lane k ring lt false is =
      let apart = eqb-false (k + 1) request.lane is in
      subst (HasSentAll (get_or firsts k ring) (get_or news k ring)) (sym (other_more (k + 1) requests request (λ same. apart (sym same))))
      (subst (λ r. HasSentAll (get_or firsts k ring) r (of_lane (k + 1) requests)) (sym (one.others k ring apart)) (so_far.each k ring lt))

  pub sent_more : HaveSentAll firsts news (requests ++ request ∷ [])
  sent_more = record { all = one.all ∙ so_far.all; each = λ k ring lt. by_lane k ring lt (k + 1 == request.lane) refl }

-- these, and then those
pub sent_twice : (firsts olds news : List Ring) (one two : List Request) → HaveSentAll firsts olds one → HaveSentAll olds news two → HaveSentAll firsts news (one ++ two)
sent_twice firsts olds news one two h k = record {
  all = k.all ∙ h.all;
  each = λ n ring lt.
      let a = h.each n ring lt in
      let b = k.each n ring (omega (arith, h.all, lt)) in
      let mine : List Request → List Request = of_lane (n + 1) in
      record {
        same = same_producer (get_or firsts n ring) (get_or olds n ring) (get_or news n ring) a.same b.same;
        sent_is =
            b.sent_is
            ∙ ap (λ l. l ++ map handed_of (mine two)) a.sent_is
            ∙ append_assoc (sent (get_or firsts n ring)) (map handed_of (mine one)) (map handed_of (mine two))
            ∙ ap (λ l. sent (get_or firsts n ring) ++ l) (sym (map-append handed_of (mine one) (mine two)))
            ∙ ap (λ l. sent (get_or firsts n ring) ++ map handed_of l) (sym (filter-append (λ (r : Request). r.lane == n + 1) one two));
      };
}

-- one alone
pub sent_alone : (olds news : List Ring) (request : Request) → HasHanded olds news request → HaveSentAll olds news (request ∷ [])
sent_alone olds news request one = sent_more olds olds news [] request (none_sent olds) one

-- ---- lines

pub none_read : (v : IntakeView) → HasReadThese v v []
none_read v = λ ended batch h. subst (λ (b : List Request). HasRead v ended b) (sym (append-nil batch)) h

pub none_taken : {L : Option (List ℕ)} {n : ℕ} (v : IntakeView) → HasTakenPiece L L n n v v
none_taken {L} {n} v = record { piece = []; taken = sym (append-nil v.taken); consumed = Consumes-nil L; limit_is = refl; served_is = refl; later = omega arith }

pub taken_twice : (l0 l1 l2 : Option (List ℕ)) (n0 n1 n2 : ℕ) (u v w : IntakeView) → HasTakenPiece l0 l1 n0 n1 u v → HasTakenPiece l1 l2 n1 n2 v w → HasTakenPiece l0 l2 n0 n2 u w
taken_twice l0 l1 l2 n0 n1 n2 u v w h k = record {
  piece = h.piece ++ k.piece;
  taken = k.taken ∙ ap (λ (l : List ℕ). l ++ k.piece) h.taken ∙ append_assoc u.taken h.piece k.piece;
  consumed = Consumes-trans l0 l1 l2 h.piece k.piece h.consumed k.consumed;
  limit_is = k.limit_is ∙ h.limit_is;
  served_is = k.served_is ∙ h.served_is;
  later = omega (arith, h.later, k.later);
}

module _ (first old : IntakeView) (requests : List Request) (so_far : HasReadThese first old requests) where
  -- what is so of what was read is so behind what was read before it
  pub through : (P : List (List Request) → List Request → Type 0) → OfRead old P → OfRead first (λ ended batch. P ended (batch ++ requests))
  through P of = λ ended batch h. of ended (batch ++ requests) (so_far ended batch h)

  pub reads_more : (new : IntakeView) (more : List Request) → HasReadThese old new more → HasReadThese first new (requests ++ more)
  reads_more new more h = λ ended batch begun.
      subst (λ (b : List Request). HasRead new ended b) (append_assoc batch requests more) (h ended (batch ++ requests) (so_far ended batch begun))

  pub reads_on : (new : IntakeView) → KeepsRead old new → HasReadThese first new requests
  reads_on new keeps = λ ended batch begun. keeps ended (batch ++ requests) (so_far ended batch begun)

  pub front_more : (bytes : List ℕ) (more : List Request) → HasFront old bytes more → HasFront first bytes (requests ++ more)
  front_more bytes more h = λ ended batch begun.
      subst (λ (b : List Request). IsFrontOf bytes false (ended ++ b ∷ [])) (append_assoc batch requests more) (h ended (batch ++ requests) (so_far ended batch begun))

  pub bad_for_good : (left : Option (List ℕ)) (v : IntakeView) (number : ℕ) (cause : LineCause) → IsBadForGood left old v number cause → IsBadForGood left first v number cause
  bad_for_good left v number cause (inl ended) = inl ended
  bad_for_good left v number cause (inr stays) = inr (λ rest. through (λ ended batch. IsFirstWholeBad (v.taken ++ rest) number cause) (stays rest))

  -- an end behind what was read before
  pub ends_more : (left : Option (List ℕ)) (n0 n1 n2 : ℕ) (new : IntakeView) (more : List Request) (why : Option Stop) → n0 ≤ n1 → Ends left n1 n2 old new more why → Ends left n0 n2 first new (requests ++ more) why
  ends_more left n0 n1 n2 new more None le e = (e.0, reads_more new more e.1)
  ends_more left n0 n1 n2 new more (Some stop.Fence) le e = (
    e.0,
    λ ended batch begun. subst (λ (b : List Request). HasRead new (ended ++ b ∷ []) [] × IsBatchAt new.taken false (length ended) b) (append_assoc batch requests more) (e.1 ended (batch ++ requests) (so_far ended batch begun)),
  )
  ends_more left n0 n1 n2 new more (Some stop.End) le e = (
    e.0,
    (λ ended batch begun. subst
        (λ (b : List Request). (IsRequestText new.taken (ended ++ b ∷ []) ⊎ IsRequestText new.taken ((ended ++ b ∷ []) ++ [] ∷ [])) × IsBatchAt new.taken true (length ended) b)
        (append_assoc batch requests more) (e.1 ended (batch ++ requests) (so_far ended batch begun))),
    e.2,
    e.3,
    e.4,
  )
  ends_more left n0 n1 n2 new more (Some (stop.BadLine line cause)) le e =
      (e.0, front_more new.taken more e.1, (λ ended batch begun. e.2 ended (batch ++ requests) (so_far ended batch begun)), bad_for_good left new line cause e.3)
  ends_more left n0 n1 n2 new more (Some stop.Failed) le e = (e.0, front_more new.taken more e.1, e.2, risen_within n0 n1 n2 n2 le (omega arith) e.3, e.4)
  ends_more left n0 n1 n2 new more (Some stop.TooLong) le e = (e.0, front_more new.taken more e.1, e.2, e.3)
  ends_more left n0 n1 n2 new more (Some stop.Memory) le e = (e.0, front_more (take new.read new.taken) more e.1, λ none. front_more new.taken more (e.2 none))

-- ---- the next line

module _ (first old new : IntakeView) (requests : List Request) (so_far : HasReadThese first old requests) (begun : old.fenced ≡ false) where
  pub ends_fence : (left : Option (List ℕ)) (n0 n1 : ℕ) → HasNext old new line.Fence → Ends left n0 n1 first new requests (Some stop.Fence)
  ends_fence left n0 n1 h = (
    ap (λ (v : IntakeView). v.fenced) h.same,
    λ ended batch read. (h.reads ended (batch ++ requests) (so_far ended batch read), h.at ended (batch ++ requests) (so_far ended batch read)),
  )

  pub fenced_still : (v : IntakeView) → v ≡ old → v.fenced ≡ false
  fenced_still v same = ap (λ (x : IntakeView). x.fenced) same ∙ begun

  pub ends_bad : (left : Option (List ℕ)) (n0 n1 : ℕ) (number : ℕ) (cause : LineCause) → new ≡ old → IsFirstBad old number cause → IsBadForGood left old old number cause
      → Ends left n0 n1 first new requests (Some (stop.BadLine number cause))
  ends_bad left n0 n1 number cause same bad good = subst (λ (v : IntakeView). Ends left n0 n1 first v requests (Some (stop.BadLine number cause))) (sym same) (
    begun,
    through first old requests so_far (λ ended batch. IsFrontOf old.taken false (ended ++ batch ∷ [])) bad.1,
    through first old requests so_far (λ ended batch. IsFirstBadLine old.taken number cause) bad.0,
    bad_for_good first old requests so_far left old number cause good,
  )

  pub ends_failed : (left : Option (List ℕ)) (n0 n1 : ℕ) → new ≡ old → HasNoLine old → HasRisen n0 n1 → length old.taken ≤ old.limit → Ends left n0 n1 first new requests (Some stop.Failed)
  ends_failed left n0 n1 same none rose few = subst (λ (v : IntakeView). Ends left n0 n1 first v requests (Some stop.Failed)) (sym same) (
    begun,
    through first old requests so_far (λ ended batch. IsFrontOf old.taken false (ended ++ batch ∷ [])) none.front,
    none.none,
    rose,
    few,
  )

  pub ends_long : (left : Option (List ℕ)) (n0 n1 : ℕ) → new ≡ old → HasNoLine old → old.limit < length old.taken → Ends left n0 n1 first new requests (Some stop.TooLong)
  ends_long left n0 n1 same none long = subst (λ (v : IntakeView). Ends left n0 n1 first v requests (Some stop.TooLong)) (sym same) (
    begun,
    through first old requests so_far (λ ended batch. IsFrontOf old.taken false (ended ++ batch ∷ [])) none.front,
    none.none,
    long,
  )

  -- what was read is always a front of the bytes that were
  pub ends_memory : (left : Option (List ℕ)) (n0 n1 : ℕ) → new ≡ old → Ends left n0 n1 first new requests (Some stop.Memory)
  ends_memory left n0 n1 same = subst (λ (v : IntakeView). Ends left n0 n1 first v requests (Some stop.Memory)) (sym same) (
    begun,
    through first old requests so_far (λ ended batch. IsFrontOf (take old.read old.taken) false (ended ++ batch ∷ [])) (front_read old),
    λ none. through first old requests so_far (λ ended batch. IsFrontOf old.taken false (ended ++ batch ∷ [])) (no_line old none).front,
  )

-- ---- the last line

module _ (first v : IntakeView) (requests : List Request) (so_far : HasReadThese first v requests) (begun : v.fenced ≡ false) (left : Option (List ℕ)) (n0 n1 : ℕ) (at_end : IsAtEnd left) (few : length v.taken ≤ v.limit) (none : HasNoFeed (drop v.read v.taken)) where
  -- batches of a whole input end with the last
  last_at : (ended : List (List Request)) (batch : List Request) → IsRequestText v.taken (ended ++ batch ∷ []) → IsBatchAt v.taken true (length ended) batch
  last_at ended batch h = front_law.last v.taken true ended batch (front_law.whole v.taken (ended ++ batch ∷ []) h)

  pub ends_here : HasLast v None → Ends left n0 n1 first v requests (Some stop.End)
  ends_here h = (
    begun,
    (λ ended batch read. let text = h.1 ended (batch ++ requests) (so_far ended batch read) in (inl text, last_at ended (batch ++ requests) text)),
    at_end,
    few,
    none,
  )

  pub ends_asked : (request : Request) → HasLast v (Some (line.Asks request)) → Ends left n0 n1 first v (requests ++ request ∷ []) (Some stop.End)
  ends_asked request h = (
    begun,
    (λ ended batch read.
        let text = subst (λ (b : List Request). IsRequestText v.taken (ended ++ b ∷ [])) (append_assoc batch requests (request ∷ [])) (h.1 ended (batch ++ requests) (so_far ended batch read)) in
        (inl text, last_at ended (batch ++ (requests ++ request ∷ [])) text)),
    at_end,
    few,
    none,
  )

  pub ends_fence_last : HasLast v (Some line.Fence) → Ends left n0 n1 first v requests (Some stop.End)
  ends_fence_last h = (
    begun,
    (λ ended batch read. let both = h ended (batch ++ requests) (so_far ended batch read) in (inr both.0, both.1)),
    at_end,
    few,
    none,
  )

-- ---- what was read so far, and more

module _ (l0 l1 l2 : Option (List ℕ)) (n0 n1 n2 : ℕ) (u v w : IntakeView) (rings0 rings1 rings2 : List Ring) (noted0 noted1 noted2 : List Request) where
  pub gone_twice : (why : Option Stop) → HasGoneOn l0 l1 n0 n1 u v rings0 rings1 noted0 noted1 None → HasGoneOn l1 l2 n1 n2 v w rings1 rings2 noted1 noted2 why → HasGoneOn l0 l2 n0 n2 u w rings0 rings2 noted0 noted2 why
  gone_twice why h k = record {
    more = h.more ++ k.more;
    noted = k.noted ∙ ap (λ (l : List Request). l ++ k.more) h.noted ∙ append_assoc noted0 h.more k.more;
    sent = sent_twice rings0 rings1 rings2 h.more k.more h.sent k.sent;
    own = All-append (λ (r : Request). IsLane r.lane) h.more k.more h.own k.own;
    taken = taken_twice l0 l1 l2 n0 n1 n2 u v w h.taken k.taken;
    ends = ends_more u v h.more h.ends.1 l2 n0 n1 n2 w k.more why h.taken.later k.ends;
  }

one_own : (request : Request) → IsLane request.lane → All (λ (r : Request). IsLane r.lane) (request ∷ [])
one_own request lane = All-cons (λ (r : Request). IsLane r.lane) request [] lane (All-nil (λ (r : Request). IsLane r.lane))

none_own : All (λ (r : Request). IsLane r.lane) []
none_own = λ i r lt. absurd (omega (arith, lt))

-- nothing more was handed
pub gone_so : (l0 l1 : Option (List ℕ)) (n0 n1 : ℕ) (u v : IntakeView) (rings : List Ring) (noted : List Request) (why : Option Stop) → HasTakenPiece l0 l1 n0 n1 u v → Ends l1 n0 n1 u v [] why → HasGoneOn l0 l1 n0 n1 u v rings rings noted noted why
gone_so l0 l1 n0 n1 u v rings noted why taken ends = record { more = []; noted = sym (append-nil noted); sent = none_sent rings; own = none_own; taken = taken; ends = ends }

-- nothing at all was done
pub gone_nowhere : (l : Option (List ℕ)) (n : ℕ) (v : IntakeView) (rings : List Ring) (noted : List Request) → v.fenced ≡ false → HasGoneOn l l n n v v rings rings noted noted None
gone_nowhere l n v rings noted begun = gone_so l l n n v v rings noted None (none_taken v) (begun, none_read v)

-- the reading stands as it did, and so does the source but for what is told of it
pub taken_none : (l0 l1 : Option (List ℕ)) (n0 n1 : ℕ) (u v : IntakeView) → v ≡ u → Consumes l0 l1 [] → n0 ≤ n1 → HasTakenPiece l0 l1 n0 n1 u v
taken_none l0 l1 n0 n1 u v same consumed later = record {
  piece = [];
  taken = ap (λ (x : IntakeView). x.taken) same ∙ sym (append-nil u.taken);
  consumed = consumed;
  limit_is = ap (λ (x : IntakeView). x.limit) same;
  served_is = ap (λ (x : IntakeView). x.served) same;
  later = later;
}

pub kept_none : (l0 l1 : Option (List ℕ)) → Keeps l0 l1 → Consumes l0 l1 []
kept_none None l1 k = tt
kept_none (Some x) None k = absurd k
kept_none (Some x) (Some y) k = sym k

marked_at : (olds news : List Ring) → AreMarked olds news → (k : ℕ) (ring : Ring) → k < length olds → HasSent (get_or olds k ring) (get_or news k ring) handed.End
marked_at olds news marked k ring lt =
    let lt' : k < length news = omega (arith, marked.all, lt) in
    let one = get_or news k ring in
    subst (λ r. HasSent r one handed.End) (get_or_default olds k one ring lt) (marked.each k ring lt')

-- the mark behind them
pub all_handed : (firsts olds news : List Ring) (requests : List Request) → HaveSentAll firsts olds requests → AreMarked olds news → HaveHanded firsts news requests
all_handed firsts olds news requests so_far marked = record {
  all = marked.all ∙ so_far.all;
  each = λ k ring lt.
      let a = so_far.each k ring lt in
      let b : HasSent (get_or olds k ring) (get_or news k ring) handed.End = marked_at olds news marked k ring (omega (arith, so_far.all, lt)) in
      record {
        same = same_producer (get_or firsts k ring) (get_or olds k ring) (get_or news k ring) a.same b.same;
        sent_is = b.sent_is ∙ ap (λ l. l ++ handed.End ∷ []) a.sent_is ∙ append_assoc (sent (get_or firsts k ring)) (map handed_of (of_lane (k + 1) requests)) (handed.End ∷ []);
      };
}

-- the last line asked something, or nothing
pub last_asked_of : (v : IntakeView) (olds news : List Ring) (noted0 noted1 : List Request) (request : Request) → v.fenced ≡ false → HasNoFeed (drop v.read v.taken) → IsLane request.lane → HasLast v (Some (line.Asks request)) → HasHanded olds news request
    → noted1 ≡ noted0 ++ request ∷ [] → HasReadLast v olds news noted0 noted1 stop.End
last_asked_of v olds news noted0 noted1 request begun none lane h handed noted = record {
  more = request ∷ [];
  noted = noted;
  sent = sent_alone olds news request handed;
  own = one_own request lane;
  ends = λ left n0 n1 at_end few. ends_asked v v [] (none_read v) begun left n0 n1 at_end few none request h;
}

pub last_so : (v : IntakeView) (rings : List Ring) (noted : List Request) (why : Stop) → ((left : Option (List ℕ)) (n0 n1 : ℕ) → IsAtEnd left → length v.taken ≤ v.limit → Ends left n0 n1 v v [] (Some why)) → HasReadLast v rings rings noted noted why
last_so v rings noted why ends = record { more = []; noted = sym (append-nil noted); sent = none_sent rings; own = none_own; ends = ends }

pub last_fence_of : (v : IntakeView) (rings : List Ring) (noted : List Request) → v.fenced ≡ false → HasNoFeed (drop v.read v.taken) → HasLast v (Some line.Fence) → HasReadLast v rings rings noted noted stop.End
last_fence_of v rings noted begun none h = last_so v rings noted stop.End (λ left n0 n1 at_end few. ends_fence_last v v [] (none_read v) begun left n0 n1 at_end few none h)

pub last_none_of : (v : IntakeView) (rings : List Ring) (noted : List Request) → v.fenced ≡ false → HasNoFeed (drop v.read v.taken) → HasLast v None → HasReadLast v rings rings noted noted stop.End
last_none_of v rings noted begun none h = last_so v rings noted stop.End (λ left n0 n1 at_end few. ends_here v v [] (none_read v) begun left n0 n1 at_end few none h)

pub last_bad_of : (v : IntakeView) (rings : List Ring) (noted : List Request) (number : ℕ) (cause : LineCause) → v.fenced ≡ false → HasLast v (Some (line.Bad number cause)) → HasReadLast v rings rings noted noted (stop.BadLine number cause)
last_bad_of v rings noted number cause begun h = last_so v rings noted (stop.BadLine number cause) (λ left n0 n1 at_end few. ends_bad v v v [] (none_read v) begun left n0 n1 number cause refl h (inl (at_end, few)))

pub last_memory_of : (v : IntakeView) (rings : List Ring) (noted : List Request) → v.fenced ≡ false → HasReadLast v rings rings noted noted stop.Memory
last_memory_of v rings noted begun = last_so v rings noted stop.Memory (λ left n0 n1 at_end few. ends_memory v v v [] (none_read v) begun left n0 n1 refl)

-- a turn of the reader asked something
pub goes_asked : (l : Option (List ℕ)) (n : ℕ) (old new : IntakeView) (rings0 rings1 : List Ring) (noted0 noted1 : List Request) (request : Request) (why : Option Stop) → old.fenced ≡ false → HasNext old new (line.Asks request) → HasHanded rings0 rings1 request
    → noted1 ≡ noted0 ++ request ∷ [] → why ≡ None → HasGoneOn l l n n old new rings0 rings1 noted0 noted1 why
goes_asked l n old new rings0 rings1 noted0 noted1 request why begun h handed noted none = subst (λ (o : Option Stop). HasGoneOn l l n n old new rings0 rings1 noted0 noted1 o) (sym none) (record {
  more = request ∷ [];
  noted = noted;
  sent = sent_alone rings0 rings1 request handed;
  own = one_own request h.asked.can.by;
  taken = record {
    piece = [];
    taken = ap (λ (x : IntakeView). x.taken) h.same ∙ sym (append-nil old.taken);
    consumed = Consumes-nil l;
    limit_is = ap (λ (x : IntakeView). x.limit) h.same;
    served_is = ap (λ (x : IntakeView). x.served) h.same;
    later = omega arith;
  };
  ends = (ap (λ (x : IntakeView). x.fenced) h.same ∙ begun, h.reads);
})

-- a FENCE
pub goes_fence : (l : Option (List ℕ)) (n : ℕ) (old new : IntakeView) (rings : List Ring) (noted : List Request) → old.fenced ≡ false → HasNext old new line.Fence → HasGoneOn l l n n old new rings rings noted noted (Some stop.Fence)
goes_fence l n old new rings noted begun h = gone_so l l n n old new rings noted (Some stop.Fence) (record {
  piece = [];
  taken = ap (λ (x : IntakeView). x.taken) h.same ∙ sym (append-nil old.taken);
  consumed = Consumes-nil l;
  limit_is = ap (λ (x : IntakeView). x.limit) h.same;
  served_is = ap (λ (x : IntakeView). x.served) h.same;
  later = omega arith;
}) (ends_fence old old new [] (none_read old) begun l n n h)

-- a line that is not in the grammar, or for which there was no memory
pub goes_bad : (l : Option (List ℕ)) (n : ℕ) (old new : IntakeView) (rings : List Ring) (noted : List Request) (number : ℕ) (cause : LineCause) (why : Option Stop) → old.fenced ≡ false → HasNext old new (line.Bad number cause)
    → why ≡ Some (stop.BadLine number cause) → HasGoneOn l l n n old new rings rings noted noted why
goes_bad l n old new rings noted number cause why begun h is = subst (λ (o : Option Stop). HasGoneOn l l n n old new rings rings noted noted o) (sym is) (
    gone_so l l n n old new rings noted (Some (stop.BadLine number cause)) (taken_none l l n n old new h.0 (Consumes-nil l) (omega arith))
    (ends_bad old old new [] (none_read old) begun l n n number cause h.0 h.1 (inr h.2))
    )

pub goes_memory : (l : Option (List ℕ)) (n : ℕ) (old new : IntakeView) (rings : List Ring) (noted : List Request) → old.fenced ≡ false → new ≡ old → HasGoneOn l l n n old new rings rings noted noted (Some stop.Memory)
goes_memory l n old new rings noted begun same = gone_so l l n n old new rings noted (Some stop.Memory) (taken_none l l n n old new same (Consumes-nil l) (omega arith))
    (ends_memory old old new [] (none_read old) begun l n n same)

-- more was asked of the source
module _ {S : Type 0} (left : S → Option (List ℕ)) (faults : S → ℕ) (s0 s1 : S) (old mid new : IntakeView) (rings : List Ring) (noted : List Request) (begun : old.fenced ≡ false) (same : mid ≡ old) (none : HasNoLine old) (later : faults s0 ≤ faults s1) where
  abbrev Goes : Option Stop → Type 0
  Goes why = HasGoneOn (left s0) (left s1) (faults s0) (faults s1) old new rings rings noted noted why

  pub goes_piece : HasPiece (left s0) (left s1) mid new → Goes None
  goes_piece p = gone_so (left s0) (left s1) (faults s0) (faults s1) old new rings noted None (record {
    piece = p.piece;
    taken = ap (λ (x : IntakeView). x.taken) p.same ∙ ap (λ (x : IntakeView). x.taken ++ p.piece) same;
    consumed = p.consumed;
    limit_is = ap (λ (x : IntakeView). x.limit) p.same ∙ ap (λ (x : IntakeView). x.limit) same;
    served_is = ap (λ (x : IntakeView). x.served) p.same ∙ ap (λ (x : IntakeView). x.served) same;
    later = later;
  }) (
    ap (λ (x : IntakeView). x.fenced) p.same ∙ ap (λ (x : IntakeView). x.fenced) same ∙ begun,
    reads_on old old [] (none_read old) new (subst (λ (x : IntakeView). KeepsRead x new) same p.reads),
  )

  pub goes_failed : HasCome left s0 s1 mid new more.Failed → HasRisen (faults s0) (faults s1) → Goes (Some stop.Failed)
  goes_failed h rose = gone_so (left s0) (left s1) (faults s0) (faults s1) old new rings noted (Some stop.Failed) (taken_none (left s0) (left s1) (faults s0) (faults s1) old new (h.0 ∙ same) (kept_none (left s0) (left s1) h.1) later)
      (ends_failed old old new [] (none_read old) begun (left s1) (faults s0) (faults s1) (h.0 ∙ same) none rose (subst (λ (x : IntakeView). length x.taken ≤ x.limit) same h.2))

  pub goes_long : HasCome left s0 s1 mid new more.TooLong → Goes (Some stop.TooLong)
  goes_long h = gone_so (left s0) (left s1) (faults s0) (faults s1) old new rings noted (Some stop.TooLong) (taken_none (left s0) (left s1) (faults s0) (faults s1) old new (h.0 ∙ same) (subst (λ (s : S). Consumes (left s0) (left s) []) (sym h.1) (Consumes-nil (left s0))) later)
      (ends_long old old new [] (none_read old) begun (left s1) (faults s0) (faults s1) (h.0 ∙ same) none (subst (λ (x : IntakeView). x.limit < length x.taken) same h.2))

  pub goes_no_memory : HasCome left s0 s1 mid new more.Memory → Goes (Some stop.Memory)
  goes_no_memory h = gone_so (left s0) (left s1) (faults s0) (faults s1) old new rings noted (Some stop.Memory) (taken_none (left s0) (left s1) (faults s0) (faults s1) old new (h.0 ∙ same) (subst (λ (s : S). Consumes (left s0) (left s) []) (sym h.1) (Consumes-nil (left s0))) later)
      (ends_memory old old new [] (none_read old) begun (left s1) (faults s0) (faults s1) (h.0 ∙ same))

  pub goes_end : HasCome left s0 s1 mid new more.End → (rings1 : List Ring) (noted1 : List Request) (why : Stop) → HasReadLast new rings rings1 noted noted1 why
      → HasGoneOn (left s0) (left s1) (faults s0) (faults s1) old new rings rings1 noted noted1 (Some why)
  goes_end h rings1 noted1 why last = record {
    more = last.more;
    noted = last.noted;
    sent = last.sent;
    own = last.own;
    taken = taken_none (left s0) (left s1) (faults s0) (faults s1) old new (h.0 ∙ same) h.1 later;
    ends = subst (λ (x : IntakeView). Ends (left s1) (faults s0) (faults s1) x new last.more (Some why)) (h.0 ∙ same) (last.ends (left s1) (faults s0) (faults s1) h.2 (subst (λ (x : IntakeView). length x.taken ≤ x.limit) (sym h.0) h.3));
  }
