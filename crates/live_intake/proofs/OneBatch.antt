-- One batch of an input, by what was read and served of it.
use Rattle.std.specs.Prelude.{MatchBool, None, Option, Some, ◌⊎◌}
use Rattle.std.proofs.Common.{◌≡◌, ◌∙◌, ◌+◌, ◌≤◌, ℕ, Bool, true, false, List, [], ◌∷◌, ◌++◌, length, take, sym, ap, subst, inl, inr}
use Rattle.std.specs.Io.KnownBytes.{IsAtEnd}
use Rattle.lane_runner.specs.disk_model.specs.Calls.{Seen}
use Rattle.lane_runner.specs.request_text.specs.declared.error.LineCause.{LineCause}
use Rattle.lane_runner.specs.request_text.specs.declared.request.Request.{Request}
use Rattle.lane_runner.specs.bureau_desk.specs.Desks.{DeskView}
use Rattle.lane_runner.specs.served_lines.specs.declared.answer.Answer.{Answer}
use Rattle.lane_runner.specs.Batches.{HasRunBatch}
use Rattle.live_reading.specs.input_front.specs.Front.{IsBatchAt, IsFrontOf}
use Rattle.live_reading.specs.input_front.specs.Taken.{HasBatches, HasRead, IntakeView, IsFirstWholeBad, KeepsRead}
use Rattle.live_reading.specs.input_front.proofs.Fronts.{front_law}
use Rattle.live_reading.specs.declared.stop.Stop.{Stop}
use Rattle.live_reading.specs.declared.stop.Stop.TheVariants as stop
use Rattle.live_reading.specs.Reading.{AreNumbered, Ends, HasFront, HasTakenPiece, IsBadForGood, fence_lines}
use Rattle.live_reading.specs.Fronts.{is_fence}
use Rattle.live_intake.specs.Live.{HasRunLive, IsStop, front_bytes, is_end}

-- the batches before
pub record HasBefore (old : IntakeView) : Type 0 where
  pub earlier : List (List Request)
  pub read : HasRead old earlier []
  pub place_is : length earlier ≡ old.served

pub before : (old : IntakeView) → old.fenced ≡ true → HasBatches old → HasBefore old
before old on h =
    let places = subst (λ f. MatchBool f ((h.batch ≡ []) × (old.served ≡ length h.ended)) (old.served ≡ length h.ended + 1)) on h.places in
    record { earlier = h.ended; read = subst (HasRead old h.ended) places.0 h.read; place_is = sym places.1 }

module _ (old begun new : IntakeView) (batch : List Request) (left : Option (List ℕ)) (n0 n1 : ℕ) (b : HasBefore old) (keeps : KeepsRead old begun) where
  behind : (bytes : List ℕ) → HasFront begun bytes batch → (earlier : List (List Request)) → HasRead old earlier [] → IsFrontOf bytes false (earlier ++ batch ∷ [])
  behind bytes front earlier read = front earlier [] (keeps earlier [] read)

  at_front : (bytes : List ℕ) → HasFront begun bytes batch → IsBatchAt bytes false old.served batch
  at_front bytes front = subst (λ (n : ℕ). IsBatchAt bytes false n batch) b.place_is (front_law.last bytes false b.earlier batch (behind bytes front b.earlier b.read))

  at_end : {ended : Bool} → (h : IsBatchAt new.taken ended (length b.earlier) batch) → IsBatchAt new.taken ended old.served batch
  at_end {ended} h = subst (λ (n : ℕ). IsBatchAt new.taken ended n batch) b.place_is h

  pub stops_at : (why : Stop) → Ends left n0 n1 begun new batch (Some why) → IsBatchAt (front_bytes new why) (is_end why) old.served batch
  stops_at stop.Fence e = at_end (e.1 b.earlier [] (keeps b.earlier [] b.read)).1
  stops_at stop.End e = at_end (e.1 b.earlier [] (keeps b.earlier [] b.read)).1
  stops_at (stop.BadLine line cause) e = at_front new.taken e.1
  stops_at stop.Failed e = at_front new.taken e.1
  stops_at stop.TooLong e = at_front new.taken e.1
  stops_at stop.Memory e = at_front (take new.read new.taken) e.1

  -- a bad line of the input
  bad_so : (line : ℕ) (cause : LineCause) → IsBadForGood left begun new line cause
      → (IsAtEnd left × (length new.taken ≤ new.limit)) ⊎ ((rest : List ℕ) → IsFirstWholeBad (new.taken ++ rest) line cause)
  bad_so line cause (inl ended) = inl ended
  bad_so line cause (inr stays) = inr (λ rest. stays rest b.earlier [] (keeps b.earlier [] b.read))

  pub stops_so : (why : Stop) → Ends left n0 n1 begun new batch (Some why) → IsStop left n0 n1 old new batch why
  stops_so stop.Fence e = λ earlier read. (e.1 earlier [] (keeps earlier [] read)).0
  stops_so stop.End e = (e.2, e.3, (λ earlier read. (e.1 earlier [] (keeps earlier [] read)).0), e.4)
  stops_so (stop.BadLine line cause) e = (behind new.taken e.1, e.2 b.earlier [] (keeps b.earlier [] b.read), bad_so line cause e.3)
  stops_so stop.Failed e = (behind new.taken e.1, e.2, e.3, e.4)
  stops_so stop.TooLong e = (behind new.taken e.1, e.2, e.3)
  stops_so stop.Memory e =
      (behind (take new.read new.taken) e.1, λ none. (behind new.taken (e.2 none), at_front new.taken (e.2 none)))

  pub fenced_so : (why : Stop) → Ends left n0 n1 begun new batch (Some why) → new.fenced ≡ is_fence why
  fenced_so stop.Fence e = e.0
  fenced_so stop.End e = e.0
  fenced_so (stop.BadLine line cause) e = e.0
  fenced_so stop.Failed e = e.0
  fenced_so stop.TooLong e = e.0
  fenced_so stop.Memory e = e.0

module _ {D S : Type 0} (seen : D → Seen) (left : S → Option (List ℕ)) (faults : S → ℕ) (desk_old desk_new : DeskView D) (source_old source_new : S) (old begun new : IntakeView) (answers : Option (List Answer)) (why : Stop) where
  pub has_run : old.fenced ≡ true → HasBatches old → begun ≡ record old { served = old.served + 1; fenced = false } → KeepsRead old begun
      → HasTakenPiece (left source_old) (left source_new) (faults source_old) (faults source_new) begun new
      → (batch : List Request) → HasRunBatch seen desk_old desk_new batch answers → Ends (left source_new) (faults source_old) (faults source_new) begun new batch (Some why)
      → (answers ≡ None → AreNumbered (begun.lines + 1) batch × (new.lines ≡ begun.lines + length batch + fence_lines why))
      → HasRunLive seen left faults desk_old desk_new source_old source_new old new answers why
  has_run on batches begins keeps taken batch ran ends counted =
      let b = before old on batches in
      record {
        batch = batch;
        ran = ran;
        piece = taken.piece;
        taken = taken.taken ∙ ap (λ (v : IntakeView). v.taken ++ taken.piece) begins;
        consumed = taken.consumed;
        limit_is = taken.limit_is ∙ ap (λ (v : IntakeView). v.limit) begins;
        served = taken.served_is ∙ ap (λ (v : IntakeView). v.served) begins;
        fenced = fenced_so old begun new batch (left source_new) (faults source_old) (faults source_new) b keeps why ends;
        at = stops_at old begun new batch (left source_new) (faults source_old) (faults source_new) b keeps why ends;
        stops = stops_so old begun new batch (left source_new) (faults source_old) (faults source_new) b keeps why ends;
        counted = λ none. subst (λ (n : ℕ). AreNumbered (n + 1) batch × (new.lines ≡ n + length batch + fence_lines why)) (ap (λ (v : IntakeView). v.lines) begins) (counted none);
      }
