-- The batches that were served so far of an input that is still read, and one more.
use Rattle.std.specs.Prelude.{Option, Result}
use Rattle.std.proofs.Common.{true≢false, ◌≡◌, ◌∙◌, inl, inr, ⊎_elim, ℕ, ◌≤◌, true, false, List, [], ◌∷◌, ◌++◌, length, drop, refl, sym, ap, subst, arith}
use Rattle.std.proofs.lemmas.List.{append-nil, take-append-drop}
use Rattle.std.proofs.lemmas.List.Splits.{slice_split_none}
use Rattle.std.specs.Io.KnownBytes.{Appends, Consumes}
use Rattle.std.proofs.KnownBytes.{Consumes-nil, Consumes-trans}
use Rattle.batch_runs.specs.setoff_model.specs.declared.limits.TheConstants.{MOST_INPUT_BYTES}
use Rattle.batch_runs.specs.fault_count.specs.Counts.{HasRisen}
use Rattle.batch_runs.specs.fault_count.proofs.Rising.{risen_within}
use Rattle.bureau_edge.specs.Streams.{AppendsPart}
use Rattle.disk_model.specs.Calls.{Seen}
use Rattle.batch_runs.specs.disk_witness.specs.Shown.{Shown}
use Rattle.batch_runs.specs.request_text.specs.declared.request.Request.{Request}
use Rattle.batch_runs.specs.request_text.specs.Grammar.{AreBatches, IsRequestText}
use Rattle.batch_runs.specs.bureau_desk.specs.Desks.{DeskView}
use Rattle.batch_runs.specs.printed_text.specs.declared.exit_status.ExitStatus.{ExitStatus}
use Rattle.batch_runs.specs.printed_text.specs.declared.exit_status.ExitStatus.TheVariants as statuses
use Rattle.live_intake.specs.input_front.specs.Front.{IsFrontOf, is_feed, whole_lines, whole_of_parts}
use Rattle.live_intake.specs.input_front.specs.Taken.{HasBatches, HasNoFeed, HasRead, IntakeView}
use Rattle.live_intake.specs.input_front.proofs.Fronts.{front_law}
use Rattle.live_intake.specs.live_reading.specs.declared.stop.Stop.{Stop}
use Rattle.live_intake.specs.live_reading.specs.declared.stop.Stop.TheVariants as stop
use Rattle.live_intake.specs.live_reading.specs.Fronts.{IsFrontServed, IsTakenWhole, is_fence}
use Rattle.live_intake.specs.Live.{IsStop}
use Rattle.batch_runs.specs.declared.tally.Tally.{Tally}
use Rattle.batch_runs.specs.Runs.{run_status}
use Rattle.batch_runs.specs.Serving.{IsTally, text_between}
use Rattle.batch_runs.proofs.Batches.{SoFar, begins, breaks_at_last, ends_with, more, more_empty}
use Rattle.live_runs.specs.Serving.{HasServedInput, HasToldLive}

-- these batches were served, each up to its FENCE
pub record IsServing {D : Type 0} (seen : D → Seen) (left_first left_now : Option (List ℕ)) (faults_first faults_now : ℕ)
    (first : DeskView D) (x : Option (List ℕ)) (a : List (Shown D)) (now : DeskView D) (v : IntakeView) (y : Option (List ℕ)) (b : List (Shown D)) (tally : Tally) : Type 0 where
  pub batches : List (List Request)
  pub so_far : SoFar seen first x a now batches y b tally
  pub read : HasRead v batches []
  pub fenced : v.fenced ≡ true
  pub limit_is : v.limit ≡ MOST_INPUT_BYTES
  pub consumed : Consumes left_first left_now v.taken
  pub later : faults_first ≤ faults_now

-- where no whole line is left to be read, the front of what was taken spells all its whole lines
all_whole : (v : IntakeView) → HasBatches v → HasNoFeed (drop v.read v.taken) → (batches : List (List Request)) → IsFrontOf v.taken false batches → AreBatches 1 (whole_lines v.taken) batches
all_whole v h none batches front =
    let before = h.read.before in
    let rest = drop v.read v.taken in
    let read = h.ended ++ h.batch ∷ [] in
    let lines_are : whole_lines v.taken ≡ before ++ [] =
    ap whole_lines (sym (take-append-drop v.read v.taken)) ∙ h.read.whole.as_whole rest ∙ ap (λ (l : List (List ℕ)). before ++ l) (ap whole_of_parts (slice_split_none is_feed rest none)) in
    let whole : IsFrontOf v.taken false read = record { before = before; after = []; cut = lines_are; spelled = h.read.spelled; stops = tt } in
    let same : batches ≡ read = front_law.only v.taken false batches read front whole in
    subst (λ (l : List (List Request)). AreBatches 1 (whole_lines v.taken) l) (sym same)
    (subst (λ (l : List (List ℕ)). AreBatches 1 l read) (sym (lines_are ∙ append-nil before)) h.read.spelled)

-- an intake of which nothing was taken
abbrev pub fresh : IntakeView
fresh = record { limit = MOST_INPUT_BYTES; taken = []; read = 0; lines = 0; served = 0; fenced = true }

none_served : (l : List (List Request)) → 0 ≡ length l → l ≡ []
none_served [] is = refl
none_served (b ∷ l) is = absurd (omega (arith, is))

nothing_read : HasBatches fresh → HasRead fresh [] []
nothing_read h =
    subst (λ (e : List (List Request)). HasRead fresh e []) (none_served h.ended h.places.1) (subst (HasRead fresh h.ended) h.places.0 h.read)

module _ {D : Type 0} (seen : D → Seen) (left_first : Option (List ℕ)) (faults_first : ℕ) (first : DeskView D) (x : Option (List ℕ)) (a : List (Shown D)) where
  pub serving_none : (v : IntakeView) → v ≡ fresh → HasBatches v → (tally : Tally) → IsTally tally []
      → IsServing seen left_first left_first faults_first faults_first first x a first v x a tally
  serving_none v is h tally told = record {
    batches = [];
    so_far = begins seen first x a tally told;
    read = subst (λ (w : IntakeView). HasRead w [] []) (sym is) (nothing_read (subst HasBatches is h));
    fenced = ap (λ (w : IntakeView). w.fenced) is;
    limit_is = ap (λ (w : IntakeView). w.limit) is;
    consumed = subst (Consumes left_first left_first) (sym (ap (λ (w : IntakeView). w.taken) is)) (Consumes-nil left_first);
    later = omega arith;
  }

  module _ {S T E : Type 0} (left : S → Option (List ℕ)) (faults : S → ℕ) (now new : DeskView D) (s0 s1 : S) (v w : IntakeView) (tally after : Tally)
      (y z : Option (List ℕ)) (b c : List (Shown D)) (why : Stop) (written : Result T E)
      (so : IsServing seen left_first (left s0) faults_first (faults s0) first x a now v y b tally)
      (t : HasToldLive seen left faults now new s0 s1 v w tally after y z b c why written) (rises : faults s0 ≤ faults s1) where
    abbrev served : List (List Request)
    served = so.batches ++ t.live.batch ∷ []

    abbrev text : List ℕ
    text = text_between now.history new.history t.live.batch t.told.answers

    limit_now : w.limit ≡ MOST_INPUT_BYTES
    limit_now = t.live.limit_is ∙ so.limit_is

    consumed_now : Consumes left_first (left s1) w.taken
    consumed_now = subst (Consumes left_first (left s1)) (sym t.live.taken)
        (Consumes-trans left_first (left s0) (left s1) v.taken t.live.piece so.consumed t.live.consumed)

    abbrev Stops : Stop → Type 0
    Stops q = IsStop (left s1) (faults s0) (faults s1) v w t.live.batch q

    -- the batches are those of the front
    front_of : (q : Stop) → Stops q → IsFrontServed (left s1) w.taken served q
    front_of stop.Fence i =
        let r = i so.batches so.read in
        record { read = w.read; before = r.before; whole = r.whole; spelled = r.spelled }
    front_of stop.End i = ((i.0, subst (λ (n : ℕ). length w.taken ≤ n) limit_now i.1), i.2 so.batches so.read)
    front_of (stop.BadLine line cause) i = (
      i.0 so.batches so.read,
      (i.1, ⊎_elim (λ h. inl (h.0, subst (λ (n : ℕ). length w.taken ≤ n) limit_now h.1)) (λ h. inr (omega (arith, limit_now, t.held), h)) i.2),
    )
    front_of stop.Failed i = (all_whole w t.batches i.1 served (i.0 so.batches so.read), subst (λ (n : ℕ). length w.taken ≤ n) limit_now i.3)
    front_of stop.TooLong i = (all_whole w t.batches i.1 served (i.0 so.batches so.read), omega (arith, limit_now, i.2, t.held))
    front_of stop.Memory i = (w.read, i.0 so.batches so.read, λ none. (i.1 none).0 so.batches so.read)

    failed_of : (q : Stop) → Stops q → q ≡ stop.Failed → HasRisen faults_first (faults s1)
    failed_of stop.Failed i is = risen_within faults_first (faults s0) (faults s1) (faults s1) so.later (omega arith) i.2
    failed_of stop.Fence i is = cc
    failed_of stop.End i is = cc
    failed_of (stop.BadLine line cause) i is = cc
    failed_of stop.TooLong i is = cc
    failed_of stop.Memory i is = cc

    -- the sink failed at its text
    pub serving_breaks : AppendsPart y z text
        → HasServedInput seen left_first (left s1) faults_first (faults s1) first new x z a c why statuses.Sink
    serving_breaks part =
        let last = breaks_at_last seen first x a now new so.batches y z b c tally t.live.batch t.told.answers so.so_far t.told.ran t.told.shown part in
        record {
          taken = w.taken;
          consumed = consumed_now;
          batches = served;
          ran = last.0;
          no_more = last.1;
          front = front_of why t.live.stops;
          ended = λ other. absurd (other refl);
          all = λ other. absurd (other refl);
          failed = failed_of why t.live.stops;
        }

    -- it was taken
    module _ (ok : Appends y z text) where
      so_far_now : SoFar seen first x a new served z c after
      so_far_now = more seen first x a now new so.batches y z b c tally t.live.batch t.told.answers so.so_far t.told.ran t.told.shown after t.told.memory t.told.device t.told.full ok

      pub serving_more : why ≡ stop.Fence → IsServing seen left_first (left s1) faults_first (faults s1) first x a new w z c after
      serving_more is = record {
        batches = served;
        so_far = so_far_now;
        read = subst Stops is t.live.stops so.batches so.read;
        fenced = t.live.fenced ∙ ap is_fence is;
        limit_is = limit_now;
        consumed = consumed_now;
        later = omega (arith, so.later, rises);
      }

      module _ (status : ExitStatus) (is : status ≡ run_status after.memory after.device after.full) where
        -- these are the batches
        ended_with : (q : Stop) → is_fence q ≡ false → (batches : List (List Request)) → SoFar seen first x a new batches z c after
            → IsFrontServed (left s1) w.taken batches q → (q ≡ stop.End → IsRequestText w.taken batches) → (q ≡ stop.Failed → HasRisen faults_first (faults s1))
            → HasServedInput seen left_first (left s1) faults_first (faults s1) first new x z a c q status
        ended_with q off batches so_far front whole failed =
            let all = ends_with seen first x a new batches z c after status so_far is in
            record {
              taken = w.taken;
              consumed = consumed_now;
              batches = batches;
              ran = all.0;
              no_more = all.1;
              front = front;
              ended = λ other. off;
              all = λ other. whole;
              failed = failed;
            }

        -- the last of them, or an empty one behind it
        ended_at : (q : Stop) → is_fence q ≡ false → Stops q → HasServedInput seen left_first (left s1) faults_first (faults s1) first new x z a c q status
        ended_at stop.Fence off i = absurd (true≢false off)
        ended_at stop.End off i =
            let whole : IsTakenWhole (left s1) w.taken = (i.0, subst (λ (n : ℕ). length w.taken ≤ n) limit_now i.1) in
            ⊎_elim
            (λ one. ended_with stop.End off served so_far_now (whole, inl one) (λ e. one) (failed_of stop.End i))
            (λ two. ended_with stop.End off (served ++ [] ∷ []) (more_empty seen first x a new served z c after so_far_now) (whole, inl two) (λ e. two) (failed_of stop.End i))
            (i.2 so.batches so.read)
        ended_at (stop.BadLine line cause) off i =
            ended_with (stop.BadLine line cause) off served so_far_now (front_of (stop.BadLine line cause) i) (λ e. cc) (failed_of (stop.BadLine line cause) i)
        ended_at stop.Failed off i = ended_with stop.Failed off served so_far_now (front_of stop.Failed i) (λ e. cc) (failed_of stop.Failed i)
        ended_at stop.TooLong off i = ended_with stop.TooLong off served so_far_now (front_of stop.TooLong i) (λ e. cc) (failed_of stop.TooLong i)
        ended_at stop.Memory off i = ended_with stop.Memory off served so_far_now (front_of stop.Memory i) (λ e. cc) (failed_of stop.Memory i)

        pub serving_ends : is_fence why ≡ false → HasServedInput seen left_first (left s1) faults_first (faults s1) first new x z a c why status
        serving_ends off = ended_at why off t.live.stops

-- only a FENCE is one
pub fence_only : (q : Stop) → is_fence q ≡ true → q ≡ stop.Fence
fence_only stop.Fence is = refl
fence_only stop.End is = absurd (true≢false (sym is))
fence_only (stop.BadLine line cause) is = absurd (true≢false (sym is))
fence_only stop.Failed is = absurd (true≢false (sym is))
fence_only stop.TooLong is = absurd (true≢false (sym is))
fence_only stop.Memory is = absurd (true≢false (sym is))
