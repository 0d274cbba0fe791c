-- Lines that are read, and not asked.
use Rattle.std.specs.Prelude.{Option}
use Rattle.std.proofs.Common.{◌≡◌, ◌∙◌, ◌+◌, ℕ, false, List, [], ◌∷◌, ◌++◌, length, refl, sym, ap, arith, inr, length-append}
use Rattle.served_lines.specs.request_text.specs.declared.error.LineCause.{LineCause}
use Rattle.served_lines.specs.request_text.specs.declared.request.Request.{Request}
use Rattle.std.proofs.lemmas.List.{append-nil}
use Rattle.input_front.specs.declared.line.Line.TheVariants as line
use Rattle.input_front.specs.Taken.{HasAsked, HasNext, IntakeView}
use Rattle.live_reading.specs.declared.stop.Stop.TheVariants as stop
use Rattle.live_reading.specs.Reading.{AreNumbered, HasPassed, HasReadThese, HasTakenPiece}
use Rattle.live_reading.proofs.InReading.{ends_bad, ends_fence, ends_memory, none_read, reads_more}
use Rattle.std.proofs.KnownBytes.{Consumes-nil}

-- numbered, and one more behind them
numbered_more : (first : ℕ) (batch : List Request) (r : Request) → AreNumbered first batch → r.line ≡ first + length batch → AreNumbered first (batch ++ r ∷ [])
numbered_more first [] r h is = (omega (arith, is), tt)
numbered_more first (x ∷ xs) r h is = (h.0, numbered_more (first + 1) xs r h.1 (omega (arith, is)))

-- these were read
pub record IsPassing (old v : IntakeView) : Type 0 where
  pub batch : List Request
  pub numbered : AreNumbered (old.lines + 1) batch
  pub lines_are : v.lines ≡ old.lines + length batch
  pub reads : HasReadThese old v batch
  pub begun : v.fenced ≡ false
  pub taken_is : v.taken ≡ old.taken
  pub limit_is : v.limit ≡ old.limit
  pub served_is : v.served ≡ old.served

pub passes_none : (v : IntakeView) → v.fenced ≡ false → IsPassing v v
passes_none v begun = record { batch = []; numbered = tt; lines_are = omega arith; reads = none_read v; begun = begun; taken_is = refl; limit_is = refl; served_is = refl }

module _ (first old : IntakeView) (h : IsPassing first old) where
  pub passes_more : (new : IntakeView) (request : Request) → HasAsked old new request → IsPassing first new
  passes_more new request k = record {
    batch = h.batch ++ request ∷ [];
    numbered = numbered_more (first.lines + 1) h.batch request h.numbered (omega (arith, k.asked.number_is, h.lines_are));
    lines_are = omega (arith, ap (λ (x : IntakeView). x.lines) k.same, h.lines_are, length-append h.batch (request ∷ []));
    reads = reads_more first old h.batch h.reads new (request ∷ []) k.reads;
    begun = ap (λ (x : IntakeView). x.fenced) k.same ∙ h.begun;
    taken_is = ap (λ (x : IntakeView). x.taken) k.same ∙ h.taken_is;
    limit_is = ap (λ (x : IntakeView). x.limit) k.same ∙ h.limit_is;
    served_is = ap (λ (x : IntakeView). x.served) k.same ∙ h.served_is;
  }

  nothing : (new : IntakeView) → new.taken ≡ first.taken → new.limit ≡ first.limit → new.served ≡ first.served → (left : Option (List ℕ)) (faults : ℕ) → HasTakenPiece left left faults faults first new
  nothing new taken limit served left faults = record { piece = []; taken = taken ∙ sym (append-nil first.taken); consumed = Consumes-nil left; limit_is = limit; served_is = served; later = omega arith }

  still : (new : IntakeView) → new ≡ old → (left : Option (List ℕ)) (faults : ℕ) → HasTakenPiece left left faults faults first new
  still new same = nothing new (ap (λ (x : IntakeView). x.taken) same ∙ h.taken_is) (ap (λ (x : IntakeView). x.limit) same ∙ h.limit_is) (ap (λ (x : IntakeView). x.served) same ∙ h.served_is)

  -- no line more
  unread : (new : IntakeView) → new ≡ old → new.lines ≡ first.lines + length h.batch + 0
  unread new same = omega (arith, ap (λ (x : IntakeView). x.lines) same, h.lines_are)

  -- the FENCE
  one_read : (new : IntakeView) → HasNext old new line.Fence → new.lines ≡ first.lines + length h.batch + 1
  one_read new k = omega (arith, ap (λ (x : IntakeView). x.lines) k.same, h.lines_are)

  pub passed_fence : (new : IntakeView) → HasNext old new line.Fence → HasPassed first new stop.Fence
  passed_fence new k = record {
    batch = h.batch;
    numbered = h.numbered;
    lines_are = one_read new k;
    taken = nothing new (ap (λ (x : IntakeView). x.taken) k.same ∙ h.taken_is) (ap (λ (x : IntakeView). x.limit) k.same ∙ h.limit_is) (ap (λ (x : IntakeView). x.served) k.same ∙ h.served_is);
    ends = λ left faults. ends_fence first old new h.batch h.reads h.begun left faults faults k;
  }

  pub passed_bad : (new : IntakeView) (number : ℕ) (cause : LineCause) → HasNext old new (line.Bad number cause) → HasPassed first new (stop.BadLine number cause)
  passed_bad new number cause k = record {
    batch = h.batch;
    numbered = h.numbered;
    lines_are = unread new k.0;
    taken = still new k.0;
    ends = λ left faults. ends_bad first old new h.batch h.reads h.begun left faults faults number cause k.0 k.1 (inr k.2);
  }

  pub passed_memory : (new : IntakeView) → new ≡ old → HasPassed first new stop.Memory
  passed_memory new same = record {
    batch = h.batch;
    numbered = h.numbered;
    lines_are = unread new same;
    taken = still new same;
    ends = λ left faults. ends_memory first old new h.batch h.reads h.begun left faults faults same;
  }
