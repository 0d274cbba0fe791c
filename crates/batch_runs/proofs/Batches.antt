-- Batches that are served in turn.
use Rattle.std.specs.Prelude.{Option, Some, None, IsTrue, MatchOption, drop, take}
use Rattle.std.specs.List.{list_any}
use Rattle.std.proofs.Common.{◌-◌, zero, ◌≡◌, ◌∙◌, inl, inr, ℕ, Bool, true, false, ◌||◌, List, [], ◌∷◌, ◌++◌, length, map, refl, sym, ap, ap₂, subst, append_assoc, arith, suc, length-append}
use Rattle.std.proofs.lemmas.List.{append-nil, map-append}
use Rattle.std.proofs.lemmas.List.Folds.{list_any-append}
use Rattle.std.proofs.lemmas.List.Concat.{flat_map-append}
use Rattle.std.proofs.Math.Seq.{take-append_seam, drop-append_seam}
use Rattle.std.specs.Io.KnownBytes.{Appends}
use Rattle.bureau_edge.specs.Streams.{AppendsPart}
use Rattle.bureau_edge.proofs.Known.{Appends-none, Appends-then, AppendsPart-after}
use Rattle.disk_model.specs.Calls.{Seen, GoesOn}
use Rattle.disk_witness.specs.Shown.{Shown}
use Rattle.lane_runner.specs.claim_history.specs.declared.call.PoolEntry.{PoolEntry}
use Rattle.lane_runner.specs.claim_history.specs.Needs.{is_of_device}
use Rattle.lane_runner.specs.request_text.specs.declared.request.Request.{Request}
use Rattle.lane_runner.specs.bureau_desk.specs.declared.base.DeskBase.{DeskBase}
use Rattle.lane_runner.specs.bureau_desk.specs.Desks.{DeskView, base_cleared, base_of}
use Rattle.lane_runner.specs.recorded_book.specs.Moments.{HeldSince}
use Rattle.lane_runner.specs.served_lines.specs.declared.answer.Answer.{Answer}
use Rattle.lane_runner.specs.served_lines.specs.declared.line_end.LineEnd.{LineEnd}
use Rattle.lane_runner.specs.served_lines.specs.Ends.{is_memory_end, is_full_end, has_line_end}
use Rattle.lane_runner.specs.served_lines.specs.Served.{IsServed}
use Rattle.lane_runner.specs.Batches.{HasRunBatch}
use Rattle.printed_text.specs.declared.exit_status.ExitStatus.{ExitStatus}
use Rattle.printed_text.specs.declared.exit_status.ExitStatus.TheVariants as statuses
use Rattle.printed_text.specs.Printing.{printed_of, unanswered}
use Rattle.printed_text.specs.Writing.{IsWritten, broken, whole}
use Rattle.batch_runs.specs.declared.tally.Tally.{Tally}
use Rattle.batch_runs.specs.Runs.{Done, AreServed, all_added, but_last, end_status, run_status, some_device, some_end, text_of}
use Rattle.batch_runs.specs.Serving.{HasRunBatches, HasSameOpening, IsTally, answers_of}
use Rattle.batch_runs.specs.Order.{AreInOrder, IsHeldFrom}
use Rattle.batch_runs.proofs.Order.{from_longer, held_now, order_longer, order_more, order_untold}
use Rattle.batch_runs.proofs.Unasked.{unanswered_served}

-- ---- the opening

pub same_opening : {D : Type 0} (d : DeskView D) → HasSameOpening d d
same_opening d = record { at_first_sync = refl; at_opening_end = refl; opened_with = refl }

opening_then : {D : Type 0} (a b c : DeskView D) → HasSameOpening a b → HasSameOpening b c → HasSameOpening a c
opening_then a b c p q = record { at_first_sync = q.at_first_sync ∙ p.at_first_sync; at_opening_end = q.at_opening_end ∙ p.at_opening_end; opened_with = q.opened_with ∙ p.opened_with }

-- a batch leaves the opening
opening_of : {D : Type 0} (old new : DeskView D) → base_of new ≡ base_cleared old → HasSameOpening old new
opening_of {D} old new is = record {
  at_first_sync = ap (λ (b : DeskBase D). b.at_first_sync) is;
  at_opening_end = ap (λ (b : DeskBase D). b.at_opening_end) is;
  opened_with = ap (λ (b : DeskBase D). b.opened_with) is;
}

-- ---- the witness

-- it was shown the disk of the desk
pub shown_at : {W D : Type 0} (shown : W → List (Shown D)) (old new : W) (held : Option (List ℕ)) (disk at : D) → shown new ≡ shown old ++ (record { held = held; disk = disk }) ∷ [] → disk ≡ at → shown new ≡ shown old ++ (record { held = held; disk = at }) ∷ []
shown_at {D = D} shown old new held disk at is same = is ∙ ap (λ (d : D). shown old ++ (record { held = held; disk = d }) ∷ []) same

-- ---- one batch

served_by : (batch : List Request) (answers : Option (List Answer)) (before added : List PoolEntry) → MatchOption answers (added ≡ []) (λ list. IsServed batch list before added) → IsServed batch (answers_of batch answers) before added
served_by batch None before added none = subst (IsServed batch (unanswered batch) before) (sym none) (unanswered_served batch before)
served_by batch (Some answers) before added served = served

-- ---- one batch more

or_false : (c : Bool) → (c || false) ≡ c
or_false true = refl
or_false false = refl

module _ (bs : List Done) (b : Done) where
  pub added_more : all_added (bs ++ b ∷ []) ≡ all_added bs ++ b.added
  added_more = flat_map-append (λ (x : Done). x.added) bs (b ∷ []) ∙ ap (λ (l : List PoolEntry). all_added bs ++ l) (append-nil b.added)

  end_more : (test : LineEnd → Bool) → some_end test (bs ++ b ∷ []) ≡ (some_end test bs || has_line_end test b.answers)
  end_more test = list_any-append (λ (x : Done). has_line_end test x.answers) bs (b ∷ []) ∙ ap (λ (c : Bool). some_end test bs || c) (or_false (has_line_end test b.answers))

  device_more : some_device (bs ++ b ∷ []) ≡ (some_device bs || list_any (λ m. is_of_device m.entry.reply) b.added)
  device_more = ap (list_any (λ (m : PoolEntry). is_of_device m.entry.reply)) added_more ∙ list_any-append (λ (m : PoolEntry). is_of_device m.entry.reply) (all_added bs) b.added

  not_none : bs ++ b ∷ [] ≡ [] → ⊥
  not_none is = no_end bs is where
    no_end : (l : List Done) → l ++ b ∷ [] ≡ [] → ⊥
    no_end [] e = let n : 1 ≡ 0 = ap (λ (x : List Done). length x) e in omega (arith, n)
    no_end (x ∷ l) e = let n : suc (length (l ++ b ∷ [])) ≡ 0 = ap (λ (y : List Done). length y) e in omega (arith, n)

served_more : (before : List PoolEntry) (bs : List Done) (b : Done) → AreServed before bs → IsServed b.requests b.answers (before ++ all_added bs) b.added → AreServed before (bs ++ b ∷ [])
served_more before [] b all served = (subst (λ (h : List PoolEntry). IsServed b.requests b.answers h b.added) (append-nil before) served, tt)
served_more before (x ∷ bs) b all served =
    (all.0, served_more (before ++ x.added) bs b all.1 (subst (λ (h : List PoolEntry). IsServed b.requests b.answers h b.added) (sym (append_assoc before x.added (all_added bs))) served))

text_more : (before : List PoolEntry) (bs : List Done) (b : Done) → text_of before (bs ++ b ∷ []) ≡ text_of before bs ++ printed_of (before ++ all_added bs) b.added b.answers
text_more before [] b = append-nil (printed_of before b.added b.answers) ∙ ap (λ (h : List PoolEntry). printed_of h b.added b.answers) (sym (append-nil before))
text_more before (x ∷ bs) b =
    let here = printed_of before x.added x.answers in
    ap (λ (t : List ℕ). here ++ t) (text_more (before ++ x.added) bs b)
    ∙ sym (append_assoc here (text_of (before ++ x.added) bs) (printed_of ((before ++ x.added) ++ all_added bs) b.added b.answers))
    ∙ ap (λ (h : List PoolEntry). (here ++ text_of (before ++ x.added) bs) ++ printed_of h b.added b.answers) (append_assoc before x.added (all_added bs))

-- the text of the first of some batches, and then the rest
text_first : (before : List PoolEntry) (n : ℕ) (bs : List Done) → (more : List ℕ) × (text_of before bs ≡ text_of before (take n bs) ++ more)
text_first before zero bs = (text_of before bs, refl)
text_first before (suc n) [] = ([], refl)
text_first before (suc n) (b ∷ bs) =
    let rest = text_first (before ++ b.added) n bs in
    let here = printed_of before b.added b.answers in
    (rest.0, ap (λ (t : List ℕ). here ++ t) rest.1 ∙ sym (append_assoc here (text_of (before ++ b.added) (take n bs)) rest.0))

last_off : (bs : List Done) (b : Done) → but_last (bs ++ b ∷ []) ≡ bs
last_off bs b =
    let n : length (bs ++ b ∷ []) - 1 ≡ length bs = omega (arith, length-append bs (b ∷ [])) in
    ap (λ (k : ℕ). take k (bs ++ b ∷ [])) n ∙ take-append_seam bs (b ∷ [])

-- ---- the first batches

-- The first batches were served in turn on a desk, and the text of each was taken. Before each text the sink and the disk were shown.
pub record SoFar {D : Type 0} (seen : D → Seen) (first : DeskView D) (x : Option (List ℕ)) (v : List (Shown D)) (now : DeskView D) (batches : List (List Request)) (y : Option (List ℕ)) (w : List (Shown D)) (tally : Tally) : Type 0 where
  pub done : List Done
  pub all : batches ≡ map (λ b. b.requests) done
  pub history : now.history ≡ first.history ++ all_added done
  pub served : AreServed first.history done
  pub opening : HasSameOpening first now
  pub none : done ≡ [] → now ≡ first
  pub taken : Appends x y (text_of first.history done)
  pub told : IsTally tally done
  pub shown : List (Shown D)
  pub were_shown : w ≡ v ++ shown
  pub order : AreInOrder seen now.disk now.history x [] first.history done shown
  pub held : IsTrue (seen now.disk).tells → IsHeldFrom seen first.disk first.disk (length first.history) first.history → IsHeldFrom seen first.disk now.disk (length first.history) now.history

module _ {D : Type 0} (seen : D → Seen) (first : DeskView D) (x : Option (List ℕ)) (v : List (Shown D)) where
  pub begins : (tally : Tally) → IsTally tally [] → SoFar seen first x v first [] x v tally
  begins tally told = record {
    done = [];
    all = refl;
    history = sym (append-nil first.history);
    served = tt;
    opening = same_opening first;
    none = λ e. refl;
    taken = Appends-none x;
    told = told;
    shown = [];
    were_shown = sym (append-nil v);
    order = tt;
    held = λ tells is. is;
  }

  module _ (now new : DeskView D) (batches : List (List Request)) (y z : Option (List ℕ)) (w w' : List (Shown D)) (tally : Tally) (batch : List Request) (answers : Option (List Answer)) (so : SoFar seen first x v now batches y w tally)
      (ran : HasRunBatch seen now new batch answers) (told_them : w' ≡ w ++ (record { held = y; disk = new.disk }) ∷ []) where
    abbrev one : Done
    one = record { requests = batch; answers = answers_of batch answers; added = ran.added }

    abbrev done : List Done
    done = so.done ++ one ∷ []

    behind : drop (length now.history) new.history ≡ ran.added
    behind = ap (drop (length now.history)) ran.history ∙ drop-append_seam now.history ran.added

    front : take (length now.history) new.history ≡ first.history ++ all_added so.done
    front = ap (take (length now.history)) ran.history ∙ take-append_seam now.history ran.added ∙ so.history

    abbrev text : List ℕ
    text = printed_of (take (length now.history) new.history) (drop (length now.history) new.history) (answers_of batch answers)

    text_is : text_of first.history so.done ++ text ≡ text_of first.history done
    text_is = ap (λ (t : List ℕ). text_of first.history so.done ++ t)
        (ap₂ (λ (l m : List PoolEntry). printed_of l m (answers_of batch answers)) front behind)
        ∙ sym (text_more first.history so.done one)

    all : batches ++ batch ∷ [] ≡ map (λ (b : Done). b.requests) done
    all = ap (λ (l : List (List Request)). l ++ batch ∷ []) so.all ∙ sym (map-append (λ (b : Done). b.requests) so.done (one ∷ []))

    history : new.history ≡ first.history ++ all_added done
    history = ran.history ∙ ap (λ (h : List PoolEntry). h ++ ran.added) so.history ∙ append_assoc first.history (all_added so.done) ran.added ∙ ap (λ (l : List PoolEntry). first.history ++ l) (sym (added_more so.done one))

    served : AreServed first.history done
    served = served_more first.history so.done one so.served (subst (λ (h : List PoolEntry). IsServed batch (answers_of batch answers) h ran.added) so.history (served_by batch answers now.history ran.added ran.served))

    opening : HasSameOpening first new
    opening = opening_then first now new so.opening (opening_of now new ran.base)

    -- ---- the order

    abbrev both : Shown D
    both = record { held = y; disk = new.disk }

    were_shown : w' ≡ v ++ (so.shown ++ both ∷ [])
    were_shown = told_them ∙ ap (λ (l : List (Shown D)). l ++ both ∷ []) so.were_shown ∙ append_assoc v so.shown (both ∷ [])

    tells : IsTrue (seen new.disk).tells → IsTrue (seen now.disk).tells
    tells told = sym ran.same ∙ told

    goes : IsTrue (seen now.disk).tells → GoesOn (seen now.disk) (seen new.disk)
    goes told = ran.stays told

    held_on : IsTrue (seen now.disk).tells → HeldSince (seen now.disk).moment (length now.history) (seen new.disk) (now.history ++ ran.added)
    held_on told = subst (HeldSince (seen now.disk).moment (length now.history) (seen new.disk)) ran.history (ran.held told)

    end_is : length ((first.history ++ all_added so.done) ++ ran.added) ≡ length new.history
    end_is = ap (λ (l : List PoolEntry). length (l ++ ran.added)) (sym so.history) ∙ ap (λ (l : List PoolEntry). length l) (sym ran.history)

    order : AreInOrder seen new.disk new.history x [] first.history done (so.shown ++ both ∷ [])
    order = order_more seen new.disk new.history x one both [] first.history so.done so.shown
        (subst (λ (h : List PoolEntry). AreInOrder seen new.disk h x [] first.history so.done so.shown) (sym ran.history)
        (order_longer seen now.disk new.disk now.history ran.added tells goes held_on x [] first.history so.done so.shown (omega (arith, ap (λ (l : List PoolEntry). length l) so.history)) so.order))
        (so.taken, λ told. subst (λ (n : ℕ). IsHeldFrom seen new.disk new.disk n new.history) (sym end_is) (held_now seen new.disk new.history (ran.keeps.present told)))

    held : IsTrue (seen new.disk).tells → IsHeldFrom seen first.disk first.disk (length first.history) first.history → IsHeldFrom seen first.disk new.disk (length first.history) new.history
    held told was = subst (IsHeldFrom seen first.disk new.disk (length first.history)) (sym ran.history)
        (from_longer seen now.disk new.disk now.history ran.added (goes (tells told)) (held_on (tells told)) first.disk (length first.history)
        (omega (arith, ap (λ (l : List PoolEntry). length l) so.history, length-append first.history (all_added so.done))) (so.held (tells told) was))

    -- it was written
    pub more : (tally' : Tally) → tally'.memory ≡ (tally.memory || has_line_end is_memory_end (answers_of batch answers)) → tally'.device ≡ (tally.device || list_any (λ m. is_of_device m.entry.reply) (drop (length now.history) new.history))
        → tally'.full ≡ (tally.full || has_line_end is_full_end (answers_of batch answers)) → Appends y z text → SoFar seen first x v new (batches ++ batch ∷ []) z w' tally'
    more tally' memory device full taken = record {
      done = done;
      all = all;
      history = history;
      served = served;
      opening = opening;
      none = λ e. absurd (not_none so.done one e);
      taken = subst (Appends x z) text_is (Appends-then x y z (text_of first.history so.done) text so.taken taken);
      told = record {
        memory = memory ∙ ap (λ (c : Bool). c || has_line_end is_memory_end (answers_of batch answers)) so.told.memory ∙ sym (end_more so.done one is_memory_end);
        device = device ∙ ap₂ (λ (c : Bool) (l : List PoolEntry). c || list_any (λ m. is_of_device m.entry.reply) l) so.told.device behind ∙ sym (device_more so.done one);
        full = full ∙ ap (λ (c : Bool). c || has_line_end is_full_end (answers_of batch answers)) so.told.full ∙ sym (end_more so.done one is_full_end);
      };
      shown = so.shown ++ both ∷ [];
      were_shown = were_shown;
      order = order;
      held = held;
    }

    -- or the sink failed at it
    pub breaks : (whole_run rest : List (List Request)) → whole_run ≡ (batches ++ batch ∷ []) ++ rest → AppendsPart y z text → HasRunBatches seen first new whole_run x z v w' statuses.Sink
    breaks whole_run rest parts part = record {
      done = done;
      due = statuses.Sink;
      all = record { rest = rest; in_order = parts ∙ ap (λ (l : List (List Request)). l ++ rest) all; ended = inr refl };
      history = history;
      served = served;
      opening = opening;
      none = λ e. absurd (not_none so.done one e);
      written = broken (subst (AppendsPart x z) text_is (AppendsPart-after x y z (text_of first.history so.done) text so.taken part));
      told = (part.0, subst (λ (bs : List Done). Appends x z (text_of first.history bs ++ part.0)) (sym (last_off so.done one)) (Appends-then x y z (text_of first.history so.done) part.0 so.taken part.3));
      shown = so.shown ++ both ∷ [];
      were_shown = were_shown;
      order = order;
      held = held;
    }

    -- there were no others
    pub breaks_at_last : AppendsPart y z text → (ran : HasRunBatches seen first new (batches ++ batch ∷ []) x z v w' statuses.Sink) × (batches ++ batch ∷ [] ≡ map (λ (b : Done). b.requests) ran.done)
    unfolding breaks
    breaks_at_last part = (breaks (batches ++ batch ∷ []) [] (sym (append-nil (batches ++ batch ∷ []))) part, all)

  -- an empty batch behind them, of which nothing is asked
  pub more_empty : (last : DeskView D) (batches : List (List Request)) (y : Option (List ℕ)) (w : List (Shown D)) (tally : Tally) → SoFar seen first x v last batches y w tally → SoFar seen first x v last (batches ++ [] ∷ []) y w tally
  more_empty last batches y w tally so =
      let empty : Done = record { requests = []; answers = []; added = [] } in
      let text : text_of first.history so.done ≡ text_of first.history (so.done ++ empty ∷ []) =
      sym (text_more first.history so.done empty ∙ append-nil (text_of first.history so.done)) in
      let added : all_added so.done ≡ all_added (so.done ++ empty ∷ []) = sym (added_more so.done empty ∙ append-nil (all_added so.done)) in
      record {
        done = so.done ++ empty ∷ [];
        all = ap (λ (l : List (List Request)). l ++ [] ∷ []) so.all ∙ sym (map-append (λ (b : Done). b.requests) so.done (empty ∷ []));
        history = so.history ∙ ap (λ (l : List PoolEntry). first.history ++ l) added;
        served = served_more first.history so.done empty so.served (unanswered_served [] (first.history ++ all_added so.done));
        opening = so.opening;
        none = λ e. absurd (not_none so.done empty e);
        taken = subst (Appends x y) text so.taken;
        told = record {
          memory = so.told.memory ∙ sym (end_more so.done empty is_memory_end ∙ or_false (some_end is_memory_end so.done));
          device = so.told.device ∙ sym (device_more so.done empty ∙ or_false (some_device so.done));
          full = so.told.full ∙ sym (end_more so.done empty is_full_end ∙ or_false (some_end is_full_end so.done));
        };
        shown = so.shown;
        were_shown = so.were_shown;
        order = order_untold seen last.disk last.history x empty [] first.history so.done so.shown so.order refl;
        held = so.held;
      }

  -- all were served and written
  pub ends : (last : DeskView D) (batches : List (List Request)) (y : Option (List ℕ)) (w : List (Shown D)) (tally : Tally) (status : ExitStatus) → SoFar seen first x v last batches y w tally → status ≡ run_status tally.memory tally.device tally.full
      → HasRunBatches seen first last batches x y v w status
  ends last batches y w tally status so is =
      let due : status ≡ end_status so.done =
      is ∙ ap (λ (b : Bool). run_status b tally.device tally.full) so.told.memory ∙ ap (λ (b : Bool). run_status (some_end is_memory_end so.done) b tally.full) so.told.device
      ∙ ap (λ (b : Bool). run_status (some_end is_memory_end so.done) (some_device so.done) b) so.told.full in
      let rest = text_first first.history (length so.done - 1) so.done in
      record {
        done = so.done;
        due = end_status so.done;
        all = record { rest = []; in_order = so.all ∙ sym (append-nil (map (λ (b : Done). b.requests) so.done)); ended = inl (refl, refl) };
        history = so.history;
        served = so.served;
        opening = so.opening;
        none = so.none;
        written = subst (λ (n : ExitStatus). IsWritten x y (end_status so.done) (text_of first.history so.done) n) (sym due) (whole so.taken);
        told = (rest.0, subst (Appends x y) rest.1 so.taken);
        shown = so.shown;
        were_shown = so.were_shown;
        order = so.order;
        held = so.held;
      }

  -- with what came of each
  pub ends_with : (last : DeskView D) (batches : List (List Request)) (y : Option (List ℕ)) (w : List (Shown D)) (tally : Tally) (status : ExitStatus) → SoFar seen first x v last batches y w tally → status ≡ run_status tally.memory tally.device tally.full
      → (ran : HasRunBatches seen first last batches x y v w status) × (batches ≡ map (λ (b : Done). b.requests) ran.done)
  unfolding ends
  ends_with last batches y w tally status so is = (ends last batches y w tally status so is, so.all)
