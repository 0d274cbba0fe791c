-- A run over a desk.
use Rattle.std.specs.Prelude.{Option, IsTrue, drop, take}
use Rattle.std.proofs.Common.{◌≡◌, ◌∙◌, inr, ℕ, ◌<◌, ◌≤◌, ◌^◌, Bool, true, List, [], ◌∷◌, ◌++◌, length, refl, sym, ap, subst, arith, append_assoc, length-append}
use Rattle.std.proofs.lemmas.List.{append-nil}
use Rattle.std.proofs.lemmas.List.Elements.{All-weaker}
use Rattle.std.proofs.Math.Seq.{take-append_seam}
use Rattle.std.specs.Io.KnownBytes.{Appends}
use Rattle.bureau_edge.specs.Streams.{AppendsPart}
use Rattle.bureau_edge.proofs.Known.{Appends-none, Appends-then, AppendsPart-front}
use Rattle.disk_model.specs.Calls.{Seen, GoesOn}
use Rattle.live_runs.specs.disk_witness.specs.Shown.{Shown}
use Rattle.live_runs.specs.claim_history.specs.declared.call.PoolEntry.{PoolEntry}
use Rattle.live_runs.specs.claim_history.specs.declared.entry.Entry.{Entry}
use Rattle.live_runs.specs.claim_history.specs.declared.entry.Reply.{Reply}
use Rattle.live_runs.specs.claim_history.specs.declared.entry.Reply.TheVariants as reply
use Rattle.live_runs.specs.claim_history.specs.History as one
use Rattle.live_runs.specs.claim_history.specs.Laws.{IsGreatestPublication}
use Rattle.live_runs.specs.claim_history.specs.Pools.{AreValid, IsLegal, call_of, entries_in}
use Rattle.live_runs.specs.claim_history.specs.PoolRounds.{cuts_after}
use Rattle.live_runs.specs.claim_history.proofs.Greatest.{greatest_law}
use Rattle.live_runs.specs.claim_history.proofs.Pools.{in_append, legal_in, past_own}
use Rattle.setoff_model.proofs.SameNames.{name_same}
use Rattle.setoff_model.proofs.Lists.{All-first}
use Rattle.live_runs.specs.act_bodies.specs.Bodies.{is_keepable}
use Rattle.request_text.specs.declared.request.Request.{Request}
use Rattle.live_runs.specs.journal_replay.specs.Replays.{history_of}
use Rattle.live_runs.specs.recorded_book.specs.Calls.{CanBeKept}
use Rattle.live_runs.specs.recorded_book.specs.Devices.{AreBetween, IsBetween}
use Rattle.live_runs.specs.recorded_book.specs.Moments.{HasMoments}
use Rattle.live_runs.specs.bureau_desk.specs.Desks.{DeskView, KeepsDesk}
use Rattle.live_runs.specs.bureau_desk.specs.Opening.{IsDeskOpen}
use Rattle.live_runs.specs.bureau_desk.proofs.Left.{left_law}
use Rattle.live_runs.specs.round_journal.specs.Opened.{AreFound}
use Rattle.live_runs.specs.served_lines.specs.Bound.{AreRequests}
use Rattle.bureau_commands.proofs.Bound.{front_asked, none_full_of}
use Rattle.live_runs.specs.live_reading.specs.declared.stop.Stop.{Stop}
use Rattle.live_runs.specs.Serving.{HasServedInput}
use Rattle.live_runs.specs.printed_text.specs.declared.exit_status.ExitStatus.{ExitStatus}
use Rattle.live_runs.specs.printed_text.specs.declared.exit_status.ExitStatus.TheVariants as statuses
use Rattle.live_runs.specs.printed_text.specs.Printing.{added_text, printed_of}
use Rattle.live_runs.specs.printed_text.specs.Writing.{IsWritten, broken, whole}
use Rattle.live_runs.specs.batch_runs.proofs.Order.{held_now, order_from}
use Rattle.live_runs.specs.batch_runs.specs.Order.{AreInOrder, IsHeldFrom, IsShownAt}
use Rattle.live_runs.specs.batch_runs.specs.Runs.{Done, AreOf, AreServed, HasTaken, all_added, but_last, requests_of, text_of}
use Rattle.bureau_commands.specs.Journals.{HoldsSound}
use Rattle.bureau_commands.specs.Headline.{IsHeadline, IsInOrder, LeavesDisk, Output, SurvivesCrashes, output_of, run_text, sure_text}
use Rattle.live_runs.specs.batch_runs.specs.Serving.{HasRunBatches, HasSameOpening}
use Rattle.bureau_commands.specs.Due.{HasBegun, IsBatchesDue, IsLiveDue, IsLiveHeadline, IsNotBegunDue, WroteTaking, all_served, broken_off, stop_status, stop_text}
use Rattle.bureau_commands.specs.Due.{served as served_due}
use Rattle.bureau_reports.specs.journal_texts.proofs.Silent.{begun_parts}
use Rattle.bureau_reports.proofs.Written.{written_after, wrote_line}

-- ---- a round of a pool

-- the publication of a round in a legal history is the greatest of its pool
greatest_in : (before later : List PoolEntry) (m : PoolEntry) (total : ℕ) → IsLegal (before ++ m ∷ later) → m.entry.reply ≡ reply.Published total
    → IsGreatestPublication (entries_in m.pool before) m.entry total
greatest_in before later m total legal published =
    let parts : entries_in m.pool (before ++ m ∷ later) ≡ entries_in m.pool before ++ m.entry ∷ entries_in m.pool later =
    in_append m.pool before (m ∷ later) ∙ ap (λ (es : List Entry). entries_in m.pool before ++ es) (past_own m.pool m later (name_same m.pool)) in
    greatest_law (entries_in m.pool before) (entries_in m.pool later) m.entry total
    (subst one.IsLegalPool parts (legal_in (before ++ m ∷ later) m.pool legal)) published

-- A desk that was opened has the members of the records, and has published nothing since.
pub begun_few : {D : Type 0} (seen : D → Seen) (old : D) (d : DeskView D) → IsDeskOpen seen old d → d.opened_with ≤ length d.history
begun_few seen old d opening =
    let parts = begun_parts (history_of opening.records) d.history opening.history in
    omega (arith, opening.opened_with, ap (λ (l : List PoolEntry). length l) parts.1, length-append (history_of opening.records) parts.0)

pub none_begun : {D : Type 0} (seen : D → Seen) (old : D) (d : DeskView D) → IsDeskOpen seen old d → d.rounds ≡ cuts_after d.opened_with d.history
none_begun seen old d opening =
    opening.rounds ∙ sym (ap (λ (n : ℕ). cuts_after n d.history) opening.opened_with ∙ (begun_parts (history_of opening.records) d.history opening.history).2)

taken_after : (x y z : Option (List ℕ)) (first text : List ℕ) → Appends x y first → HasTaken y z text → HasTaken x z (first ++ text)
taken_after x y z first text before taken = (taken.0, subst (Appends x z) (sym (append_assoc first text taken.0)) (Appends-then x y z first (text ++ taken.0) before taken.1))

taken_later : (x z w : Option (List ℕ)) (text said : List ℕ) (due status : ExitStatus) → HasTaken x z text → IsWritten z w due said status → HasTaken x w text
taken_later x z w text said due status taken (whole all) = (taken.0 ++ said, subst (Appends x w) (append_assoc text taken.0 said) (Appends-then x z w (text ++ taken.0) said taken.1 all))
taken_later x z w text said due status taken (broken part) =
    (taken.0 ++ part.0, subst (Appends x w) (append_assoc text taken.0 part.0) (Appends-then x z w (text ++ taken.0) part.0 taken.1 part.3))

-- the sink took the text, and what is told is what was due
took_all : (x z : Option (List ℕ)) (due : ExitStatus) (text : List ℕ) (status : ExitStatus) → (status ≡ statuses.Sink → ⊥) → IsWritten x z due text status → (due ≡ status) × Appends x z text
took_all x z due text status took (whole all) = (refl, all)
took_all x z due text status took (broken part) = absurd (took refl)

-- where it failed, that is due
sink_due : (x z : Option (List ℕ)) (due : ExitStatus) (text : List ℕ) (status : ExitStatus) → status ≡ statuses.Sink → IsWritten x z due text status → IsWritten x z statuses.Sink text statuses.Sink
sink_due x z due text status sink (whole all) = whole all
sink_due x z due text status sink (broken part) = broken part

module _ {D : Type 0} (seen : D → Seen) (old : D) (first last : DeskView D) (opening : IsDeskOpen seen old first) (keeps : KeepsDesk seen last) (counted : (seen last.disk).count < 2 ^ 64) (base : HasSameOpening first last) where
  abbrev opened : List PoolEntry
  opened = history_of opening.records

  abbrev begun : (rest : List PoolEntry) × (first.history ≡ opened ++ rest) × (cuts_after (length opened) first.history ≡ [])
  begun = begun_parts opened first.history opening.history

  from_one : take first.opened_with first.history ≡ opened
  from_one = ap (λ (n : ℕ). take n first.history) opening.opened_with ∙ ap (take (length opened)) begun.1 ∙ take-append_seam opened begun.0

  same_rest : drop first.opened_with first.history ≡ drop (length opened) first.history
  same_rest = ap (λ (n : ℕ). drop n first.history) opening.opened_with

  -- the lines of the abandonments
  begun_text : printed_of (take first.opened_with first.history) (drop first.opened_with first.history) [] ≡ added_text opened (drop (length opened) first.history)
  begun_text = append-nil (added_text (take first.opened_with first.history) (drop first.opened_with first.history))
      ∙ ap (λ (l : List PoolEntry). added_text l (drop first.opened_with first.history)) from_one ∙ ap (added_text opened) same_rest

  first_tells : (seen first.at_opening_end).tells ≡ (seen old).tells
  first_tells = ap (λ (d : D). (seen d).tells) opening.at_opening_end ∙ opening.same

  last_tells : (seen last.at_opening_end).tells ≡ (seen old).tells
  last_tells = ap (λ (d : D). (seen d).tells) base.at_opening_end ∙ first_tells

  tells_so : IsTrue (seen old).tells → IsTrue (seen last.disk).tells
  tells_so told = keeps.same ∙ last_tells ∙ told

  -- the disk that the opening left
  begun_at : last.at_opening_end ≡ first.disk
  begun_at = base.at_opening_end ∙ opening.at_opening_end

  later_so : (seen old).count ≤ (seen last.at_opening_end).count
  later_so = subst (λ (d : D). (seen old).count ≤ (seen d).count) (sym begun_at) opening.later

  between : AreBetween (seen old).count (seen last.disk).count last.history
  between = All-weaker (IsBetween (seen last.at_opening_end).count (seen last.disk).count) (IsBetween (seen old).count (seen last.disk).count)
      (λ e is before counted told. let b = is before counted told in (omega (arith, later_so, b.0), b.1, b.2)) last.history keeps.between

  survives : IsTrue (seen old).tells → SurvivesCrashes seen old last.disk (length opened) last.history
  survives told = record {
    first = (seen first.at_first_sync).moment;
    begun = first.disk;
    turned = opening.turned told;
    stays = subst (λ (d : D). GoesOn (seen d) (seen last.disk)) begun_at (keeps.stays (tells_so told));
    moments = subst (λ (n : ℕ). HasMoments (seen last.disk) (seen first.at_first_sync).moment n last.history) (base.opened_with ∙ opening.opened_with)
        (subst (λ (d : D). HasMoments (seen last.disk) (seen d).moment last.opened_with last.history) base.at_first_sync (keeps.moments (tells_so told)));
    at_exit = keeps.present (tells_so told);
  }

  leaves : (done : List Done) → (done ≡ [] → last ≡ first) → done ≡ [] → IsTrue (seen old).tells → LeavesDisk (seen old) (seen last.disk)
  leaves done none empty told =
      subst (λ (d : DeskView D). LeavesDisk (seen old) (seen d.disk)) (sym (none empty)) (record { opened = inr ((seen first.at_first_sync).moment, opening.turned told); spared = opening.spared told })

  -- the journal is sound at the end
  sound_at_end : IsTrue (seen old).tells → HoldsSound (seen last.disk)
  sound_at_end told =
      let tells = tells_so told in
      let found = left_law last.history (seen last.disk).reads keeps.legal keeps.within keeps.keepable (keeps.reads_left tells) in
      record { tells = tells; records = found.0; found = subst (λ (b : Bool). AreFound b (seen last.disk).reads found.0) (sym tells) found.1; sound = found.2 }

  headline : (output : Output D) (shown : List (Shown D)) (batches : List (List Request)) (done : List Done) (status : ExitStatus) → AreRequests (requests_of batches) → AreOf batches status done → last.history ≡ first.history ++ all_added done → AreServed first.history done
      → (done ≡ [] → last ≡ first) → HasTaken output.held_old output.held_new (sure_text opened first.history done)
      → output.shown_new ≡ output.shown_old ++ shown → IsInOrder seen last.disk last.history output.held_old opened first.history done shown → IsHeadline seen output old last.disk batches status (run_text opened first.history done)
  headline output shown batches done status asked all parts served none taken were_shown order = record {
    opened = opened;
    begun = first.history;
    done = done;
    history = last.history;
    is_history = record { records = opening.records; found = opening.found; sound = opening.sound; opened_is = refl; begins = opening.history; parts = parts };
    all = all;
    text_is = refl;
    taken = taken;
    shown = shown;
    were_shown = were_shown;
    order = order;
    on_disk = λ told. keeps.reads_left (tells_so told);
    sound = sound_at_end;
    legal = keeps.legal;
    within = keeps.within;
    valid = keeps.valid;
    keepable = keeps.keepable;
    between = between;
    counted = counted;
    served = served;
    none_full = none_full_of opening.records first.history batches status done all (All-first (λ (m : PoolEntry). is_keepable (call_of m) ≡ true) first.history (all_added done) (subst CanBeKept parts keeps.keepable)) opening.history served (subst IsLegal parts keeps.legal) (subst AreValid parts keeps.valid) asked;
    greatest = λ before later m total is published. greatest_in before later m total (subst IsLegal is keeps.legal) published;
    survives = survives;
    early = leaves done none;
  }

  -- ---- the order

  module _ (x : Option (List ℕ)) (u v : List (Shown D)) (shown_first : v ≡ u ++ (record { held = x; disk = first.disk }) ∷ []) where
    abbrev at_first : Shown D
    at_first = record { held = x; disk = first.disk }

    -- what was shown at the lines of the abandonments, and then at the batches
    were_all : (w shown : List (Shown D)) → w ≡ v ++ shown → w ≡ u ++ at_first ∷ shown
    were_all w shown is = is ∙ ap (λ (l : List (Shown D)). l ++ shown) shown_first ∙ append_assoc u (at_first ∷ []) shown

    -- at the lines of the abandonments
    first_shown : (IsTrue (seen last.disk).tells → IsHeldFrom seen first.disk last.disk (length first.history) last.history) → IsShownAt seen last.disk last.history x [] (length first.history) at_first
    first_shown held = (Appends-none x, held)

    -- then at the batches
    all_in_order : KeepsDesk seen first → (y : Option (List ℕ)) (z : Option (List ℕ)) (w : List (Shown D)) (batches : List (List Request)) (status : ExitStatus) → Appends x y (added_text opened (drop (length opened) first.history))
        → (ran : HasRunBatches seen first last batches y z v w status) → IsInOrder seen last.disk last.history x opened first.history ran.done (at_first ∷ ran.shown)
    all_in_order kept y z w batches status line ran = (
      first_shown (λ told. ran.held told (held_now seen first.disk first.history (kept.present (same_first ∙ told)))),
      subst (λ (t : List ℕ). AreInOrder seen last.disk last.history x t first.history ran.done ran.shown) (append-nil (added_text opened (drop (length opened) first.history)))
          (order_from seen last.disk last.history x y (added_text opened (drop (length opened) first.history)) line [] first.history ran.done ran.shown ran.order),
    ) where
      same_first : (seen first.disk).tells ≡ (seen last.disk).tells
      same_first = ap (λ (d : D). (seen d).tells) (sym opening.at_opening_end) ∙ ap (λ (d : D). (seen d).tells) (sym base.at_opening_end) ∙ sym keeps.same

  sure_taken : (x y : Option (List ℕ)) (done : List Done) → HasTaken x y (run_text opened first.history (but_last done)) → HasTaken x y (sure_text opened first.history done)
  sure_taken x y [] taken = (run_text opened first.history (but_last []) ++ taken.0, taken.1)
  sure_taken x y (b ∷ done) taken = taken

  -- the batches were served
  pub wrote_all : (x y z : Option (List ℕ)) (u v w : List (Shown D)) (batches : List (List Request)) (status : ExitStatus) → AreRequests (requests_of batches) → HasBegun seen old first x y u v
      → HasRunBatches seen first last batches y z v w status → WroteTaking (λ output. IsBatchesDue seen output old last.disk batches) x z u w status
  wrote_all x y z u v w batches status asked before ran =
      let text = run_text opened first.history ran.done in
      let output : Output D = output_of x z u w in
      let line : Appends x y (added_text opened (drop (length opened) first.history)) = subst (Appends x y) begun_text before.printed in
      let taken = sure_taken x z ran.done (taken_after x y z (added_text opened (drop (length opened) first.history)) (text_of first.history (but_last ran.done)) line ran.told) in
      wrote_line (IsBatchesDue seen output old last.disk batches) x z ran.due text status (served_due ran.due text (headline output (at_first x u v before.shown ∷ ran.shown) batches ran.done ran.due asked ran.all ran.history ran.served ran.none taken
      (were_all x u v before.shown w ran.shown ran.were_shown) (all_in_order x u v before.shown before.keeps y z w batches status line ran)))
      (written_after x y z (added_text opened (drop (length opened) first.history)) _ ran.due status line ran.written)

  -- the sink failed at the lines of the abandonments
  pub wrote_begun : (x y : Option (List ℕ)) (u v : List (Shown D)) → last ≡ first → AppendsPart x y (printed_of (take first.opened_with first.history) (drop first.opened_with first.history) [])
      → v ≡ u ++ (record { held = x; disk = first.disk }) ∷ [] → WroteTaking (λ output. IsNotBegunDue seen output old last.disk) x y u v statuses.Sink
  wrote_begun x y u v same part shown =
      let none : List Done = [] in
      let output : Output D = output_of x y u v in
      let held : IsTrue (seen last.disk).tells → IsHeldFrom seen first.disk last.disk (length first.history) last.history =
      λ told. subst (λ (d : DeskView D). IsHeldFrom seen d.disk last.disk (length d.history) last.history) same (held_now seen last.disk last.history (keeps.present told)) in
      wrote_line (IsNotBegunDue seen output old last.disk) x y statuses.Sink (run_text opened first.history none) statuses.Sink (
        (λ is. cc),
        (λ batches asked. served_due statuses.Sink (run_text opened first.history none)
            (headline output (at_first x u v shown ∷ []) batches none statuses.Sink asked (record { rest = batches; in_order = refl; ended = inr refl }) (ap (λ (d : DeskView D). d.history) same ∙ sym (append-nil first.history)) tt (λ e. same) (part.0, part.3)
            shown (first_shown x u v shown held, tt))),
      )
      (broken (AppendsPart-front x y (added_text opened (drop (length opened) first.history)) [] (subst (AppendsPart x y) begun_text part)))

  -- ---- an input that was served while it was read

  module _ {S : Type 0} (left : S → Option (List ℕ)) (source source' : S) (low high : ℕ) (x y z w : Option (List ℕ)) (p q r : List (Shown D)) (why : Stop)
      (before : HasBegun seen old first x y p q) where
    line : Appends x y (added_text opened (drop (length opened) first.history))
    line = subst (Appends x y) begun_text before.printed

    -- the batches are those of its front
    live_headline : (due : ExitStatus) (h : HasServedInput seen (left source) (left source') low high first last y z q r why due) → AreOf h.batches due h.ran.done → HasTaken x w (sure_text opened first.history h.ran.done)
        → IsLiveHeadline seen (output_of x w p r) (left source) (left source') old last.disk why due (run_text opened first.history h.ran.done)
    unfolding headline
    live_headline due h all taken = record {
      taken = h.taken;
      consumed = h.consumed;
      batches = h.batches;
      front = h.front;
      ran = headline (output_of x w p r) (at_first x p q before.shown ∷ h.ran.shown) h.batches h.ran.done due (front_asked (left source') h.taken h.batches why h.front) all h.ran.history h.ran.served h.ran.none taken
          (were_all x p q before.shown r h.ran.shown h.ran.were_shown) (all_in_order x p q before.shown before.keeps y z r h.batches due line h.ran);
      no_more = h.no_more;
    }

    surely : (due : ExitStatus) (h : HasServedInput seen (left source) (left source') low high first last y z q r why due) → HasTaken x z (sure_text opened first.history h.ran.done)
    surely due h = sure_taken x z h.ran.done (taken_after x y z (added_text opened (drop (length opened) first.history)) (text_of first.history (but_last h.ran.done)) line h.ran.told)

    -- all were, and the fault by which the reading ended was told, where there was one
    pub wrote_live : (due status : ExitStatus) → (due ≡ statuses.Sink → ⊥) → HasServedInput seen (left source) (left source') low high first last y z q r why due → IsWritten z w (stop_status why due) (stop_text why) status
        → WroteTaking (λ output. IsLiveDue left seen output source source' old last.disk) x w p r status
    unfolding live_headline
    wrote_live due status took h told =
        let text = run_text opened first.history h.ran.done in
        let same = took_all y z h.ran.due (text_of first.history h.ran.done) due took h.ran.written in
        let taken = taken_later x z w (sure_text opened first.history h.ran.done) (stop_text why) (stop_status why due) status (surely due h) told in
        wrote_line (IsLiveDue left seen (output_of x w p r) source source' old last.disk) x w (stop_status why due) (text ++ stop_text why) status
        (all_served why due text took (live_headline due h (subst (λ (n : ExitStatus). AreOf h.batches n h.ran.done) same.0 h.ran.all) taken) (h.ended took) (h.all took))
        (written_after x z w text (stop_text why) (stop_status why due) status
        (Appends-then x y z (added_text opened (drop (length opened) first.history)) (text_of first.history h.ran.done) line same.1) told)

  -- the sink failed at the text of a batch
  pub wrote_broken : {S : Type 0} (left : S → Option (List ℕ)) (source source' : S) (low high : ℕ) (x y z : Option (List ℕ)) (p q r : List (Shown D)) (why : Stop) (due : ExitStatus) → due ≡ statuses.Sink
      → HasBegun seen old first x y p q
      → HasServedInput seen (left source) (left source') low high first last y z q r why due → WroteTaking (λ output. IsLiveDue left seen output source source' old last.disk) x z p r statuses.Sink
  wrote_broken left source source' low high x y z p q r why due sink before served =
      let h = subst (λ (n : ExitStatus). HasServedInput seen (left source) (left source') low high first last y z q r why n) sink served in
      let text = run_text opened first.history h.ran.done in
      wrote_line (IsLiveDue left seen (output_of x z p r) source source' old last.disk) x z statuses.Sink text statuses.Sink
      (broken_off why text (live_headline left source source' low high x y z z p q r why before statuses.Sink h (record { rest = h.ran.all.rest; in_order = h.ran.all.in_order; ended = inr refl }) (surely left source source' low high x y z z p q r why before statuses.Sink h)))
      (written_after x y z (added_text opened (drop (length opened) first.history)) (text_of first.history h.ran.done) statuses.Sink statuses.Sink (line left source source' low high x y z z p q r why before)
      (sink_due y z h.ran.due (text_of first.history h.ran.done) statuses.Sink refl h.ran.written))
