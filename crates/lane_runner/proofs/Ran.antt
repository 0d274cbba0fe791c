-- A desk before and after a batch.
use Rattle.std.specs.Prelude.{IsTrue, Some, None}
use Rattle.std.proofs.Common.{◌≡◌, ◌∙◌, ℕ, List, [], ◌++◌, length, refl, sym, ap, subst}
use Rattle.std.proofs.lemmas.List.{append-nil}
use Rattle.shared_bureau.specs.disk_model.specs.Calls.{Seen, GoesOn}
use Rattle.shared_bureau.specs.claim_history.specs.declared.call.PoolEntry.{PoolEntry}
use Rattle.shared_bureau.specs.claim_history.specs.PoolRounds.{cuts_after}
use Rattle.shared_bureau.specs.recorded_book.specs.Moments.{HeldSince}
use Rattle.served_lines.specs.request_text.specs.declared.request.Request.{Request}
use Rattle.turn_lock.specs.declared.view.View.{View}
use Rattle.turn_lock.specs.Turns.{IsRegistrarOf}
use Rattle.shared_bureau.specs.bureau_desk.specs.declared.base.DeskBase.{DeskBase}
use Rattle.shared_bureau.specs.bureau_desk.specs.Desks.{DeskView, KeepsDesk, base_cleared, base_of}
use Rattle.served_lines.specs.declared.answer.Answer.{Answer}
use Rattle.served_lines.specs.Served.{IsServed}
use Rattle.lane_runner.specs.Batches.{HasRunBatch}
use Rattle.lane_runner.specs.Seating.{HasServedAll}

-- the desk whose rounds were cleared
pub record IsCleared {D : Type 0} (old start : DeskView D) : Type 0 where
  pub disk : start.disk ≡ old.disk
  pub history : start.history ≡ old.history
  pub at_clearing : start.at_clearing ≡ old.disk
  pub cleared_with : start.cleared_with ≡ length old.history
  pub opening : (start.at_first_sync ≡ old.at_first_sync) × (start.at_opening_end ≡ old.at_opening_end) × (start.opened_with ≡ old.opened_with)

module _ {D : Type 0} (seen : D → Seen) (old start : DeskView D) (cleared : IsCleared old start) (kept : KeepsDesk seen start) where
  start_base : base_of start ≡ base_cleared old
  start_base = λ i. record { at_first_sync = cleared.opening.0 i; at_opening_end = cleared.opening.1 i; opened_with = cleared.opening.2 i; at_clearing = cleared.at_clearing i; cleared_with = cleared.cleared_with i }

  module _ (new : DeskView D) (same_base : base_of new ≡ base_of start) (keeps : KeepsDesk seen new) where
    base : base_of new ≡ base_cleared old
    base = same_base ∙ start_base

    cleared_with : new.cleared_with ≡ length old.history
    cleared_with = ap (λ (b : DeskBase D). b.cleared_with) base

    opening_tells : (seen new.at_opening_end).tells ≡ (seen old.at_opening_end).tells
    opening_tells = ap (λ (b : DeskBase D). (seen b.at_opening_end).tells) base

    old_tells : (seen old.disk).tells ≡ (seen old.at_opening_end).tells
    old_tells = ap (λ (d : D). (seen d).tells) (sym cleared.disk) ∙ kept.same ∙ ap (λ (d : D). (seen d).tells) cleared.opening.1

    same : (seen new.disk).tells ≡ (seen old.disk).tells
    same = keeps.same ∙ opening_tells ∙ sym old_tells

    held : IsTrue (seen old.disk).tells → HeldSince (seen old.disk).moment (length old.history) (seen new.disk) new.history
    held tells =
        subst (λ (n : ℕ). HeldSince (seen old.disk).moment n (seen new.disk) new.history) cleared_with
        (subst (λ (n : ℕ). HeldSince n new.cleared_with (seen new.disk) new.history) (ap (λ (b : DeskBase D). (seen b.at_clearing).moment) base)
        (keeps.since (same ∙ tells)))

    stays : IsTrue (seen old.disk).tells → GoesOn (seen old.disk) (seen new.disk)
    stays tells = subst (λ (d : D). GoesOn (seen d) (seen new.disk)) (ap (λ (b : DeskBase D). b.at_clearing) base) (keeps.stays_cleared (same ∙ tells))

    module _ (batch : List Request) (added : List PoolEntry) (history : new.history ≡ old.history ++ added) where
      rounds : new.rounds ≡ cuts_after (length old.history) new.history
      rounds = keeps.rounds_are ∙ ap (λ (n : ℕ). cuts_after n new.history) cleared_with

      pub answered : (answers : List Answer) → IsServed batch answers old.history added → HasRunBatch seen old new batch (Some answers)
      answered answers served = record { added = added; history = history; served = served; rounds = rounds; base = base; keeps = keeps; same = same; stays = stays; held = held }

      unanswered : added ≡ [] → HasRunBatch seen old new batch None
      unanswered none = record { added = added; history = history; served = none; rounds = rounds; base = base; keeps = keeps; same = same; stays = stays; held = held }

  -- there was no memory
  pub not_run : (new : DeskView D) → new ≡ start → (batch : List Request) → HasRunBatch seen old new batch None
  not_run new is batch =
      unanswered new (ap base_of is) (subst (KeepsDesk seen) (sym is) kept) batch []
      (ap (λ (d : DeskView D). d.history) is ∙ cleared.history ∙ sym (append-nil old.history)) refl

  -- the lanes have served
  pub run : (known : View PoolEntry (DeskBase D)) → IsRegistrarOf start.history (base_of start) known → (new : DeskView D) (batch : List Request) (answers : List Answer)
      → HasServedAll seen known new batch answers → HasRunBatch seen old new batch (Some answers)
  run known of_desk new batch answers all =
      let log : known.history.seen ≡ old.history = of_desk.seen ∙ cleared.history in
      answered new (cc (all.base ∙ of_desk.base_is)) all.keeps batch all.added (all.history ∙ ap (λ (l : List PoolEntry). l ++ all.added) log) answers
      (subst (λ (l : List PoolEntry). IsServed batch answers l all.added) log all.served)
