-- A desk on an empty disk has no history.
use Rattle.std.proofs.Common.{◌≡◌, ◌∙◌, ℕ, Bool, true, List, [], ◌∷◌, ◌++◌, length, refl, ap, subst, arith}
use Rattle.disk_model.specs.Calls.{Seen}
use Rattle.claim_history.specs.PoolRounds.{ended}
use Rattle.lane_runner.specs.round_journal.specs.Records.{bodies_of}
use Rattle.lane_runner.specs.round_journal.specs.declared.record.Record.{Record}
use Rattle.lane_runner.specs.round_journal.proofs.Short.{held_short}
use Rattle.lane_runner.specs.round_journal.specs.Opened.{AreFound}
use Rattle.lane_runner.specs.round_journal.specs.declared.cause.RecordWhy.TheVariants as faults
use Rattle.lane_runner.specs.journal_replay.specs.Replays.{TellsFirst, history_of}
use Rattle.lane_runner.specs.journal_replay.specs.declared.replay_stop.ReplayStop.{ReplayStop}
use Rattle.lane_runner.specs.journal_replay.specs.declared.replay_stop.ReplayStop.TheVariants as stops
use Rattle.lane_runner.specs.bureau_desk.specs.declared.desk_refused.DeskCause.{DeskCause}
use Rattle.lane_runner.specs.bureau_desk.specs.declared.desk_refused.DeskCause.TheVariants as causes
use Rattle.lane_runner.specs.bureau_desk.specs.Desks.{DeskView}
use Rattle.lane_runner.specs.bureau_desk.specs.Opening.{HasDeskCause, IsDeskOpen, IsDeskRefused}
use Rattle.trial_round.specs.Opening.{IsWant}

no_records : (records : List Record) → bodies_of records ≡ [] → history_of records ≡ []
no_records [] none = refl
no_records (r ∷ records) none = absurd (cc none)

pub opened_empty : {D : Type 0} (seen : D → Seen) (old : D) (d : DeskView D) → IsDeskOpen seen old d → (seen old).tells ≡ true → (seen old).reads ≡ [] → d.history ≡ []
opened_empty seen old d is tells reads =
    let held = (is.found.reading tells).0 in
    is.history ∙ ap ended (no_records is.records (held_short (seen old).reads (bodies_of is.records) (omega (arith, ap length reads)) held))

-- ---- and none is refused unless memory runs out

no_first : (before after : List Record) (r : Record) → [] ≡ before ++ r ∷ after → ⊥
no_first [] after r is = cc is
no_first (x ∷ before) after r is = cc is

no_record_stops : (stop : ReplayStop) (records : List Record) → AreFound true [] records → TellsFirst records stop → ⊥
no_record_stops stop [] found tells = no_first tells.before tells.first.after tells.record_is tells.first.parts
no_record_stops stop (r ∷ records) found tells = absurd (cc (held_short [] (bodies_of (r ∷ records)) (omega arith) (found.reading refl).0))

want : (low high : ℕ) (cause : DeskCause) → HasDeskCause true [] low high cause → IsWant cause
want low high causes.Memory has = tt
want low high (causes.Device before after) has = tt
want low high causes.BadHeader has = absurd (omega (arith, (has refl).0))
want low high (causes.BadRecord offset faults.Short) has = absurd (omega (arith, (has refl).1.long))
want low high (causes.BadRecord offset faults.Body) has = absurd (omega (arith, (has refl).1.long))
want low high (causes.BadAct offset got) has = absurd (no_record_stops (stops.BadAct offset got) has.0 has.1 has.2)
want low high (causes.Overfull offset) has = absurd (no_record_stops (stops.Overfull offset) has.0 has.1 has.2)

pub refused_for_want : (old new : Seen) (cause : DeskCause) → old.tells ≡ true → old.reads ≡ [] → IsDeskRefused old new cause → IsWant cause
refused_for_want old new cause tells reads is =
    want old.count new.count cause (subst (λ (bytes : List ℕ). HasDeskCause true bytes old.count new.count cause) reads (subst (λ (b : Bool). HasDeskCause b old.reads old.count new.count cause) tells is.has))
