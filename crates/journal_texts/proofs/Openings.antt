-- What is told of a disk on which no desk was opened.
use Rattle.std.specs.Prelude.{IsTrue}
use Rattle.std.proofs.Common.{◌≡◌, inl, inr, ℕ, Bool, true, false, List, [], ◌∷◌, refl, subst, true≢false}
use Rattle.printed_text.specs.claim_history.specs.declared.entry.Reply.{Reply}
use Rattle.printed_text.specs.claim_history.specs.declared.entry.Reply.TheVariants as reply
use Rattle.printed_text.specs.claim_history.specs.History.{is_no_refusal}
use Rattle.printed_text.specs.claim_history.specs.Laws.{IsReplyInRange}
use Rattle.printed_text.specs.declared.exit_status.ExitStatus.TheVariants as statuses
use Rattle.printed_text.specs.Statuses.{IsOneOf}
use Rattle.bureau_desk.specs.declared.desk_refused.DeskCause.{DeskCause}
use Rattle.bureau_desk.specs.declared.desk_refused.DeskCause.TheVariants.{Memory, Device, BadHeader, BadRecord, BadAct, Overfull}
use Rattle.bureau_desk.specs.disk_model.specs.Calls.{Seen}
use Rattle.bureau_desk.specs.round_journal.specs.Opened.{AreFound}
use Rattle.bureau_desk.specs.Laws.{IsFault}
use Rattle.bureau_desk.specs.Opening.{HasDeskCause}
use Rattle.bureau_desk.proofs.Faults.{fault_law}
use Rattle.journal_texts.specs.DiskTexts.{IsTellable, opening_status}
use Rattle.journal_texts.specs.Journals.{HoldsSound, HoldsUnsound}

-- a refusal has no amount
refusal_fits : (got : Reply) → is_no_refusal got ≡ false → IsReplyInRange got
refusal_fits (reply.Refused w) is = tt
refusal_fits reply.Done is = absurd (true≢false is)
refusal_fits (reply.Position position) is = absurd (true≢false is)
refusal_fits (reply.Opened round) is = absurd (true≢false is)
refusal_fits (reply.Continued round) is = absurd (true≢false is)
refusal_fits (reply.Published total) is = absurd (true≢false is)
refusal_fits (reply.Abandoned round) is = absurd (true≢false is)

-- the reply of the first refused act is a refusal
pub tellable : (tells : Bool) (bytes : List ℕ) (low high : ℕ) (cause : DeskCause) → HasDeskCause tells bytes low high cause → IsTellable cause
tellable tells bytes low high Memory h = tt
tellable tells bytes low high (Device before after) h = tt
tellable tells bytes low high BadHeader h = tt
tellable tells bytes low high (BadRecord offset why) h = tt
tellable tells bytes low high (BadAct offset got) h = refusal_fits got h.2.tells.2
tellable tells bytes low high (Overfull offset) h = tt

pub opening_among : (cause : DeskCause) → IsOneOf (statuses.Disk ∷ statuses.Unsound ∷ statuses.Memory ∷ []) (opening_status cause)
opening_among Memory = inr (inr (inl refl))
opening_among (Device before after) = inl refl
opening_among BadHeader = inr (inl refl)
opening_among (BadRecord offset why) = inr (inl refl)
opening_among (BadAct offset got) = inr (inl refl)
opening_among (Overfull offset) = inr (inl refl)

-- the same, what the bytes come to first
pub opening_one : (cause : DeskCause) → IsOneOf (statuses.Unsound ∷ statuses.Disk ∷ statuses.Memory ∷ []) (opening_status cause)
opening_one Memory = inr (inr (inl refl))
opening_one (Device before after) = inr (inl refl)
opening_one BadHeader = inl refl
opening_one (BadRecord offset why) = inl refl
opening_one (BadAct offset got) = inl refl
opening_one (Overfull offset) = inl refl

-- sound records have no fault
pub no_fault : (disk : Seen) → HoldsSound disk → (cause : DeskCause) → IsFault disk.reads cause → ⊥
no_fault disk has cause fault = (fault_law disk.reads cause fault).1 has.records (subst (λ (b : Bool). AreFound b disk.reads has.records) has.tells has.found) has.sound

-- bytes that have a fault are more than nine and stand for no sound records
pub unsound_fault : (disk : Seen) (cause : DeskCause) → IsTrue disk.tells → IsFault disk.reads cause → HoldsUnsound disk
unsound_fault disk cause told fault =
    let law = fault_law disk.reads cause fault in
    record { tells = told; long = law.0; none = λ records found sound. law.1 records (subst (λ (b : Bool). AreFound b disk.reads records) told found) sound }
