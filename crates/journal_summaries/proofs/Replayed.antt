-- The cut of the round that an entry publishes.
use Rattle.std.specs.Prelude.{Option, None, if◌then◌else◌}
use Rattle.std.proofs.Common.{◌≡◌, ℕ, Bool, true, false, List, refl, sym, ◌∙◌, ap, true≢false}
use Rattle.setoff_model.specs.CutView.{CutView}
use Rattle.printed_text.specs.claim_history.specs.declared.act.Act.{Act}
use Rattle.printed_text.specs.claim_history.specs.declared.act.Act.TheVariants as act
use Rattle.printed_text.specs.claim_history.specs.declared.entry.Entry.{Entry}
use Rattle.printed_text.specs.claim_history.specs.declared.entry.Reply.{Reply}
use Rattle.printed_text.specs.claim_history.specs.declared.entry.Reply.TheVariants as reply
use Rattle.printed_text.specs.claim_history.specs.Acts.{is_publication}
use Rattle.printed_text.specs.claim_history.specs.States.{State, state_of}
use Rattle.printed_text.specs.claim_history.specs.History.{IsReply, MayFollowInPool, answer, is_accepted, is_no_refusal}
use Rattle.printed_text.specs.claim_history.specs.Rounds.{open_cut_of}
use Rattle.printed_text.specs.claim_history.proofs.Greatest.{reply_published}
use Rattle.printed_text.specs.claim_history.proofs.Replies.{publishes}
use Rattle.journal_summaries.specs.Replay.{cut_ended}

published_reply : (s : State) (counted caller : ℕ) (a : Act) (r : Reply) → is_publication a ≡ true → IsReply counted (answer s caller a) r → is_no_refusal r ≡ true → (total : ℕ) × (r ≡ reply.Published total)
published_reply s counted caller (act.Publish number outcome) r is legal accepted = (_, publishes s counted caller number outcome r legal accepted)
published_reply s counted caller a r is legal accepted = absurd (true≢false (sym is))

ended_by : (cut : Option CutView) (r : Reply) (total : ℕ) → r ≡ reply.Published total → cut ≡ cut_ended cut r
ended_by cut r total is = sym (ap (cut_ended cut) is)

none_ended : (cut : Option CutView) (r : Reply) → ((total : ℕ) → r ≡ reply.Published total → ⊥) → None ≡ cut_ended cut r
none_ended cut (reply.Published total) never = absurd (never total refl)
none_ended cut r never = refl

-- another entry ends none by its reply
none_given : (history : List Entry) (e : Entry) → MayFollowInPool history e → is_publication e.act ≡ false → None ≡ cut_ended (open_cut_of history) e.reply
none_given history e next apart =
    none_ended (open_cut_of history) e.reply (λ total is. true≢false (sym (ap is_publication (reply_published (state_of history) _ e.caller e.act e.reply total next is).asks) ∙ apart))

ended_in : (history : List Entry) (e : Entry) (is_one : Bool) → is_publication e.act ≡ is_one → MayFollowInPool history e → is_accepted e ≡ true
    → (if is_one then open_cut_of history else None) ≡ cut_ended (open_cut_of history) e.reply
ended_in history e true is next accepted =
    let published = published_reply (state_of history) _ e.caller e.act e.reply is next accepted in
    ended_by (open_cut_of history) e.reply published.0 published.1
ended_in history e false is next accepted = none_given history e next is

-- an accepted entry ends the round that was open, by its reply, where it is a publication
pub ended_is : (history : List Entry) (e : Entry) → MayFollowInPool history e → is_accepted e ≡ true → (if is_publication e.act then open_cut_of history else None) ≡ cut_ended (open_cut_of history) e.reply
ended_is history e next accepted = ended_in history e (is_publication e.act) refl next accepted
