-- One entry more, both endings of a round, and the test of the limits.
use Rattle.std.specs.Prelude.{count_by, if◌then◌else◌, Option, Some, None, ◌||◌, ◌↔◌}
use Rattle.std.proofs.Common.{◌≡◌, ℕ, ◌+◌, ◌≤◌, cond, nat_lt, Bool, true, false, not, ◌&&◌, List, [], ◌∷◌, length, refl, sym, ◌∙◌, ap, true≢false, arith}
use Rattle.std.proofs.lemmas.Bool.{ltb-false, le-ltb, and_parts}
use Rattle.std.proofs.lemmas.List.{length-map}
use Rattle.std.proofs.lemmas.List.Sums.{sum_by-cons}
use Rattle.setoff_model.specs.declared.limits.TheConstants.{MOST_ENTRIES, MOST_JOURNAL_BYTES}
use Rattle.setoff_model.specs.declared.kind.Kind.{Kind}
use Rattle.setoff_model.specs.declared.cut.Party.{Party}
use Rattle.setoff_model.specs.declared.cut.CutClaim.{CutClaim}
use Rattle.setoff_model.specs.CutView.{CutView, OutcomeView, obligations}
use Rattle.setoff_model.specs.Setoff.{total_of}
use Rattle.setoff_model.specs.ProofTest.{is_proved}
use Rattle.setoff_model.proofs.Deciding.{proof_test_law}
use Rattle.claim_history.specs.declared.act.Act.{Act}
use Rattle.claim_history.specs.declared.act.Act.TheVariants as act
use Rattle.claim_history.specs.declared.entry.Reply.{Reply}
use Rattle.claim_history.specs.declared.entry.Reply.TheVariants as reply
use Rattle.claim_history.specs.declared.entry.Why.{Why}
use Rattle.claim_history.specs.declared.entry.Entry.{Entry}
use Rattle.claim_history.specs.Facts.{position_of}
use Rattle.claim_history.specs.States.{OpenRound, State, state}
use Rattle.claim_history.specs.History.{Refusals, abandon_answer, abandon_refusals, answer, close_answer, close_refusals, confirm_refusals, dispute_refusals, draw_refusals, file_refusals, firm_refusals, fund_refusals, is_no_refusal, limit_refusals, offer_refusals, position_refusals, publish_answer, publish_refusals, receive_refusals, refused_or, replied, withdraw_refusals}
use Rattle.claim_history.specs.Needs.{body_length_of, endings_bytes, endings_entries, is_counted, is_of_device, record_length_of}
use Rattle.claim_history.proofs.Pasts.{entry_of}
use Rattle.claim_history.proofs.Rows.{not_true}
use Rattle.claim_history.proofs.Greatest.{IsPublishedOf, reply_published}

-- ---- one more entry

abbrev pub one_if : Bool → ℕ
one_if b = cond b 1 0

pub entries_more : (e : Entry) (past : List Entry) → count_by is_counted (e ∷ past) ≡ one_if (is_counted e) + count_by is_counted past
entries_more e past = sum_by-cons (λ (x : Entry). one_if (is_counted x)) e past

pub one_at_most : (b : Bool) → one_if b ≤ 1
one_at_most true = omega arith
one_at_most false = omega arith

-- ---- the endings

-- proved discharges and prices are as many as claims and parties
discharges_are : (cut : CutView) (outcome : OutcomeView) → is_proved (obligations cut) outcome.discharges outcome.prices ≡ true → length outcome.discharges ≡ length cut.claims
discharges_are cut outcome e =
    ((proof_test_law (obligations cut) outcome.discharges outcome.prices).0 e).lawful.one_each ∙ length-map cut.claims (λ (c : CutClaim). c.amount)

prices_are : (cut : CutView) (outcome : OutcomeView) → is_proved (obligations cut) outcome.discharges outcome.prices ≡ true → length outcome.prices ≡ length cut.parties
prices_are cut outcome e =
    ((proof_test_law (obligations cut) outcome.discharges outcome.prices).0 e).price_each ∙ length-map cut.parties (λ (f : Party). f.spend)

-- both endings of the round that a publication ends cover its record
pub publication_covered : (s : State) (caller number total : ℕ) (outcome : OutcomeView) → answer s caller (act.Publish number outcome) ≡ reply.Published total
    → (2 ≤ endings_entries s.open_round) × (record_length_of (act.Publish number outcome) ≤ endings_bytes s.open_round)
publication_covered s caller number total outcome e =
    let p : IsPublishedOf s.open_round caller (act.Publish number outcome) total = reply_published s 0 caller (act.Publish number outcome) _ total (replied refl) e in
    let body : body_length_of (act.Publish number outcome) ≡ body_length_of (act.Publish p.round.cut.round p.outcome) = ap body_length_of p.asks in
    let entries : endings_entries s.open_round ≡ endings_entries (Some p.round) = ap endings_entries p.was_open in
    let bytes : endings_bytes s.open_round ≡ endings_bytes (Some p.round) = ap endings_bytes p.was_open in
    (omega (arith, entries), omega (arith, body, bytes, discharges_are p.round.cut p.outcome p.proved, prices_are p.round.cut p.outcome p.proved))

-- where an abandonment is accepted, a round is open
pub abandoned_open : (o : Option OpenRound) (caller number : ℕ) → abandon_answer o caller ≡ reply.Abandoned number → (2 ≤ endings_entries o) × (10 ≤ endings_bytes o)
abandoned_open None caller number = λ e. absurd (true≢false (sym (ap is_no_refusal e)))
abandoned_open (Some round) caller number = λ e. (omega arith, omega arith)

-- ---- the one reply tells of no device

no_device_row : (b : Bool) (w : Why) (rest : Reply) → is_of_device (reply.Refused w) ≡ false → is_of_device rest ≡ false → is_of_device (if b then reply.Refused w else rest) ≡ false
no_device_row true w rest here later = here
no_device_row false w rest here later = later

-- none of the refusals tells of a device
abbrev name_no_device : Refusals → Bool
name_no_device [] = true
name_no_device (row ∷ rows) = not (is_of_device (reply.Refused row.1)) && name_no_device rows

no_device : (rows : Refusals) (otherwise : Reply) → name_no_device rows ≡ true → is_of_device otherwise ≡ false → is_of_device (refused_or rows otherwise) ≡ false
no_device [] otherwise e last = last
no_device (row ∷ rows) otherwise e last =
    let both = and_parts (not (is_of_device (reply.Refused row.1))) (name_no_device rows) e in
    no_device_row row.0 row.1 (refused_or rows otherwise) (not_true _ both.0) (no_device rows otherwise both.1 last)

close_no_device : (n : ℕ) (o : Option OpenRound) (caller : ℕ) (kind : Kind) (horizon : ℕ) → is_of_device (close_answer n o caller kind horizon) ≡ false
close_no_device n None caller kind horizon = refl
close_no_device n (Some round) caller kind horizon = no_device (close_refusals round caller kind horizon) (reply.Continued round.cut.round) refl refl

abandon_no_device : (o : Option OpenRound) (caller : ℕ) → is_of_device (abandon_answer o caller) ≡ false
abandon_no_device None caller = refl
abandon_no_device (Some round) caller = no_device (abandon_refusals round caller) (reply.Abandoned round.cut.round) refl refl

publish_no_device : (o : Option OpenRound) (caller number : ℕ) (outcome : OutcomeView) → is_of_device (publish_answer o caller number outcome) ≡ false
publish_no_device None caller number outcome = refl
publish_no_device (Some round) caller number outcome = no_device (publish_refusals round caller number outcome) (reply.Published (total_of outcome.discharges)) refl refl

pub answer_no_device : (s : State) (caller : ℕ) (a : Act) → is_of_device (answer s caller a) ≡ false
answer_no_device s caller (act.Firm firm) = no_device (firm_refusals s firm) reply.Done refl refl
answer_no_device s caller (act.File key debtor amount due) = no_device (file_refusals s key debtor) reply.Done refl refl
answer_no_device s caller (act.Confirm key debtor agreed) = no_device (confirm_refusals s key debtor agreed) reply.Done refl refl
answer_no_device s caller (act.Dispute key debtor) = no_device (dispute_refusals s key debtor) reply.Done refl refl
answer_no_device s caller (act.Withdraw key) = no_device (withdraw_refusals s key) reply.Done refl refl
answer_no_device s caller (act.Receive key amount) = no_device (receive_refusals s key amount) reply.Done refl refl
answer_no_device s caller (act.Fund firm amount) = no_device (fund_refusals s firm amount) reply.Done refl refl
answer_no_device s caller (act.Draw firm amount) = no_device (draw_refusals s firm amount) reply.Done refl refl
answer_no_device s caller (act.Limit firm credit ceiling) = no_device (limit_refusals s firm credit ceiling) reply.Done refl refl
answer_no_device s caller (act.Offer firm amount) = no_device (offer_refusals s firm) reply.Done refl refl
answer_no_device s caller (act.Position firm) = no_device (position_refusals s firm) (reply.Position (position_of s.ledger firm)) refl refl
answer_no_device s caller (act.Close kind horizon) = close_no_device s.openings s.open_round caller kind horizon
answer_no_device s caller (act.Abandon) = abandon_no_device s.open_round caller
answer_no_device s caller (act.Publish number outcome) = publish_no_device s.open_round caller number outcome

-- so its entry is counted
pub due_is_one : (past : List Entry) (caller : ℕ) (a : Act) → one_if (is_counted (entry_of caller a (answer (state past) caller a))) ≡ 1
due_is_one past caller a = ap (λ (b : Bool). one_if (not b)) (answer_no_device (state past) caller a)

-- ---- the test

neither : (a b : Bool) → (a || (not a && b)) ≡ false → (a ≡ false) × (b ≡ false)
neither true b e = absurd (true≢false e)
neither false b e = (refl, e)

none : (a b : Bool) → a ≡ false → b ≡ false → (a || (not a && b)) ≡ false
none true b e f = absurd (true≢false e)
none false b e f = f

pub fits_test : (entries bytes : ℕ) → ((nat_lt MOST_ENTRIES entries || (not (nat_lt MOST_ENTRIES entries) && nat_lt MOST_JOURNAL_BYTES bytes)) ≡ false) ↔ ((entries ≤ MOST_ENTRIES) × (bytes ≤ MOST_JOURNAL_BYTES))
fits_test entries bytes = (
  λ e. let both = neither (nat_lt MOST_ENTRIES entries) (nat_lt MOST_JOURNAL_BYTES bytes) e in (ltb-false _ _ both.0, ltb-false _ _ both.1),
  λ h. none (nat_lt MOST_ENTRIES entries) (nat_lt MOST_JOURNAL_BYTES bytes) (le-ltb _ _ h.0) (le-ltb _ _ h.1),
)
