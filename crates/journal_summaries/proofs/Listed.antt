-- A firm whose register has an entry is registered after it.
use Rattle.std.specs.Prelude.{Option, Some, None, is_some, find, cond}
use Rattle.std.specs.Option.{option_map}
use Rattle.std.proofs.Common.{◌≡◌, ℕ, Bool, true, false, ◌||◌, List, [], ◌∷◌, All, refl, sym, ◌∙◌, ap, subst, true≢false}
use Rattle.std.proofs.lemmas.List.Elements.{All-head, All-tail}
use Rattle.setoff_model.specs.declared.name.Key.{Key}
use Rattle.setoff_model.specs.declared.kind.Kind.{Kind}
use Rattle.setoff_model.specs.CutView.{CutView, OutcomeView}
use Rattle.setoff_model.specs.Setoff.{total_of}
use Rattle.setoff_model.specs.Same.{same_key, same_name}
use Rattle.setoff_model.proofs.SameNames.{key_same}
use Rattle.printed_text.specs.claim_history.specs.declared.act.Act.{Act}
use Rattle.printed_text.specs.claim_history.specs.declared.act.Act.TheVariants as act
use Rattle.printed_text.specs.claim_history.specs.declared.entry.Entry.{Entry}
use Rattle.printed_text.specs.claim_history.specs.declared.entry.Reply.{Reply}
use Rattle.printed_text.specs.claim_history.specs.declared.entry.Reply.TheVariants as reply
use Rattle.printed_text.specs.claim_history.specs.Facts.{Filing, Ledger, filing_of, filings, is_registered, position_of}
use Rattle.printed_text.specs.claim_history.specs.States.{OpenRound, State, after, state}
use Rattle.printed_text.specs.claim_history.specs.History.{IsLegalPoolPast, IsReply, abandon_answer, abandon_refusals, answer, close_answer, close_refusals, confirm_refusals, dispute_refusals, draw_refusals, failed, file_refusals, firm_refusals, fund_refusals, limit_refusals, offer_refusals, position_refusals, publish_answer, publish_refusals, receive_refusals, replied, withdraw_refusals}
use Rattle.printed_text.specs.claim_history.specs.Rounds.{open_cut}
use Rattle.printed_text.specs.claim_history.specs.Touched.{is_debtor_of, is_side_of}
use Rattle.printed_text.specs.claim_history.proofs.Rows.{by_rows, key_is, name_is, not_false}
use Rattle.printed_text.specs.claim_book.proofs.Known.{AreKnown, IsKnown, Knows, KnowsFilings}
use Rattle.printed_text.specs.claim_book.proofs.Sound.{knows, not_party}
use Rattle.journal_summaries.specs.Account.{is_listed, is_listed_by, is_party_of}

-- ---- tests

pub either : (a b : Bool) (P : Type 0) → (a || b) ≡ true → (a ≡ true → P) → (b ≡ true → P) → P
either true b P e left right = left refl
either false b P e left right = right e

pub not_no : (b : Bool) → (b ≡ false → ⊥) → b ≡ true
not_no true h = refl
not_no false h = absurd (h refl)

-- ---- the firms of claims and of cuts

abbrev IsFound : Ledger → Key → Filing → Type 0
IsFound l key f = AreKnown l f × (same_key key f.key ≡ true)

found_step : (l : Ledger) (key : Key) (f g : Filing) (rest : Option Filing) (b : Bool) → same_key key g.key ≡ b → AreKnown l g → (rest ≡ Some f → IsFound l key f) → cond b (Some g) rest ≡ Some f → IsFound l key f
found_step l key f g rest true here known later e =
    let same : g ≡ f = cc e in
    subst (IsFound l key) same (known, here)
found_step l key f g rest false here known later e = later e

found_known : (l : Ledger) (key : Key) (f : Filing) (fs : List Filing) → All (AreKnown l) fs → find (λ g. same_key key g.key) fs ≡ Some f → IsFound l key f
found_known l key f [] all e = absurd (true≢false (sym (ap is_some e)))
found_known l key f (g ∷ fs) all e =
    found_step l key f g (find (λ h. same_key key h.key) fs) (same_key key g.key) refl (All-head (AreKnown l) g fs all) (found_known l key f fs (All-tail (AreKnown l) g fs all)) e

side_found : (l : Ledger) (firm : List ℕ) (key : Key) (o : Option Filing) → filing_of l key ≡ o → KnowsFilings l → is_some o ≡ true → (same_name firm key.creditor || is_debtor_of firm o) ≡ true → is_registered l firm ≡ true
side_found l firm key None e known there side = absurd (true≢false (sym there))
side_found l firm key (Some f) e known there side =
    let found = found_known l key f (filings l) known e in
    either (same_name firm key.creditor) (same_name firm f.debtor) (is_registered l firm ≡ true) side
    (λ is. subst (IsKnown l) (sym (name_is firm key.creditor is ∙ ap (λ (k : Key). k.creditor) (key_is key f.key found.1))) found.0.1)
    (λ is. subst (IsKnown l) (sym (name_is firm f.debtor is)) found.0.0)

side_known : (l : Ledger) (firm : List ℕ) (key : Key) → KnowsFilings l → is_some (filing_of l key) ≡ true → is_side_of l firm key ≡ true → is_registered l firm ≡ true
side_known l firm key known there side = side_found l firm key (filing_of l key) refl known there side

abbrev cut_in : Option OpenRound → Option CutView
cut_in o = option_map (λ round. round.cut) o

party_known : (s : State) (firm : List ℕ) (o : Option OpenRound) → s.open_round ≡ o → Knows s → is_party_of (cut_in o) firm ≡ true → is_registered s.ledger firm ≡ true
party_known s firm None e known party = absurd (true≢false (sym party))
party_known s firm (Some round) e known party =
    not_no (is_registered s.ledger firm) (λ none. true≢false (sym party ∙ ap is_some (not_party s.ledger round.cut firm (known.1 round e) none)))

same_firm_known : (l : Ledger) (firm other : List ℕ) → is_registered l other ≡ true → same_name firm other ≡ true → is_registered l firm ≡ true
same_firm_known l firm other known is = subst (IsKnown l) (sym (name_is firm other is)) known

-- ---- the one reply

-- the register has an entry with this reply only where the firm is registered after it
abbrev Registers : List ℕ → State → ℕ → Act → Reply → Type 0
Registers firm s caller a r =
    KnowsFilings (after caller a r s).ledger → is_listed_by firm (cut_in s.open_round) (after caller a r s).ledger a r ≡ true → is_registered (after caller a r s).ledger firm ≡ true

close_registers : (firm : List ℕ) (s : State) (caller : ℕ) (kind : Kind) (horizon : ℕ) (o : Option OpenRound) → Registers firm s caller (act.Close kind horizon) (close_answer s.openings o caller kind horizon)
close_registers firm s caller kind horizon None = λ known listed. absurd (true≢false (sym listed))
close_registers firm s caller kind horizon (Some round) =
    by_rows (Registers firm s caller (act.Close kind horizon)) (close_refusals round caller kind horizon) (reply.Continued round.cut.round) (λ w known listed. absurd (true≢false (sym listed))) (λ h known listed. absurd (true≢false (sym listed)))

abandon_registers : (firm : List ℕ) (s : State) (caller : ℕ) (o : Option OpenRound) → Registers firm s caller act.Abandon (abandon_answer o caller)
abandon_registers firm s caller None = λ known listed. absurd (true≢false (sym listed))
abandon_registers firm s caller (Some round) =
    by_rows (Registers firm s caller act.Abandon) (abandon_refusals round caller) (reply.Abandoned round.cut.round) (λ w known listed. absurd (true≢false (sym listed))) (λ h known listed. absurd (true≢false (sym listed)))

publish_registers : (firm : List ℕ) (s : State) (caller number : ℕ) (outcome : OutcomeView) (o : Option OpenRound) → Knows s → Registers firm s caller (act.Publish number outcome) (publish_answer o caller number outcome)
publish_registers firm s caller number outcome None knows = λ known listed. absurd (true≢false (sym listed))
publish_registers firm s caller number outcome (Some round) knows =
    by_rows (Registers firm s caller (act.Publish number outcome)) (publish_refusals round caller number outcome) (reply.Published (total_of outcome.discharges)) (λ w known listed. absurd (true≢false (sym listed)))
    (λ h known listed. party_known s firm s.open_round refl knows listed)

answer_registers : (firm : List ℕ) (s : State) (caller : ℕ) (a : Act) → Knows s → Registers firm s caller a (answer s caller a)
answer_registers firm s caller (act.Firm other) knows =
    by_rows (Registers firm s caller (act.Firm other)) (firm_refusals s other) reply.Done (λ w known listed. absurd (true≢false (sym listed)))
    (λ h known listed. ap (λ (b : Bool). b || is_registered s.ledger firm) listed)
answer_registers firm s caller (act.File key debtor amount due) knows =
    by_rows (Registers firm s caller (act.File key debtor amount due)) (file_refusals s key debtor) reply.Done (λ w known listed. absurd (true≢false (sym listed)))
    (λ h known listed. side_known (after caller (act.File key debtor amount due) reply.Done s).ledger firm key known
    (ap (λ (b : Bool). is_some (cond b (Some (record { key = key; debtor = debtor; amount = amount; due = due })) (filing_of s.ledger key))) (key_same key)) listed)
answer_registers firm s caller (act.Confirm key debtor agreed) knows =
    by_rows (Registers firm s caller (act.Confirm key debtor agreed)) (confirm_refusals s key debtor agreed) reply.Done (λ w known listed. absurd (true≢false (sym listed)))
    (λ h known listed. side_known (after caller (act.Confirm key debtor agreed) reply.Done s).ledger firm key known (not_false _ h.0) listed)
answer_registers firm s caller (act.Dispute key debtor) knows =
    by_rows (Registers firm s caller (act.Dispute key debtor)) (dispute_refusals s key debtor) reply.Done (λ w known listed. absurd (true≢false (sym listed)))
    (λ h known listed. side_known (after caller (act.Dispute key debtor) reply.Done s).ledger firm key known (not_false _ h.0) listed)
answer_registers firm s caller (act.Withdraw key) knows =
    by_rows (Registers firm s caller (act.Withdraw key)) (withdraw_refusals s key) reply.Done (λ w known listed. absurd (true≢false (sym listed)))
    (λ h known listed. side_known (after caller (act.Withdraw key) reply.Done s).ledger firm key known (not_false _ h.0) listed)
answer_registers firm s caller (act.Receive key amount) knows =
    by_rows (Registers firm s caller (act.Receive key amount)) (receive_refusals s key amount) reply.Done (λ w known listed. absurd (true≢false (sym listed)))
    (λ h known listed. side_known (after caller (act.Receive key amount) reply.Done s).ledger firm key known (not_false _ h.0) listed)
answer_registers firm s caller (act.Fund other amount) knows =
    by_rows (Registers firm s caller (act.Fund other amount)) (fund_refusals s other amount) reply.Done (λ w known listed. absurd (true≢false (sym listed)))
    (λ h known listed. same_firm_known s.ledger firm other (not_false _ h.0) listed)
answer_registers firm s caller (act.Draw other amount) knows =
    by_rows (Registers firm s caller (act.Draw other amount)) (draw_refusals s other amount) reply.Done (λ w known listed. absurd (true≢false (sym listed)))
    (λ h known listed. same_firm_known s.ledger firm other (not_false _ h.0) listed)
answer_registers firm s caller (act.Limit other credit ceiling) knows =
    by_rows (Registers firm s caller (act.Limit other credit ceiling)) (limit_refusals s other credit ceiling) reply.Done (λ w known listed. absurd (true≢false (sym listed)))
    (λ h known listed. same_firm_known s.ledger firm other (not_false _ h.0) listed)
answer_registers firm s caller (act.Offer other amount) knows =
    by_rows (Registers firm s caller (act.Offer other amount)) (offer_refusals s other) reply.Done (λ w known listed. absurd (true≢false (sym listed)))
    (λ h known listed. same_firm_known s.ledger firm other (not_false _ h.0) listed)
answer_registers firm s caller (act.Position other) knows =
    by_rows (Registers firm s caller (act.Position other)) (position_refusals s other) (reply.Position (position_of s.ledger other)) (λ w known listed. absurd (true≢false (sym listed)))
    (λ h known listed. absurd (true≢false (sym listed)))
answer_registers firm s caller (act.Close kind horizon) knows = close_registers firm s caller kind horizon s.open_round
answer_registers firm s caller (act.Abandon) knows = abandon_registers firm s caller s.open_round
answer_registers firm s caller (act.Publish number outcome) knows = publish_registers firm s caller number outcome s.open_round knows

reply_registers : (firm : List ℕ) (s : State) (counted caller : ℕ) (a : Act) (r : Reply) → IsReply counted (answer s caller a) r → Knows s → Registers firm s caller a r
reply_registers firm s counted caller a r (replied e) knows = subst (Registers firm s caller a) (sym e) (answer_registers firm s caller a knows)
reply_registers firm s counted caller a r (failed device) knows = subst (Registers firm s caller a) (sym device.is) (λ known listed. absurd (true≢false (sym listed)))

-- so it is after every legal past
pub listed_known : (firm : List ℕ) (e : Entry) (past : List Entry) → IsLegalPoolPast (e ∷ past) → is_listed firm (open_cut past) (state (e ∷ past)).ledger e ≡ true → is_registered (state (e ∷ past)).ledger firm ≡ true
listed_known firm e past legal listed =
    reply_registers firm (state past) _ e.caller e.act e.reply legal.0 (knows past legal.1) (knows (e ∷ past) legal).0 listed
