-- The debtor that an accepted act names is the claim's.
use Rattle.std.specs.Prelude.{Option, Some, None, is_some, cond, not, reverse}
use Rattle.std.proofs.Common.{◌≡◌, ℕ, Bool, true, false, List, [], ◌∷◌, ◌++◌, sym, ◌∙◌, ap, subst, true≢false}
use Rattle.std.proofs.lemmas.List.{reverse-append}
use Rattle.setoff_model.specs.Same.{same_name}
use Rattle.setoff_model.proofs.SameNames.{key_same}
use Rattle.printed_text.specs.claim_history.specs.declared.act.Act.{Act}
use Rattle.printed_text.specs.claim_history.specs.declared.act.Act.TheVariants as act
use Rattle.printed_text.specs.claim_history.specs.declared.entry.Entry.{Entry}
use Rattle.printed_text.specs.claim_history.specs.declared.entry.Reply.{Reply}
use Rattle.printed_text.specs.claim_history.specs.declared.entry.Reply.TheVariants as reply
use Rattle.printed_text.specs.claim_history.specs.Facts.{Filing, Ledger, filing_of}
use Rattle.printed_text.specs.claim_history.specs.States.{State, after, state}
use Rattle.printed_text.specs.claim_history.specs.History.{IsReply, MayFollowInPool, answer, confirm_refusals, dispute_refusals, failed, file_refusals, is_other_debtor, replied}
use Rattle.printed_text.specs.claim_history.specs.Touched.{is_debtor_of}
use Rattle.printed_text.specs.claim_history.proofs.Rows.{by_rows, name_is, not_false}
use Rattle.printed_text.specs.claim_book.specs.Book.{ledger_of}
use Rattle.journal_summaries.specs.Replay.{IsNamed, NamesDebtor}

named_by : (o : Option Filing) (debtor : List ℕ) → is_some o ≡ true → is_other_debtor o debtor ≡ false → (firm : List ℕ) → is_debtor_of firm o ≡ same_name firm debtor
named_by None debtor there own firm = absurd (true≢false (sym there))
named_by (Some f) debtor there own firm = ap (same_name firm) (sym (name_is debtor f.debtor (not_false (same_name debtor f.debtor) own)))

abbrev Names : State → ℕ → Act → Reply → Type 0
Names s caller a r = IsNamed (after caller a r s).ledger a r

-- an act that names no debtor
others : (a : Act) → ((l : Ledger) → NamesDebtor l a) → (s : State) (caller : ℕ) (r : Reply) → Names s caller a r
others a free s caller (reply.Refused w) = tt
others a free s caller reply.Done = free (after caller a reply.Done s).ledger
others a free s caller (reply.Position p) = free (after caller a (reply.Position p) s).ledger
others a free s caller (reply.Opened n) = free (after caller a (reply.Opened n) s).ledger
others a free s caller (reply.Continued n) = free (after caller a (reply.Continued n) s).ledger
others a free s caller (reply.Published t) = free (after caller a (reply.Published t) s).ledger
others a free s caller (reply.Abandoned n) = free (after caller a (reply.Abandoned n) s).ledger

answer_names : (s : State) (caller : ℕ) (a : Act) → Names s caller a (answer s caller a)
answer_names s caller (act.File key debtor amount due) =
    by_rows (Names s caller (act.File key debtor amount due)) (file_refusals s key debtor) reply.Done (λ w. tt)
    (λ h firm. ap (λ (b : Bool). is_debtor_of firm (cond b (Some (record { key = key; debtor = debtor; amount = amount; due = due })) (filing_of s.ledger key))) (key_same key))
answer_names s caller (act.Confirm key debtor agreed) =
    by_rows (Names s caller (act.Confirm key debtor agreed)) (confirm_refusals s key debtor agreed) reply.Done (λ w. tt) (λ h. named_by (filing_of s.ledger key) debtor (not_false _ h.0) h.1.0)
answer_names s caller (act.Dispute key debtor) =
    by_rows (Names s caller (act.Dispute key debtor)) (dispute_refusals s key debtor) reply.Done (λ w. tt) (λ h. named_by (filing_of s.ledger key) debtor (not_false _ h.0) h.1.0)
answer_names s caller (act.Firm other) = others (act.Firm other) (λ l. tt) s caller (answer s caller (act.Firm other))
answer_names s caller (act.Withdraw key) = others (act.Withdraw key) (λ l. tt) s caller (answer s caller (act.Withdraw key))
answer_names s caller (act.Receive key amount) = others (act.Receive key amount) (λ l. tt) s caller (answer s caller (act.Receive key amount))
answer_names s caller (act.Fund other amount) = others (act.Fund other amount) (λ l. tt) s caller (answer s caller (act.Fund other amount))
answer_names s caller (act.Draw other amount) = others (act.Draw other amount) (λ l. tt) s caller (answer s caller (act.Draw other amount))
answer_names s caller (act.Limit other credit ceiling) = others (act.Limit other credit ceiling) (λ l. tt) s caller (answer s caller (act.Limit other credit ceiling))
answer_names s caller (act.Offer other amount) = others (act.Offer other amount) (λ l. tt) s caller (answer s caller (act.Offer other amount))
answer_names s caller (act.Position other) = others (act.Position other) (λ l. tt) s caller (answer s caller (act.Position other))
answer_names s caller (act.Close kind horizon) = others (act.Close kind horizon) (λ l. tt) s caller (answer s caller (act.Close kind horizon))
answer_names s caller act.Abandon = others act.Abandon (λ l. tt) s caller (answer s caller act.Abandon)
answer_names s caller (act.Publish number outcome) = others (act.Publish number outcome) (λ l. tt) s caller (answer s caller (act.Publish number outcome))

reply_names : (s : State) (counted caller : ℕ) (a : Act) (r : Reply) → IsReply counted (answer s caller a) r → Names s caller a r
reply_names s counted caller a r (replied e) = subst (Names s caller a) (sym e) (answer_names s caller a)
reply_names s counted caller a r (failed device) = subst (Names s caller a) (sym device.is) tt

-- so it is after an entry that may stand next
pub named_after : (history : List Entry) (e : Entry) (later : List Entry) → MayFollowInPool history e → later ≡ history ++ e ∷ [] → IsNamed (ledger_of later) e.act e.reply
named_after history e later next later_is =
    let past : reverse later ≡ e ∷ reverse history = ap reverse later_is ∙ reverse-append history (e ∷ []) in
    subst (λ (p : List Entry). IsNamed (state p).ledger e.act e.reply) (sym past) (reply_names (state (reverse history)) _ e.caller e.act e.reply next)
