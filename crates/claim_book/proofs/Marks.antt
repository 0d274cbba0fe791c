-- What is in the cut of the open round is marked.
use Rattle.std.specs.Prelude.{map, get_or, position, Option, Some, None, is_some, if◌then◌else◌}
use Rattle.std.proofs.Common.{◌≡◌, ℕ, Bool, true, false, ◌&&◌, List, [], ◌∷◌, ◌++◌, refl, sym, ◌∙◌, ap, true≢false}
use Rattle.std.proofs.lemmas.List.{map-append, get_or-map}
use Rattle.std.proofs.lemmas.List.Quantifiers.{position-Some}
use Rattle.setoff_model.specs.declared.name.Key.{Key}
use Rattle.setoff_model.specs.Same.{same_name, same_key}
use Rattle.round_cut.specs.claim_history.specs.declared.act.Act.{Act}
use Rattle.round_cut.specs.claim_history.specs.declared.act.Act.TheVariants as act
use Rattle.round_cut.specs.claim_history.specs.declared.entry.Entry.{Entry}
use Rattle.round_cut.specs.claim_history.specs.declared.entry.Reply.{Reply}
use Rattle.round_cut.specs.claim_history.specs.declared.entry.Reply.TheVariants as reply
use Rattle.round_cut.specs.claim_history.specs.declared.fact.ClaimFact.{ClaimFact}
use Rattle.round_cut.specs.claim_history.specs.declared.fact.AccountFact.{AccountFact}
use Rattle.round_cut.specs.claim_history.specs.declared.fact.Status.TheVariants as status
use Rattle.round_cut.specs.claim_history.specs.Acts.{is_publication}
use Rattle.round_cut.specs.claim_history.specs.Facts.{is_registered, filing_of, claim_facts, account_facts}
use Rattle.round_cut.specs.claim_history.specs.States.{OpenRound, State, state_of, after, is_in_cut, is_held}
use Rattle.round_cut.specs.claim_history.specs.History.{answer, is_no_refusal, is_opening, IsReply, IsLegalPool, firm_refusals, file_refusals}
use Rattle.round_cut.specs.claim_history.specs.Laws.{KeepAmounts}
use Rattle.round_cut.specs.claim_history.proofs.Greatest.{reply_published}
use Rattle.round_cut.specs.claim_history.proofs.Replies.{accepted_due}
use Rattle.round_cut.specs.claim_history.proofs.Rows.{name_is, key_is}
use Rattle.fact_tables.specs.Marks.{no_marks, claim_marks_after, account_marks_after, mark_at}
use Rattle.fact_tables.specs.Tables.{restated, with_status, reduced, with_receipt, claims_after, funded, drawn, limited, offered, accounts_after}
use Rattle.fact_tables.proofs.Keyed.{same_keys, if_same}
use Rattle.fact_tables.proofs.Places.{find_no_place}
use Rattle.claim_book.specs.Book.{is_abandoned, is_funded_round, is_party, frozen_in, parties_in}
use Rattle.claim_book.proofs.Found.{filed_some, registered_some}
use Rattle.claim_book.proofs.Known.{Knows}
use Rattle.claim_book.proofs.Lookups.{claim_found, account_found}
use Rattle.claim_book.proofs.Sound.{IsSound, knows, not_in_cut, not_party}
use Rattle.claim_book.proofs.Tables.{none_applies, tables}

-- ---- what is not there is in no cut

unfiled_by : (s : State) (o : Option OpenRound) (key : Key) → s.open_round ≡ o → Knows s → is_some (filing_of s.ledger key) ≡ false → is_in_cut o key ≡ false
unfiled_by s None key e known none = refl
unfiled_by s (Some round) key e known none = ap is_some (not_in_cut s.ledger round.cut key (known.1 round e) none)

unfiled : (s : State) (key : Key) → Knows s → is_some (filing_of s.ledger key) ≡ false → is_in_cut s.open_round key ≡ false
unfiled s key known none = unfiled_by s s.open_round key refl known none

unregistered_by : (s : State) (o : Option OpenRound) (firm : List ℕ) → s.open_round ≡ o → Knows s → is_registered s.ledger firm ≡ false → is_party o firm ≡ false
unregistered_by s None firm e known none = refl
unregistered_by s (Some round) firm e known none = ap is_some (not_party s.ledger round.cut firm (known.1 round e) none)

unregistered : (s : State) (firm : List ℕ) → Knows s → is_registered s.ledger firm ≡ false → is_party s.open_round firm ≡ false
unregistered s firm known none = unregistered_by s s.open_round firm refl known none

-- ---- one more entry

-- a step that leaves each test leaves the marks
stay : {X : Type 0} (test : X → Bool) (step : X → X) (rows : List X) → ((x : X) → test (step x) ≡ test x) → map test rows ≡ map test (map step rows)
stay test step rows same = sym (same_keys test step rows same)

-- one more row, which does not pass
one_more : {X : Type 0} (test : X → Bool) (rows : List X) (x : X) → test x ≡ false → map test rows ++ false ∷ [] ≡ map test (rows ++ x ∷ [])
one_more test rows x fails = ap (λ (b : Bool). map test rows ++ b ∷ []) (sym fails) ∙ sym (map-append test rows (x ∷ []))

keys_stay : (test : Key → Bool) (step : ClaimFact → ClaimFact) (rows : List ClaimFact) → ((c : ClaimFact) → (step c).key ≡ c.key) → map (λ (c : ClaimFact). test c.key) rows ≡ map (λ (c : ClaimFact). test c.key) (map step rows)
keys_stay test step rows same = stay (λ (c : ClaimFact). test c.key) step rows (λ c. ap test (same c))

firms_stay : (test : List ℕ → Bool) (step : AccountFact → AccountFact) (rows : List AccountFact) → ((a : AccountFact) → (step a).firm ≡ a.firm) → map (λ (a : AccountFact). test a.firm) rows ≡ map (λ (a : AccountFact). test a.firm) (map step rows)
firms_stay test step rows same = stay (λ (a : AccountFact). test a.firm) step rows (λ a. ap test (same a))

-- an accepted act leaves the marks of claims, where a claim that it files does not pass
claims_marked : (test : Key → Bool) (a : Act) (rows : List ClaimFact) → ((key : Key) (debtor : List ℕ) (amount due : ℕ) → a ≡ act.File key debtor amount due → test key ≡ false)
    → claim_marks_after a (map (λ (c : ClaimFact). test c.key) rows) ≡ map (λ (c : ClaimFact). test c.key) (claims_after a rows)
claims_marked test (act.File key debtor amount due) rows new = one_more (λ (c : ClaimFact). test c.key) rows _ (new key debtor amount due refl)
claims_marked test (act.Confirm key debtor agreed) rows new = keys_stay test (with_status key status.Confirmed agreed) rows (λ c. if_same (λ (r : ClaimFact). r.key) (same_key key c.key) (restated status.Confirmed agreed c) c refl)
claims_marked test (act.Dispute key debtor) rows new = keys_stay test (with_status key status.Disputed None) rows (λ c. if_same (λ (r : ClaimFact). r.key) (same_key key c.key) (restated status.Disputed None c) c refl)
claims_marked test (act.Withdraw key) rows new = keys_stay test (with_status key status.Withdrawn None) rows (λ c. if_same (λ (r : ClaimFact). r.key) (same_key key c.key) (restated status.Withdrawn None c) c refl)
claims_marked test (act.Receive key amount) rows new = keys_stay test (with_receipt key amount) rows (λ c. if_same (λ (r : ClaimFact). r.key) (same_key key c.key) (reduced amount c) c refl)
claims_marked test a rows new = refl

accounts_marked : (test : List ℕ → Bool) (a : Act) (rows : List AccountFact) → ((firm : List ℕ) → a ≡ act.Firm firm → test firm ≡ false)
    → account_marks_after a (map (λ (r : AccountFact). test r.firm) rows) ≡ map (λ (r : AccountFact). test r.firm) (accounts_after a rows)
accounts_marked test (act.Firm firm) rows new = one_more (λ (r : AccountFact). test r.firm) rows _ (new firm refl)
accounts_marked test (act.Fund firm amount) rows new = firms_stay test (funded firm amount) rows (λ a. if_same (λ (r : AccountFact). r.firm) (same_name firm a.firm) (record a { balance = _ }) a refl)
accounts_marked test (act.Draw firm amount) rows new = firms_stay test (drawn firm amount) rows (λ a. if_same (λ (r : AccountFact). r.firm) (same_name firm a.firm) (record a { balance = _ }) a refl)
accounts_marked test (act.Limit firm credit ceiling) rows new = firms_stay test (limited firm credit ceiling) rows (λ a. if_same (λ (r : AccountFact). r.firm) (same_name firm a.firm) (record a { credit = credit; ceiling = ceiling }) a refl)
accounts_marked test (act.Offer firm amount) rows new = firms_stay test (offered firm amount) rows (λ a. if_same (λ (r : AccountFact). r.firm) (same_name firm a.firm) (record a { offer = amount }) a refl)
accounts_marked test a rows new = refl

-- a claim that is filed, and a firm that is registered, is in no cut yet
new_claim_unmarked : (s : State) (caller : ℕ) (a : Act) → Knows s → is_no_refusal (answer s caller a) ≡ true → (key : Key) (debtor : List ℕ) (amount due : ℕ) → a ≡ act.File key debtor amount due → is_in_cut s.open_round key ≡ false
new_claim_unmarked s caller a known good key debtor amount due asks =
    let filed : is_no_refusal (answer s caller (act.File key debtor amount due)) ≡ true = ap (λ (x : Act). is_no_refusal (answer s caller x)) (sym asks) ∙ good in
    unfiled s key known (none_applies (file_refusals s key debtor) reply.Done filed).1.1.0

new_firm_unmarked : (s : State) (caller : ℕ) (a : Act) → Knows s → is_no_refusal (answer s caller a) ≡ true → (firm : List ℕ) → a ≡ act.Firm firm → is_party s.open_round firm ≡ false
new_firm_unmarked s caller a known good firm asks =
    let registered : is_no_refusal (answer s caller (act.Firm firm)) ≡ true = ap (λ (x : Act). is_no_refusal (answer s caller x)) (sym asks) ∙ good in
    unregistered s firm known (none_applies (firm_refusals s firm) reply.Done registered).0

-- the marks after an entry that publishes nothing and opens no round
abbrev pub MarksLeft : State → Act → Reply → State → Type 0
MarksLeft s a r after =
    ((if is_abandoned r then no_marks (if is_no_refusal r then claims_after a (claim_facts s.ledger) else claim_facts s.ledger)
    else (if is_no_refusal r then claim_marks_after a (frozen_in s) else frozen_in s)) ≡ frozen_in after)
    × ((if is_abandoned r then no_marks (if is_no_refusal r then accounts_after a (account_facts s.ledger) else account_facts s.ledger)
    else (if is_no_refusal r then account_marks_after a (parties_in s) else parties_in s)) ≡ parties_in after)

module _ (s : State) (caller : ℕ) (a : Act) (known : Knows s) (is : IsSound s.ledger) (amounts : KeepAmounts s.ledger) (apart : is_publication a ≡ false) (good : is_no_refusal (answer s caller a) ≡ true) where
  claims_after_it : claim_marks_after a (frozen_in s) ≡ map (λ (c : ClaimFact). is_in_cut s.open_round c.key) (claim_facts (after caller a reply.Done s).ledger)
  claims_after_it =
      claims_marked (is_in_cut s.open_round) a (claim_facts s.ledger) (new_claim_unmarked s caller a known good)
      ∙ ap (map (λ (c : ClaimFact). is_in_cut s.open_round c.key)) (sym (tables s caller a apart is amounts good).1)

  accounts_after_it : account_marks_after a (parties_in s) ≡ map (λ (r : AccountFact). is_party s.open_round r.firm) (account_facts (after caller a reply.Done s).ledger)
  accounts_after_it =
      accounts_marked (is_party s.open_round) a (account_facts s.ledger) (new_firm_unmarked s caller a known good)
      ∙ ap (map (λ (r : AccountFact). is_party s.open_round r.firm)) (sym (tables s caller a apart is amounts good).0)

  ended : MarksLeft s a (reply.Abandoned 0) (after caller a (reply.Abandoned 0) s)
  ended = (ap no_marks (sym (tables s caller a apart is amounts good).1), ap no_marks (sym (tables s caller a apart is amounts good).0))

pub marks_left : (caller : ℕ) (a : Act) (r : Reply) (s : State) (counted : ℕ) → Knows s → IsSound s.ledger → KeepAmounts s.ledger → is_publication a ≡ false → is_opening r ≡ false → IsReply counted (answer s caller a) r → MarksLeft s a r (after caller a r s)
marks_left caller a (reply.Refused w) s counted known is amounts apart closed legal = (refl, refl)
marks_left caller a (reply.Opened round) s counted known is amounts apart closed legal = absurd (true≢false closed)
marks_left caller a (reply.Published total) s counted known is amounts apart closed legal =
    let p = reply_published s counted caller a (reply.Published total) total legal refl in
    absurd (true≢false (sym (ap is_publication p.asks) ∙ apart))
marks_left caller a reply.Done s counted known is amounts apart closed legal =
    let good = ap is_no_refusal (accepted_due counted (answer s caller a) reply.Done legal refl) in (claims_after_it s caller a known is amounts apart good, accounts_after_it s caller a known is amounts apart good)
marks_left caller a (reply.Position position) s counted known is amounts apart closed legal =
    let good = ap is_no_refusal (accepted_due counted (answer s caller a) (reply.Position position) legal refl) in (claims_after_it s caller a known is amounts apart good, accounts_after_it s caller a known is amounts apart good)
marks_left caller a (reply.Continued round) s counted known is amounts apart closed legal =
    let good = ap is_no_refusal (accepted_due counted (answer s caller a) (reply.Continued round) legal refl) in (claims_after_it s caller a known is amounts apart good, accounts_after_it s caller a known is amounts apart good)
marks_left caller a (reply.Abandoned round) s counted known is amounts apart closed legal =
    let good = ap is_no_refusal (accepted_due counted (answer s caller a) (reply.Abandoned round) legal refl) in ended s caller a known is amounts apart good

-- ---- what a mark tells

mark_found : {X Y : Type 0} (name : X → Y) (same : Y → Bool) (test : Y → Bool) (y : Y) (rows : List X) (o : Option ℕ) → ((x : Y) → same x ≡ true → y ≡ x) → position (λ x. same (name x)) rows ≡ o → (o ≡ None → test y ≡ false)
    → mark_at (map (λ x. test (name x)) rows) o ≡ test y
mark_found name same test y rows None one at none = sym (none refl)
mark_found name same test y [] (Some i) one at none = absurd (true≢false (sym (ap is_some at)))
mark_found name same test y (x ∷ xs) (Some i) one at none =
    let found = position-Some (λ z. same (name z)) (x ∷ xs) i x at in
    get_or-map (λ z. test (name z)) (x ∷ xs) i x false found.0 ∙ ap test (sym (one (name (get_or (x ∷ xs) i x)) found.1))

module _ (entries : List Entry) (legal : IsLegalPool entries) where
  abbrev s : State
  s = state_of entries

  pub claim_mark : (key : Key) → mark_at (frozen_in s) (position (λ (c : ClaimFact). same_key key c.key) (claim_facts s.ledger)) ≡ is_in_cut s.open_round key
  claim_mark key =
      mark_found (λ (c : ClaimFact). c.key) (same_key key) (is_in_cut s.open_round) key (claim_facts s.ledger) _ (key_is key) refl (λ none.
      unfiled s key (knows _ legal) (sym (filed_some s.ledger key) ∙ ap is_some (sym (claim_found entries key legal) ∙ sym (find_no_place (λ (c : ClaimFact). same_key key c.key) (claim_facts s.ledger) none))))

  pub account_mark : (firm : List ℕ) → mark_at (parties_in s) (position (λ (a : AccountFact). same_name firm a.firm) (account_facts s.ledger)) ≡ is_party s.open_round firm
  account_mark firm =
      mark_found (λ (a : AccountFact). a.firm) (same_name firm) (is_party s.open_round) firm (account_facts s.ledger) _ (name_is firm) refl (λ none.
      unregistered s firm (knows _ legal) (sym (registered_some s.ledger firm) ∙ ap is_some (sym (account_found s.ledger firm) ∙ sym (find_no_place (λ (a : AccountFact). same_name firm a.firm) (account_facts s.ledger) none))))

pub held_by : (o : Option OpenRound) (firm : List ℕ) → (is_funded_round o && is_party o firm) ≡ is_held o firm
held_by None firm = refl
held_by (Some round) firm = refl
