-- A firm that no later entry touches stays as it is.
use Rattle.std.specs.Prelude.{reverse, filter, filter_map, sum, Some, None, is_some, cond, ℤ, pos, ◌-ℤ◌, if◌then◌else◌}
use Rattle.std.specs.List.{cons_option}
use Rattle.std.proofs.Common.{◌≡◌, ℕ, ◌+◌, Bool, true, false, ◌||◌, List, [], ◌∷◌, ◌++◌, All, sum_by, refl, sym, ◌∙◌, ap, ap₂, subst, true≢false, arith}
use Rattle.std.proofs.lemmas.Bool.{or_parts, false_from_ne_true}
use Rattle.std.proofs.lemmas.List.Elements.{All-head, All-tail, All-weaker}
use Rattle.std.proofs.lemmas.List.Sums.{sum_by-cons}
use Rattle.std.proofs.lemmas.List.{reverse-append}
use Rattle.setoff_model.specs.declared.limits.TheConstants.{FIRST_CEILING}
use Rattle.setoff_model.specs.declared.name.Key.{Key}
use Rattle.setoff_model.specs.Same.{same_name, same_key}
use Rattle.setoff_model.proofs.SameNames.{key_same}
use Rattle.claim_history.specs.declared.act.Act.{Act}
use Rattle.claim_history.specs.declared.act.Act.TheVariants as act
use Rattle.claim_history.specs.declared.entry.Reply.{Reply}
use Rattle.claim_history.specs.declared.entry.Reply.TheVariants as reply
use Rattle.claim_history.specs.declared.entry.Entry.{Entry}
use Rattle.claim_history.specs.declared.fact.Limits.{Limits}
use Rattle.claim_history.specs.Facts.{Filing, Ledger, filings, filing_of, is_registered, account_fact, position_of, owed_of, receivable, payable, part_of, gained_by, spent_by, gained, spent, discharged_to, discharged_by, balance_of, limits_by, limits_of, offered_by, offer_of, first_or}
use Rattle.claim_history.specs.States.{State, after, open_as, state, with_act}
use Rattle.claim_history.specs.History.{IsLegalPoolPast}
use Rattle.claim_history.specs.Touched.{is_debtor_of, is_side_of, is_of_firm, touches, touches_by, Stays, TouchLaw}
use Rattle.claim_history.proofs.Pasts.{all_reverse}
use Rattle.claim_history.proofs.Rows.{key_is, key_other}
use Rattle.claim_history.proofs.Steps.{LeavesOthers, file_leaves, confirm_leaves, dispute_leaves, withdraw_leaves, receive_leaves}
use Rattle.claim_history.proofs.Filed.{AreDistinct}
use Rattle.claim_history.proofs.Opening.{each_filed, none_alike}
use Rattle.claim_history.proofs.Net.{filed_open, new_filed}

-- ---- what firms are owed

-- the filing counts alike by both ledgers, where it passes the test
abbrev CountsAlike : Ledger → Ledger → (Filing → Bool) → Filing → Type 0
CountsAlike l m test f = test f ≡ true → part_of m f.key ≡ part_of l f.key

first_in : (h : Filing → ℕ) (b : Bool) (x : Filing) (xs : List Filing) → sum_by h (cond b (x ∷ xs) xs) ≡ (if b then h x else 0) + sum_by h xs
first_in h true x xs = sum_by-cons h x xs
first_in h false x xs = omega arith

one_alike : (b : Bool) (n o : ℕ) → (b ≡ true → n ≡ o) → (if b then n else 0) ≡ (if b then o else 0)
one_alike true n o alike = alike refl
one_alike false n o alike = refl

owed_alike : (l m : Ledger) (test : Filing → Bool) (fs : List Filing) → All (CountsAlike l m test) fs → owed_of m test fs ≡ owed_of l test fs
owed_alike l m test [] all = refl
owed_alike l m test (f ∷ fs) all =
    omega (
      arith,
      first_in (λ g. part_of m g.key) (test f) f (filter test fs),
      first_in (λ g. part_of l g.key) (test f) f (filter test fs),
      one_alike (test f) (part_of m f.key) (part_of l f.key) (All-head (CountsAlike l m test) f fs all),
      owed_alike l m test fs (All-tail (CountsAlike l m test) f fs all),
    )

-- ---- a claim of another firm

-- the filings of the shorter history are found in the longer one
abbrev Keeps : Ledger → Ledger → Type 0
Keeps l m = (k : Key) (f : Filing) → filing_of l k ≡ Some f → filing_of m k ≡ Some f

-- the firm is creditor, or debtor, of no filing with the key of a claim of others
other_creditor : (l : Ledger) (firm : List ℕ) (key : Key) (f : Filing) → is_side_of l firm key ≡ false → same_name firm f.key.creditor ≡ true → same_key f.key key ≡ false
other_creditor l firm key f apart mine =
    false_from_ne_true (same_key f.key key)
    (λ same. true≢false (sym mine ∙ ap (λ (k : Key). same_name firm k.creditor) (key_is f.key key same) ∙ (or_parts (same_name firm key.creditor) (is_debtor_of firm (filing_of l key)) apart).0))

other_debtor : (l : Ledger) (firm : List ℕ) (key : Key) (f : Filing) → filing_of l f.key ≡ Some f → is_side_of l firm key ≡ false → same_name firm f.debtor ≡ true → same_key f.key key ≡ false
other_debtor l firm key f found apart mine =
    false_from_ne_true (same_key f.key key)
    (λ same.
    true≢false (sym mine ∙ sym (ap (is_debtor_of firm) (sym (ap (filing_of l) (key_is f.key key same)) ∙ found)) ∙ (or_parts (same_name firm key.creditor) (is_debtor_of firm (filing_of l key)) apart).1))

-- where another key's claims stand as before, the firm's sums are as before
module _ (l m last : Ledger) (firm : List ℕ) (key : Key)
    (distinct : AreDistinct (filings l)) (keeps : Keeps l last) (apart : is_side_of last firm key ≡ false)
    (others : LeavesOthers l m key) where
  receivable_alike : owed_of m (λ f. same_name firm f.key.creditor) (filings l) ≡ receivable l firm
  receivable_alike =
      owed_alike l m (λ f. same_name firm f.key.creditor) (filings l)
      (All-weaker (λ (f : Filing). filing_of l f.key ≡ Some f) (CountsAlike l m (λ f. same_name firm f.key.creditor)) (λ f found mine. (others f.key (other_creditor last firm key f apart mine)).1) (filings l) (each_filed (filings l) distinct))

  payable_alike : owed_of m (λ f. same_name firm f.debtor) (filings l) ≡ payable l firm
  payable_alike =
      owed_alike l m (λ f. same_name firm f.debtor) (filings l)
      (All-weaker (λ (f : Filing). filing_of l f.key ≡ Some f) (CountsAlike l m (λ f. same_name firm f.debtor)) (λ f found mine. (others f.key (other_debtor last firm key f (keeps f.key f found) apart mine)).1) (filings l) (each_filed (filings l) distinct))

-- ---- one more act

skipped : {X : Type 0} (b : Bool) (x : X) (xs : List X) → b ≡ false → cons_option (if b then Some x else None) xs ≡ xs
skipped true x xs e = absurd (true≢false e)
skipped false x xs e = refl

-- a balance that is as before, where all else is
same_balance : (l m : Ledger) (firm : List ℕ) → gained m firm ≡ gained l firm → spent m firm ≡ spent l firm → balance_of m firm ≡ balance_of l firm
same_balance l m firm gain spend = ap₂ (λ (g s : ℕ). pos g -ℤ pos s) gain spend

fund_stays : (l : Ledger) (firm other : List ℕ) (amount : ℕ) → same_name firm other ≡ false → Stays l (with_act (act.Fund other amount) l) firm
fund_stays l firm other amount e =
    let gain : gained (with_act (act.Fund other amount) l) firm ≡ gained l firm =
    ap (λ (xs : List ℕ). sum xs + sum_by (discharged_to firm) l.rounds) (skipped (same_name firm other) amount (filter_map (gained_by firm) l.acts) e) in
    let balance = same_balance l (with_act (act.Fund other amount) l) firm gain refl in
    record {
      registered = refl;
      account = ap (λ (z : ℤ). record (account_fact l firm) { balance = z }) balance;
      position = ap (λ (z : ℤ). record (position_of l firm) { balance = z }) balance;
    }

draw_stays : (l : Ledger) (firm other : List ℕ) (amount : ℕ) → same_name firm other ≡ false → Stays l (with_act (act.Draw other amount) l) firm
draw_stays l firm other amount e =
    let spend : spent (with_act (act.Draw other amount) l) firm ≡ spent l firm =
    ap (λ (xs : List ℕ). sum xs + sum_by (discharged_by firm) l.rounds) (skipped (same_name firm other) amount (filter_map (spent_by firm) l.acts) e) in
    let balance = same_balance l (with_act (act.Draw other amount) l) firm refl spend in
    record {
      registered = refl;
      account = ap (λ (z : ℤ). record (account_fact l firm) { balance = z }) balance;
      position = ap (λ (z : ℤ). record (position_of l firm) { balance = z }) balance;
    }

limit_stays : (l : Ledger) (firm other : List ℕ) (credit ceiling : ℕ) → same_name firm other ≡ false → Stays l (with_act (act.Limit other credit ceiling) l) firm
limit_stays l firm other credit ceiling e =
    let limits : limits_of (with_act (act.Limit other credit ceiling) l) firm ≡ limits_of l firm =
    ap (first_or (record { credit = 0; ceiling = FIRST_CEILING }))
    (skipped (same_name firm other) (record { credit = credit; ceiling = ceiling }) (filter_map (limits_by firm) l.acts) e) in
    record {
      registered = refl;
      account = ap (λ (x : Limits). record (account_fact l firm) { credit = x.credit; ceiling = x.ceiling }) limits;
      position = refl;
    }

offer_stays : (l : Ledger) (firm other : List ℕ) (amount : ℕ) → same_name firm other ≡ false → Stays l (with_act (act.Offer other amount) l) firm
offer_stays l firm other amount e =
    let offer : offer_of (with_act (act.Offer other amount) l) firm ≡ offer_of l firm =
    ap (first_or 0) (skipped (same_name firm other) amount (filter_map (offered_by firm) l.acts) e) in
    record { registered = refl; account = ap (λ (n : ℕ). record (account_fact l firm) { offer = n }) offer; position = refl }

-- new sums of a firm
new_position : (l : Ledger) (firm : List ℕ) (r p : ℕ) → r ≡ receivable l firm → p ≡ payable l firm → record (position_of l firm) { receivable = r; payable = p } ≡ position_of l firm
new_position l firm r p owed owes = ap₂ (λ (r p : ℕ). record (position_of l firm) { receivable = r; payable = p }) owed owes

-- an act on one claim leaves the position of a firm that is no side of it
claim_stays : (l m last : Ledger) (firm : List ℕ) (key : Key) → AreDistinct (filings l) → Keeps l last → is_side_of last firm key ≡ false → LeavesOthers l m key
    → record (position_of l firm) { receivable = owed_of m (λ f. same_name firm f.key.creditor) (filings l); payable = owed_of m (λ f. same_name firm f.debtor) (filings l) } ≡ position_of l firm
claim_stays l m last firm key distinct keeps apart others =
    new_position l firm (owed_of m (λ f. same_name firm f.key.creditor) (filings l)) (owed_of m (λ f. same_name firm f.debtor) (filings l))
    (receivable_alike l m last firm key distinct keeps apart others) (payable_alike l m last firm key distinct keeps apart others)

unlike : {X : Type 0} (b : Bool) (x : X) (xs : List X) → b ≡ false → cond b (x ∷ xs) xs ≡ xs
unlike true x xs e = absurd (true≢false e)
unlike false x xs e = refl

-- a new filing that fails the test
owed_new : (l m : Ledger) (test : Filing → Bool) (new : Filing) → test new ≡ false → All (CountsAlike l m test) (filings l) → owed_of m test (new ∷ filings l) ≡ owed_of l test (filings l)
owed_new l m test new fails all =
    ap (sum_by (λ (f : Filing). part_of m f.key)) (unlike (test new) new (filter test (filings l)) fails) ∙ owed_alike l m test (filings l) all

module _ (l last : Ledger) (firm : List ℕ) (key : Key) (debtor : List ℕ) (amount due : ℕ) where
  abbrev m : Ledger
  m = with_act (act.File key debtor amount due) l

  abbrev new : Filing
  new = record { key = key; debtor = debtor; amount = amount; due = due }

  -- the older filings count as before
  older : (test : Filing → Bool) → is_some (filing_of l key) ≡ false → All (CountsAlike l m test) (filings l)
  older test none =
      All-weaker (λ (f : Filing). same_key key f.key ≡ false) (CountsAlike l m test)
      (λ f other passes. (file_leaves l key debtor amount due f.key (key_other key f.key other)).1)
      (filings l) (none_alike key (filings l) none)

  file_stays : AreDistinct (filings m) → Keeps m last → is_side_of last firm key ≡ false → Stays l m firm
  file_stays distinct keeps apart =
      let parts = or_parts (same_name firm key.creditor) (is_debtor_of firm (filing_of last key)) apart in
      let here : filing_of m key ≡ Some new = ap (λ (b : Bool). cond b (Some new) (filing_of l key)) (key_same key) in
      let no_debtor : same_name firm debtor ≡ false = sym (ap (is_debtor_of firm) (keeps key new here)) ∙ parts.1 in
      record {
        registered = refl;
        account = refl;
        position = new_position l firm (receivable m firm) (payable m firm)
            (owed_new l m (λ f. same_name firm f.key.creditor) new parts.0 (older (λ f. same_name firm f.key.creditor) distinct.0))
            (owed_new l m (λ f. same_name firm f.debtor) new no_debtor (older (λ f. same_name firm f.debtor) distinct.0));
      }

unchanged : (l : Ledger) (firm : List ℕ) → Stays l l firm
unchanged l firm = record { registered = refl; account = refl; position = refl }

stays_with : (l : Ledger) (a : Act) (last : Ledger) (firm : List ℕ) → AreDistinct (filings (with_act a l)) → Keeps (with_act a l) last → is_of_firm last firm a ≡ false → Stays l (with_act a l) firm
stays_with l (act.Firm other) last firm distinct keeps e = record { registered = ap (λ (b : Bool). b || is_registered l firm) e; account = refl; position = refl }
stays_with l (act.File key debtor amount due) last firm distinct keeps e = file_stays l last firm key debtor amount due distinct keeps e
stays_with l (act.Confirm key debtor agreed) last firm distinct keeps e = record {
  registered = refl;
  account = refl;
  position = claim_stays l (with_act (act.Confirm key debtor agreed) l) last firm key distinct keeps e (confirm_leaves l key debtor agreed);
}
stays_with l (act.Dispute key debtor) last firm distinct keeps e = record {
  registered = refl;
  account = refl;
  position = claim_stays l (with_act (act.Dispute key debtor) l) last firm key distinct keeps e (dispute_leaves l key debtor);
}
stays_with l (act.Withdraw key) last firm distinct keeps e = record {
  registered = refl;
  account = refl;
  position = claim_stays l (with_act (act.Withdraw key) l) last firm key distinct keeps e (withdraw_leaves l key);
}
stays_with l (act.Receive key amount) last firm distinct keeps e = record {
  registered = refl;
  account = refl;
  position = claim_stays l (with_act (act.Receive key amount) l) last firm key distinct keeps e (receive_leaves l key amount);
}
stays_with l (act.Fund other amount) last firm distinct keeps e = fund_stays l firm other amount e
stays_with l (act.Draw other amount) last firm distinct keeps e = draw_stays l firm other amount e
stays_with l (act.Limit other credit ceiling) last firm distinct keeps e = limit_stays l firm other credit ceiling e
stays_with l (act.Offer other amount) last firm distinct keeps e = offer_stays l firm other amount e
stays_with l (act.Position other) last firm distinct keeps e = record { registered = refl; account = refl; position = refl }
stays_with l (act.Close kind horizon) last firm distinct keeps e = record { registered = refl; account = refl; position = refl }
stays_with l (act.Abandon) last firm distinct keeps e = record { registered = refl; account = refl; position = refl }
stays_with l (act.Publish round outcome) last firm distinct keeps e = record { registered = refl; account = refl; position = refl }

-- ---- one more entry

kept_with : (l : Ledger) (a : Act) → AreDistinct (filings (with_act a l)) → Keeps l (with_act a l)
kept_with l (act.File key debtor amount due) distinct k f found =
    new_filed (same_key k key) (record { key = key; debtor = debtor; amount = amount; due = due }) (filing_of l k) f (λ same. ap (λ (x : Key). is_some (filing_of l x)) (key_is k key same) ∙ distinct.0) found
kept_with l a distinct k f found = found

kept_opened : (caller : ℕ) (a : Act) (s : State) → AreDistinct (filings (open_as caller a s).ledger) → Keeps s.ledger (open_as caller a s).ledger
kept_opened caller (act.Close kind horizon) s distinct = kept_with s.ledger (act.Close kind horizon) distinct
kept_opened caller a s distinct = kept_with s.ledger a distinct

kept_after : (s : State) (caller : ℕ) (a : Act) (r : Reply) → AreDistinct (filings (after caller a r s).ledger) → Keeps s.ledger (after caller a r s).ledger
kept_after s caller a (reply.Refused w) distinct = λ k f found. found
kept_after s caller a (reply.Opened round) distinct = kept_opened caller a s distinct
kept_after s caller a (reply.Published total) distinct = kept_with s.ledger a distinct
kept_after s caller a r distinct = kept_with s.ledger a distinct

opened_stays : (caller : ℕ) (a : Act) (s : State) (last : Ledger) (firm : List ℕ) → AreDistinct (filings (open_as caller a s).ledger) → Keeps (open_as caller a s).ledger last → is_of_firm last firm a ≡ false → Stays s.ledger (open_as caller a s).ledger firm
opened_stays caller (act.Close kind horizon) s last firm distinct keeps e = stays_with s.ledger (act.Close kind horizon) last firm distinct keeps e
opened_stays caller a s last firm distinct keeps e = stays_with s.ledger a last firm distinct keeps e

stays_after : (s : State) (caller : ℕ) (a : Act) (r : Reply) (last : Ledger) (firm : List ℕ) → AreDistinct (filings (after caller a r s).ledger) → Keeps (after caller a r s).ledger last → touches_by last firm a r ≡ false → Stays s.ledger (after caller a r s).ledger firm
stays_after s caller a (reply.Refused w) last firm distinct keeps e = unchanged s.ledger firm
stays_after s caller a (reply.Published total) last firm distinct keeps e = absurd (true≢false e)
stays_after s caller a (reply.Opened round) last firm distinct keeps e = opened_stays caller a s last firm distinct keeps e
stays_after s caller a r last firm distinct keeps e = stays_with s.ledger a last firm distinct keeps e

-- ---- more entries

stays_past : (last : Ledger) (firm : List ℕ) (more past : List Entry) → IsLegalPoolPast (more ++ past) → Keeps (state (more ++ past)).ledger last → All (λ e. touches last firm e ≡ false) more → Stays (state past).ledger (state (more ++ past)).ledger firm
stays_past last firm [] past legal keeps none = unchanged (state past).ledger firm
stays_past last firm (e ∷ more) past legal keeps none =
    let before = state (more ++ past) in
    let distinct = (filed_open (e ∷ more ++ past) legal).0 in
    let earlier = stays_past last firm more past legal.1 (λ k f found. keeps k f (kept_after before e.caller e.act e.reply distinct k f found)) (All-tail (λ x. touches last firm x ≡ false) e more none) in
    let now = stays_after before e.caller e.act e.reply last firm distinct keeps (All-head (λ x. touches last firm x ≡ false) e more none) in
    record { registered = now.registered ∙ earlier.registered; account = now.account ∙ earlier.account; position = now.position ∙ earlier.position }

pub touch_law : TouchLaw
touch_law history later firm legal none =
    let last = (state (reverse (history ++ later))).ledger in
    let parts = reverse-append history later in
    subst (λ (past : List Entry). Stays (state (reverse history)).ledger (state past).ledger firm) (sym parts)
    (stays_past last firm (reverse later) (reverse history) (subst IsLegalPoolPast parts legal) (subst (λ (past : List Entry). Keeps (state past).ledger last) parts (λ k f found. found))
    (all_reverse (λ e. touches last firm e ≡ false) later none))
