-- An entry that the register of a firm does not have leaves the position of the firm as it was.
use Rattle.std.specs.Prelude.{Option, Some, None, is_some, cond, filter, reverse, if◌then◌else◌, ℤ, pos, ◌-ℤ◌}
use Rattle.std.specs.Option.{option_map}
use Rattle.std.proofs.Common.{◌≡◌, ◌∙◌, ℕ, ◌+◌, ◌-◌, Bool, true, false, List, [], ◌∷◌, ◌++◌, get_or, All, sum_by, refl, sym, ap, ap₂, subst, true≢false, arith}
use Rattle.std.proofs.lemmas.Bool.{false_from_ne_true}
use Rattle.std.proofs.lemmas.List.{reverse-append, reverse-reverse}
use Rattle.std.proofs.lemmas.List.Elements.{All-nil, All-cons, All-head, All-tail}
use Rattle.std.proofs.lemmas.List.Sums.{sum_by-cons}
use Rattle.printed_text.specs.setoff_model.specs.declared.cut.CutClaim.{CutClaim}
use Rattle.printed_text.specs.setoff_model.specs.CutView.{CutView, OutcomeView, obligations}
use Rattle.printed_text.specs.setoff_model.specs.Setoff.{inflow, outflow}
use Rattle.printed_text.specs.setoff_model.specs.Same.{same_key, same_name}
use Rattle.printed_text.specs.claim_history.specs.declared.act.Act.{Act}
use Rattle.printed_text.specs.claim_history.specs.declared.act.Act.TheVariants as act
use Rattle.printed_text.specs.claim_history.specs.declared.entry.Entry.{Entry}
use Rattle.printed_text.specs.claim_history.specs.declared.entry.Reply.{Reply}
use Rattle.printed_text.specs.claim_history.specs.declared.entry.Reply.TheVariants as reply
use Rattle.printed_text.specs.claim_history.specs.Facts.{Filing, Ledger, Settled, agreed_of, at_place, balance_of, claim_place, discharge_of, discharged_by, discharged_to, filing_of, filings, flow_of, gained, is_confirmed, owed_of, paid, part_of, party_place, payable, position_of, receivable, spent, status_of}
use Rattle.printed_text.specs.claim_history.specs.States.{OpenRound, discharges_of, settle, state}
use Rattle.printed_text.specs.claim_history.specs.History.{IsLegalPoolPast}
use Rattle.printed_text.specs.claim_history.specs.Rounds.{open_cut}
use Rattle.printed_text.specs.claim_history.specs.Touched.{touches}
use Rattle.printed_text.specs.claim_history.proofs.Filed.{AreDistinct, IsCutOfFilings, IsFiledIn, is_at}
use Rattle.printed_text.specs.claim_history.proofs.Greatest.{reply_published}
use Rattle.printed_text.specs.claim_history.proofs.Net.{filed_open}
use Rattle.printed_text.specs.claim_history.proofs.Opening.{each_filed}
use Rattle.printed_text.specs.claim_history.proofs.Pasts.{entry_of}
use Rattle.printed_text.specs.claim_history.proofs.Rounds.{no_claim}
use Rattle.printed_text.specs.claim_history.proofs.Rows.{key_is}
use Rattle.printed_text.specs.claim_history.proofs.Touching.{touch_law}
use Rattle.printed_text.specs.claim_book.proofs.Known.{position_no}
use Rattle.journal_summaries.specs.Account.{is_listed, is_listed_by, is_party_of}

-- ---- a round of which the firm is no party

one_same : (b : Bool) (n o m k : ℕ) → (b ≡ true → n ≡ o) → m ≡ k → (if b then n else 0) + m ≡ (if b then o else 0) + k
one_same true n o m k here rest = omega (arith, here refl, rest)
one_same false n o m k here rest = omega (arith, rest)

first_in : (h : Filing → ℕ) (b : Bool) (f : Filing) (fs : List Filing) → sum_by h (cond b (f ∷ fs) fs) ≡ (if b then h f else 0) + sum_by h fs
first_in h true f fs = sum_by-cons h f fs
first_in h false f fs = omega arith

module _ (l : Ledger) (number : ℕ) (outcome : OutcomeView) (cut : CutView) (filed_in : IsCutOfFilings l cut) where
  abbrev new : Settled
  new = record { cut = cut; discharges = outcome.discharges }

  abbrev m : Ledger
  m = record { acts = act.Publish number outcome ∷ l.acts; rounds = new ∷ l.rounds }

  -- no claim of the cut passes the test
  abbrev NonePass : (Filing → Bool) → Type 0
  NonePass test = (c : CutClaim) (x : IsFiledIn l cut.parties c) → test x.filing ≡ false

  -- a filing that is found by its key
  abbrev IsFound : Filing → Type 0
  IsFound f = filing_of l f.key ≡ Some f

  module _ (test : Filing → Bool) (none : NonePass test) where
    -- so one that passes is no claim of the cut
    claim_apart : (f : Filing) → IsFound f → test f ≡ true → (c : CutClaim) → IsFiledIn l cut.parties c → same_key f.key c.key ≡ false
    claim_apart f found passes c x =
        false_from_ne_true (same_key f.key c.key)
        (λ same.
        let both : Some x.filing ≡ Some f = sym x.is ∙ ap (filing_of l) (sym (key_is f.key c.key same)) ∙ found in
        let one : x.filing ≡ f = cc both in
        true≢false (sym passes ∙ ap test (sym one) ∙ none c x))

    part_same : (f : Filing) → IsFound f → test f ≡ true → part_of m f.key ≡ part_of l f.key
    part_same f found passes =
        let nowhere : claim_place cut.claims f.key ≡ None =
        position_no (λ (c : CutClaim). same_key f.key c.key) cut.claims no_claim (λ k d lt. claim_apart f found passes (get_or cut.claims k d) (filed_in.each k d lt)) in
        let nothing : discharge_of f.key new ≡ 0 = ap (at_place outcome.discharges) nowhere in
        let same : paid m f.key ≡ paid l f.key = omega (arith, sum_by-cons (discharge_of f.key) new l.rounds, nothing) in
        ap (λ (n : ℕ). if is_confirmed (status_of l f.key) then agreed_of l f.key - n else 0) same

    owed_same : (fs : List Filing) → All IsFound fs → owed_of m test fs ≡ owed_of l test fs
    owed_same [] all = refl
    owed_same (f ∷ fs) all =
        first_in (λ g. part_of m g.key) (test f) f (filter test fs)
        ∙ one_same (test f) (part_of m f.key) (part_of l f.key) (owed_of m test fs) (owed_of l test fs) (part_same f (All-head IsFound f fs all)) (owed_same fs (All-tail IsFound f fs all))
        ∙ sym (first_in (λ g. part_of l g.key) (test f) f (filter test fs))

  -- the position of a firm that is no party
  position_same : (firm : List ℕ) → AreDistinct (filings l) → party_place cut.parties firm ≡ None → position_of m firm ≡ position_of l firm
  position_same firm distinct none =
      let each = each_filed (filings l) distinct in
      let owed : receivable m firm ≡ receivable l firm =
      owed_same (λ f. same_name firm f.key.creditor) (λ c x. x.creditor firm ∙ ap (is_at c.creditor) none) (filings l) each in
      let owes : payable m firm ≡ payable l firm =
      owed_same (λ f. same_name firm f.debtor) (λ c x. x.debtor firm ∙ ap (is_at c.debtor) none) (filings l) each in
      let to : discharged_to firm new ≡ 0 = ap (flow_of (inflow (obligations cut) outcome.discharges)) none in
      let by : discharged_by firm new ≡ 0 = ap (flow_of (outflow (obligations cut) outcome.discharges)) none in
      let gain : gained m firm ≡ gained l firm = omega (arith, sum_by-cons (discharged_to firm) new l.rounds, to) in
      let spend : spent m firm ≡ spent l firm = omega (arith, sum_by-cons (discharged_by firm) new l.rounds, by) in
      let balance : balance_of m firm ≡ balance_of l firm = ap₂ (λ (g s : ℕ). pos g -ℤ pos s) gain spend in
      ap (λ (z : ℤ). record (position_of m firm) { balance = z }) balance
      ∙ ap₂ (λ (r p : ℕ). record (position_of l firm) { receivable = r; payable = p }) owed owes

no_place : (o : Option ℕ) → is_some o ≡ false → o ≡ None
no_place None none = refl
no_place (Some p) none = absurd (true≢false none)

-- a publication of such a round
published_same : (firm : List ℕ) (caller : ℕ) (a : Act) (total : ℕ) (past : List Entry) → IsLegalPoolPast (entry_of caller a (reply.Published total) ∷ past)
    → is_party_of (open_cut past) firm ≡ false → position_of (state (entry_of caller a (reply.Published total) ∷ past)).ledger firm ≡ position_of (state past).ledger firm
published_same firm caller a total past legal apart =
    let s = state past in
    let p = reply_published s _ caller a (reply.Published total) total legal.0 refl in
    let filed = filed_open past legal.1 in
    let party : is_party_of (Some p.round.cut) firm ≡ false =
    sym (ap (λ (o : Option OpenRound). is_party_of (option_map (λ round. round.cut) o) firm) p.was_open) ∙ apart in
    ap₂ (λ (o : Option OpenRound) (b : Act). position_of (record { acts = b ∷ s.ledger.acts; rounds = settle o (discharges_of b) s.ledger.rounds }) firm) p.was_open p.asks
    ∙ position_same s.ledger p.round.cut.round p.outcome p.round.cut (filed.1 p.round p.was_open) firm filed.0 (no_place (party_place p.round.cut.parties firm) party)

-- ---- other entries

pub turned : (e : Entry) (past : List Entry) → reverse (reverse past ++ e ∷ []) ≡ e ∷ past
turned e past = reverse-append (reverse past) (e ∷ []) ∙ ap (λ (es : List Entry). e ∷ es) (reverse-reverse past)

untouched_same : (firm : List ℕ) (e : Entry) (past : List Entry) → IsLegalPoolPast (e ∷ past) → touches (state (e ∷ past)).ledger firm e ≡ false
    → position_of (state (e ∷ past)).ledger firm ≡ position_of (state past).ledger firm
untouched_same firm e past legal none =
    let longer = turned e past in
    let Leaves : Entry → Type 0 = λ x. touches (state (reverse (reverse past ++ e ∷ []))).ledger firm x ≡ false in
    let here : Leaves e = subst (λ (p : List Entry). touches (state p).ledger firm e ≡ false) (sym longer) none in
    let stays = touch_law (reverse past) (e ∷ []) firm (subst IsLegalPoolPast (sym longer) legal) (All-cons Leaves e [] here (All-nil Leaves)) in
    sym (ap (λ (p : List Entry). position_of (state p).ledger firm) longer) ∙ stays.position
    ∙ ap (λ (p : List Entry). position_of (state p).ledger firm) (reverse-reverse past)

unlisted_by : (firm : List ℕ) (caller : ℕ) (a : Act) (r : Reply) (past : List Entry) → IsLegalPoolPast (entry_of caller a r ∷ past)
    → is_listed_by firm (open_cut past) (state (entry_of caller a r ∷ past)).ledger a r ≡ false
    → position_of (state (entry_of caller a r ∷ past)).ledger firm ≡ position_of (state past).ledger firm
unlisted_by firm caller a (reply.Published total) past legal none = published_same firm caller a total past legal none
unlisted_by firm caller a r past legal none = untouched_same firm (entry_of caller a r) past legal none

-- ---- all

pub unlisted_same : (firm : List ℕ) (e : Entry) (past : List Entry) → IsLegalPoolPast (e ∷ past) → is_listed firm (open_cut past) (state (e ∷ past)).ledger e ≡ false
    → position_of (state (e ∷ past)).ledger firm ≡ position_of (state past).ledger firm
unlisted_same firm e past legal none = unlisted_by firm e.caller e.act e.reply past legal none
