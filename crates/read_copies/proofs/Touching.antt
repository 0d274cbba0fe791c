-- Changes of the firms that entries touch settle all rows.
use Rattle.std.specs.Prelude.{option_map, All, Option, Some, None, if◌then◌else◌}
use Rattle.std.specs.List.{list_any}
use Rattle.std.proofs.Common.{◌≡◌, ℕ, ◌+◌, ◌<◌, Bool, true, false, ◌||◌, List, [], ◌∷◌, ◌++◌, length, take, drop, get_or, refl, sym, ◌∙◌, ap, subst, inr, ⊎_elim, true≢false}
use Rattle.std.proofs.lemmas.Bool.{or_cases, or_parts}
use Rattle.std.proofs.lemmas.List.{take_more}
use Rattle.std.proofs.lemmas.List.Elements.{All-nil, All-cons}
use Rattle.std.proofs.lemmas.List.Folds.{list_any-append}
use mathlib.Core.List.{IsPrefix}
use Rattle.setoff_model.specs.declared.name.Key.{Key}
use Rattle.setoff_model.specs.Same.{same_name}
use Rattle.claim_history.specs.declared.entry.Entry.{Entry}
use Rattle.claim_history.specs.declared.fact.AccountFact.{AccountFact}
use Rattle.claim_history.specs.declared.fact.Position.{Position}
use Rattle.claim_history.specs.declared.fact.ClaimFact.{ClaimFact}
use Rattle.claim_history.specs.Facts.{Filing, Ledger, filing_of, claim_fact, is_registered, account_fact, position_of}
use Rattle.claim_history.specs.History.{IsLegalPool}
use Rattle.claim_history.specs.Touched.{is_debtor_of, is_side_of, touches, Stays, TouchLaw}
use Rattle.claim_book.specs.Book.{ledger_of, claim_in}
use Rattle.read_copies.specs.declared.row.Row.{Row}
use Rattle.read_copies.specs.Rows.{row_in, HasRows, IsSettled, HasAdded, AreSettled, AreAllSettled}
use Rattle.read_copies.proofs.Beginnings.{prefix_rest}

-- ---- the two firms of a claim

then_added : {l : Ledger} {rows first old new : List Row} → HasAdded l rows first old → HasAdded l rows old new → HasAdded l rows first new
then_added one next = record { each = λ h. next.each (one.each h); kept = λ firm h. next.kept firm (one.kept firm h) }

pub no_claim_settled : (l : Ledger) (rows old new : List Row) (key : Key) (claim : Option ClaimFact) → claim ≡ claim_in l key → ((c : ClaimFact) → claim ≡ Some c → ⊥) → AreSettled l rows (λ f. same_name f key.creditor) old new
    → AreSettled l rows (λ firm. is_side_of l firm key) old new
no_claim_settled l rows old new key claim is none creditor = record {
  added = creditor.added;
  each = λ firm side known.
      ⊎_elim (λ same. creditor.each firm same known) (λ owes. absurd (by firm (filing_of l key) (λ c h. none c (is ∙ h)) owes))
      (or_cases (same_name firm key.creditor) (is_debtor_of firm (filing_of l key)) side);
}
  where
    by : (firm : List ℕ) (o : Option Filing) → ((c : ClaimFact) → option_map (claim_fact l) o ≡ Some c → ⊥) → is_debtor_of firm o ≡ true → ⊥
    by firm None none owes = true≢false (sym owes)
    by firm (Some f) none owes = none (claim_fact l f) refl

debtor_is : (l : Ledger) (o : Option Filing) (claim : ClaimFact) (firm : List ℕ) → option_map (claim_fact l) o ≡ Some claim → is_debtor_of firm o ≡ true → same_name firm claim.debtor ≡ true
debtor_is l None claim firm is owes = absurd (true≢false (sym owes))
debtor_is l (Some f) claim firm is owes =
    let same : f.debtor ≡ claim.debtor = cc is in
    ap (same_name firm) (sym same) ∙ owes

pub sides_settled : (l : Ledger) (rows first old new : List Row) (key : Key) (claim : ClaimFact) → claim_in l key ≡ Some claim → AreSettled l rows (λ f. same_name f key.creditor) first old
    → AreSettled l rows (λ f. same_name f claim.debtor) old new → AreSettled l rows (λ firm. is_side_of l firm key) first new
sides_settled l rows first old new key claim is creditor debtor = record {
  added = then_added creditor.added debtor.added;
  each = λ firm side known.
      ⊎_elim (λ same. debtor.added.kept firm (creditor.each firm same known)) (λ owes. debtor.each firm (debtor_is l (filing_of l key) claim firm is owes) known)
      (or_cases (same_name firm key.creditor) (is_debtor_of firm (filing_of l key)) side);
}

-- ---- entries, one after the other

abbrev pub is_touched : Ledger → List Entry → List ℕ → Bool
is_touched l entries firm = list_any (touches l firm) entries

pub touched_next : (l : Ledger) (rows first old new : List Row) (entries : List Entry) (i : ℕ) (e : Entry) → i < length entries → e ≡ get_or entries i e
    → AreSettled l rows (is_touched l (take i entries)) first old → AreSettled l rows (λ firm. touches l firm e) old new → AreSettled l rows (is_touched l (take (i + 1) entries)) first new
touched_next l rows first old new entries i e lt is done more = record {
  added = then_added done.added more.added;
  each = λ firm any known.
      let parts : (is_touched l (take i entries) firm || is_touched l (e ∷ []) firm) ≡ true =
      sym (list_any-append (touches l firm) (take i entries) (e ∷ []))
      ∙ ap (λ (x : Entry). is_touched l (take i entries ++ x ∷ []) firm) is
      ∙ ap (λ (xs : List Entry). is_touched l xs firm) (sym (take_more entries i e lt))
      ∙ any in
      ⊎_elim (λ before. more.added.kept firm (done.each firm before known)) (λ now. more.each firm (only (touches l firm e) now) known)
      (or_cases (is_touched l (take i entries) firm) (is_touched l (e ∷ []) firm) parts);
}
  where
    only : (b : Bool) → (b || false) ≡ true → b ≡ true
    only true e = refl
    only false e = e

-- ---- the whole

none_touched : (l : Ledger) (firm : List ℕ) (entries : List Entry) → is_touched l entries firm ≡ false → All (λ e. touches l firm e ≡ false) entries
none_touched l firm [] none = All-nil (λ e. touches l firm e ≡ false)
none_touched l firm (e ∷ entries) none =
    let parts = or_parts (touches l firm e) (is_touched l entries firm) none in
    All-cons (λ x. touches l firm x ≡ false) e entries parts.0 (none_touched l firm entries parts.1)

abbrev row_if : Bool → AccountFact → Position → Option Row
row_if b account position = if b then Some (record { account = account; position = position }) else None

row_stays : (old l : Ledger) (firm : List ℕ) → Stays old l firm → row_in old firm ≡ row_in l firm
row_stays old l firm stays =
    let registered = ap (λ (b : Bool). row_if b (account_fact old firm) (position_of old firm)) (sym stays.registered) in
    let account = ap (λ (a : AccountFact). row_if (is_registered l firm) a (position_of old firm)) (sym stays.account) in
    let position = ap (λ (p : Position). row_if (is_registered l firm) (account_fact l firm) p) (sym stays.position) in
    registered ∙ (account ∙ position)

-- where the firms that later entries touch are settled, all are
pub all_settled : TouchLaw → (old all : List Entry) (shown : ℕ) (rows changes : List Row) → IsPrefix old all → shown ≡ length old → IsLegalPool all → HasRows (ledger_of old) rows
    → AreSettled (ledger_of all) rows (is_touched (ledger_of all) (drop shown all)) [] changes → AreAllSettled (ledger_of all) rows [] changes
all_settled law old all shown rows changes begins is legal has settled = record {
  added = settled.added;
  each = λ firm passes known. by firm known (is_touched (ledger_of all) (drop shown all) firm) refl;
}
  where
    parts : old ++ drop shown all ≡ all
    parts = ap (λ (n : ℕ). old ++ drop n all) is ∙ prefix_rest old all begins

    by : (firm : List ℕ) → is_registered (ledger_of all) firm ≡ true → (b : Bool) → is_touched (ledger_of all) (drop shown all) firm ≡ b → IsSettled (ledger_of all) rows changes firm
    by firm known true e = settled.each firm e known
    by firm known false e =
        let stays : Stays (ledger_of old) (ledger_of (old ++ drop shown all)) firm =
        law old (drop shown all) firm (subst IsLegalPool (sym parts) legal)
        (subst (λ (h : List Entry). All (λ x. touches (ledger_of h) firm x ≡ false) (drop shown all)) (sym parts) (none_touched (ledger_of all) firm (drop shown all) e)) in
        inr (has firm ∙ row_stays (ledger_of old) (ledger_of all) firm (subst (λ (h : List Entry). Stays (ledger_of old) (ledger_of h) firm) parts stays))
