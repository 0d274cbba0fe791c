-- The facts of a legal history of valid acts, and its cut.
use Rattle.std.specs.Prelude.{◌≢◌, map, find, reverse, Option, Some, ℤ, pos, neg_ℤ, ◌+ℤ◌, ◌-ℤ◌}
use Rattle.std.specs.Int.{int_min}
use Rattle.std.specs.List.{list_any}
use Rattle.std.specs.Option.{option_map}
use Rattle.std.proofs.Common.{◌≡◌, ℕ, ◌+◌, ◌≤◌, Bool, true, false, cond, ◌||◌, List, [], ◌∷◌, slice_index_or, All, refl, sym, ◌∙◌, ap, ap₂, subst, true≢false, arith}
use Rattle.std.proofs.lemmas.Bool.{or_right}
use Rattle.std.proofs.lemmas.Int.{ints}
use Rattle.std.proofs.lemmas.List.{length-map, length-reverse, reverse-append}
use Rattle.std.proofs.lemmas.List.Folds.{flat_map-map, list_any-append}
use Rattle.std.proofs.lemmas.List.Elements.{All-head, All-tail, All-map, All-filter}
use Rattle.setoff_model.proofs.Lists.{filter-map, find-map, list_any-map}
use Rattle.setoff_model.specs.declared.limits.TheConstants.{MOST_AMOUNT}
use Rattle.setoff_model.specs.declared.name.Key.{Key}
use Rattle.setoff_model.specs.declared.kind.Kind.{Kind}
use Rattle.setoff_model.specs.declared.cut.Party.{Party}
use Rattle.setoff_model.specs.declared.cut.CutClaim.{CutClaim}
use Rattle.setoff_model.specs.CutView.{CutView, WellFormed}
use Rattle.setoff_model.specs.Sums.{above_zero}
use Rattle.setoff_model.specs.Same.{same_name, same_key}
use Rattle.claim_history.specs.declared.entry.Entry.{Entry}
use Rattle.claim_history.specs.declared.fact.ClaimFact.{ClaimFact}
use Rattle.claim_history.specs.declared.fact.AccountFact.{AccountFact}
use Rattle.claim_history.specs.Acts.{is_valid}
use Rattle.claim_history.specs.Facts.{Ledger, Filing, firms, filings, filing_of, amount_of, left_of, part_of, gained, spent, balance_of, limits_of, offer_of, claim_fact, claim_facts, account_fact, account_facts}
use Rattle.claim_history.specs.Cut.{distinct, is_due, due_claims, firms_of, party_of, cut_claim, cut_of}
use Rattle.claim_history.specs.States.{state_of}
use Rattle.claim_history.specs.History.{IsLegalPool, AreValidEntries}
use Rattle.claim_history.specs.Laws.{KeepAmounts}
use Rattle.claim_history.proofs.Rows.{name_is}
use Rattle.claim_history.proofs.Formulas.{formulas_law}
use Rattle.claim_history.proofs.Histories.{limits_law}
use Rattle.setoff_model.specs.Windows.{Window}
use Rattle.setoff_model.proofs.Windowed.{window_by_balance, window_law}
use Rattle.setoff_model.proofs.SumsBounded.{above_zero_is}
use Rattle.round_cut.specs.Windows.{KeepsLimits, window_of, WindowsLaw}
use Rattle.round_cut.specs.CutOfFacts.{takes_part, claims_due, firms_in, window_or_none, window_in, party_in, claim_among, parties_in, claims_in, cut_of_facts, has_account, IsClaimOf, AreFacts}
use Rattle.round_cut.specs.CutLaw.{BuiltCutLaw, FactsLaw, FormedLaw}
use Rattle.round_cut.proofs.Growth.{two_names, map_same}
use Rattle.round_cut.proofs.Pairs.{pairs_map, pairs_reverse}
use Rattle.claim_history.proofs.Pasts.{all_reverse}
use Rattle.round_cut.proofs.Formed.{firms_all, formed}
use Rattle.claim_history.proofs.Registered.{IsFiling, IsRegister, IsOrderly, orderly}

-- ---- windows

-- a balance is its part above 0 less its part below
parts_make : (z : ℤ) → pos (above_zero z) -ℤ pos (above_zero (neg_ℤ z)) ≡ z
parts_make z = omega (arith, ints, above_zero_is z, above_zero_is (neg_ℤ z))

pub windows_law : WindowsLaw
windows_law a keeps =
    let whole = parts_make a.balance in
    let low : above_zero (neg_ℤ a.balance) ≤ above_zero a.balance + a.credit = omega (arith, ints, whole, keeps.balance.0) in
    let high : above_zero a.balance ≤ a.ceiling + above_zero (neg_ℤ a.balance) = omega (arith, ints, whole, keeps.balance.1) in
    let law = window_law (above_zero a.balance) (above_zero (neg_ℤ a.balance)) a.credit a.ceiling a.offer low high in (
      law.0 ∙ ap (λ (z : ℤ). int_min (pos a.offer) (z +ℤ pos a.credit)) whole,
      law.1 ∙ ap (λ (z : ℤ). pos a.ceiling -ℤ z) whole,
    )

-- ---- accounts

swapped : (b before after : Bool) → before ≡ after → (before || (b || false)) ≡ (b || after)
swapped true before after e = or_right before true refl
swapped false true after e = e
swapped false false after e = e

any_reverse : {X : Type 0} (p : X → Bool) (xs : List X) → list_any p (reverse xs) ≡ list_any p xs
any_reverse p [] = refl
any_reverse p (x ∷ xs) =
    ap (list_any p) (reverse-append (x ∷ []) xs) ∙ list_any-append p (reverse xs) (x ∷ []) ∙ swapped (p x) (list_any p (reverse xs)) (list_any p xs) (any_reverse p xs)

-- the firms of the accounts are the registered ones
accounts_are : (l : Ledger) (n : List ℕ) → has_account (account_facts l) n ≡ list_any (same_name n) (firms l)
accounts_are l n = list_any-map (λ (a : AccountFact). same_name n a.firm) (account_fact l) (reverse (firms l)) ∙ any_reverse (same_name n) (firms l)

name_step : (n x : List ℕ) (rest : Option (List ℕ)) (any b : Bool) → same_name n x ≡ b → (b || any) ≡ true → (any ≡ true → rest ≡ Some n) → cond b (Some x) rest ≡ Some n
name_step n x rest any true is e later = ap Some (sym (name_is n x is))
name_step n x rest any false is e later = later e

find_name : (n : List ℕ) (names : List (List ℕ)) → list_any (same_name n) names ≡ true → find (same_name n) names ≡ Some n
find_name n [] e = absurd (true≢false (sym e))
find_name n (x ∷ xs) e = name_step n x (find (same_name n) xs) (list_any (same_name n) xs) (same_name n x) refl e (find_name n xs)

-- the window of a registered firm is that of its account
window_is : (l : Ledger) (kind : Kind) (firm : List ℕ) → list_any (same_name firm) (firms l) ≡ true → window_in (account_facts l) kind firm ≡ window_of kind (account_fact l firm)
window_is l kind firm there =
    let q : AccountFact → Bool = λ a. same_name firm a.firm in
    ap (window_or_none kind) (find-map q (account_fact l) (reverse (firms l)) ∙ ap (option_map (account_fact l)) (find_name firm (reverse (firms l)) (any_reverse (same_name firm) (firms l) ∙ there)))

abbrev party : List ℕ → Window → Party
party firm w = record { firm = firm; spend = w.spend; room = w.room }

party_is : (l : Ledger) (kind : Kind) (firm : List ℕ) → party firm (window_of kind (account_fact l firm)) ≡ party_of l kind firm
party_is l kind firm =
    ap (party firm) (window_by_balance kind (balance_of l firm) (gained l firm) (spent l firm) (limits_of l firm).credit (limits_of l firm).ceiling (offer_of l firm) refl)

-- ---- claims

left_le : (l : Ledger) (key : Key) (m : ℕ) → amount_of (filing_of l key) ≤ m → left_of l key ≤ m
left_le l key m le = omega (arith, le)

amount_step : (b : Bool) (f : Filing) (rest : Option Filing) (m : ℕ) → f.amount ≤ m → amount_of rest ≤ m → amount_of (cond b (Some f) rest) ≤ m
amount_step true f rest m here later = here
amount_step false f rest m here later = later

found_amount : (p : Filing → Bool) (fs : List Filing) (m : ℕ) → All (λ (f : Filing). f.amount ≤ m) fs → amount_of (find p fs) ≤ m
found_amount p [] m all = omega arith
found_amount p (f ∷ fs) m all = amount_step (p f) f (find p fs) m (All-head (λ (g : Filing). g.amount ≤ m) f fs all) (found_amount p fs m (All-tail (λ (g : Filing). g.amount ≤ m) f fs all))

claim_is : (l : Ledger) (f : Filing) → IsFiling (firms l) f → left_of l f.key ≤ MOST_AMOUNT → part_of l f.key ≤ left_of l f.key → IsClaimOf (account_facts l) (claim_fact l f)
claim_is l f is left part = record { debtor = accounts_are l f.debtor ∙ is.debtor; creditor = accounts_are l f.key.creditor ∙ is.creditor; apart = is.apart; left = left; part = part }

no_filing : Filing
no_filing = record { key = record { creditor = []; invoice = [] }; debtor = []; amount = 0; due = 0 }

-- ---- the facts of a ledger

abbrev Limited : Ledger → Type 0
Limited l = (firm : List ℕ) → KeepsLimits (account_fact l firm)

facts_are : (l : Ledger) → IsRegister (firms l) (filings l) → Limited l → KeepAmounts l → AreFacts (claim_facts l) (account_facts l)
facts_are l is limited amounts =
    let claims = reverse (filings l) in
    let names = reverse (firms l) in
    let each : All (IsFiling (firms l)) claims = all_reverse (IsFiling (firms l)) (filings l) is.each in
    record {
      few_claims = omega (arith, length-map claims (claim_fact l), length-reverse (filings l), is.few_claims);
      few_accounts = omega (arith, length-map names (account_fact l), length-reverse (firms l), is.few_firms);
      keys = pairs_map (λ (c d : ClaimFact). c.key ≢ d.key) (claim_fact l) claims no_filing (pairs_reverse (λ (f g : Filing). f.key ≢ g.key) (λ f g apart e. apart (sym e)) (filings l) is.keys);
      firms = pairs_map (λ (a b : AccountFact). a.firm ≢ b.firm) (account_fact l) names [] (pairs_reverse (λ (f g : List ℕ). f ≢ g) (λ f g apart e. apart (sym e)) (firms l) is.firms);
      each_claim = All-map (IsClaimOf (account_facts l)) (claim_fact l) claims (λ k d lt.
          let f = slice_index_or claims k d in
          claim_is l f (each k d lt) (left_le l f.key MOST_AMOUNT (found_amount (λ g. same_key f.key g.key) (filings l) MOST_AMOUNT (λ i e within. (is.each i e within).amount))) (amounts f.key).1);
      each_account = All-map KeepsLimits (account_fact l) names (λ k d lt. limited (slice_index_or names k d));
    }

-- ---- the cut of a ledger

pub map-map : {X Y Z : Type 0} (g : Y → Z) (f : X → Y) (xs : List X) → map g (map f xs) ≡ map (λ x. g (f x)) xs
map-map g f [] = refl
map-map g f (x ∷ xs) = ap (λ zs. g (f x) ∷ zs) (map-map g f xs)

-- the claims that take part are the facts of those that are due
pub due_is : (l : Ledger) (horizon : ℕ) → claims_due horizon (claim_facts l) ≡ map (claim_fact l) (due_claims l horizon)
due_is l horizon = filter-map (takes_part horizon) (claim_fact l) (reverse (filings l))

firms_are : (l : Ledger) (fs : List Filing) → firms_in (map (claim_fact l) fs) ≡ firms_of fs
firms_are l fs = ap distinct (flat_map-map two_names (claim_fact l) fs)

parties_are : (l : Ledger) (kind : Kind) (fs : List Filing) → All (IsFiling (firms l)) fs → parties_in (account_facts l) kind (map (claim_fact l) fs) ≡ map (party_of l kind) (firms_of fs)
parties_are l kind fs each =
    let cs : List ClaimFact = map (claim_fact l) fs in
    let known : All (λ (n : List ℕ). list_any (same_name n) (firms l) ≡ true) (firms_in cs) =
    firms_all (λ n. list_any (same_name n) (firms l) ≡ true) cs
    (All-map (λ (c : ClaimFact). (list_any (same_name c.debtor) (firms l) ≡ true) × (list_any (same_name c.key.creditor) (firms l) ≡ true)) (claim_fact l) fs (λ k d lt. ((each k d lt).debtor, (each k d lt).creditor))) in
    map_same (party_in (account_facts l) kind) (party_of l kind) (firms_in cs) (λ k d lt.
    let firm = slice_index_or (firms_in cs) k d in
    ap (party firm) (window_is l kind firm (known k d lt)) ∙ party_is l kind firm)
    ∙ ap (map (party_of l kind)) (firms_are l fs)

claims_are : (l : Ledger) (fs : List Filing) → claims_in (map (claim_fact l) fs) ≡ map (cut_claim l (firms_of fs)) fs
claims_are l fs =
    ap (λ (names : List (List ℕ)). map (claim_among names) (map (claim_fact l) fs)) (firms_are l fs)
    ∙ map-map (claim_among (firms_of fs)) (claim_fact l) fs

abbrev cut_from : ℕ → Kind → List Party → List CutClaim → CutView
cut_from round kind parties claims = record { round = round; kind = kind; parties = parties; claims = claims }

cut_is : (l : Ledger) (round : ℕ) (kind : Kind) (horizon : ℕ) → All (IsFiling (firms l)) (filings l) → cut_of_facts round (claim_facts l) (account_facts l) kind horizon ≡ cut_of round l kind horizon
cut_is l round kind horizon each =
    let due = due_claims l horizon in
    let known : All (IsFiling (firms l)) due = All-filter (is_due l horizon) (IsFiling (firms l)) (reverse (filings l)) (all_reverse (IsFiling (firms l)) (filings l) each) in
    ap (λ (cs : List ClaimFact). cut_from round kind (parties_in (account_facts l) kind cs) (claims_in cs)) (due_is l horizon)
    ∙ ap₂ (cut_from round kind) (parties_are l kind due known) (claims_are l due)

-- ---- histories

history_orderly : (history : List Entry) → IsLegalPool history → AreValidEntries history → IsOrderly (state_of history)
history_orderly history legal valid = orderly (reverse history) legal (all_reverse (λ (e : Entry). is_valid e.act ≡ true) history valid)

limited : (history : List Entry) → IsLegalPool history → AreValidEntries history → Limited (state_of history).ledger
limited history legal valid firm = record {
  balance = (formulas_law.limits_kept (state_of history).ledger).0 (limits_law history legal).0 firm;
  credit = ((history_orderly history legal valid).1 firm).0;
  ceiling = ((history_orderly history legal valid).1 firm).1;
}

pub facts_law : FactsLaw
facts_law history legal valid = facts_are (state_of history).ledger (history_orderly history legal valid).0 (limited history legal valid) (limits_law history legal).1

pub cut_law : BuiltCutLaw
cut_law history round kind horizon legal valid = cut_is (state_of history).ledger round kind horizon (history_orderly history legal valid).0.each

pub formed_law : FormedLaw
formed_law history round kind horizon legal valid =
    subst WellFormed (cut_law history round kind horizon legal valid)
    (formed round (claim_facts (state_of history).ledger) (account_facts (state_of history).ledger) kind horizon (facts_law history legal valid))
