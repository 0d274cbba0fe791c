-- The cut of facts is well formed.
use Rattle.std.specs.Prelude.{map, filter, flat_map, find, nat_le, Option, Some, None, IfSome, pos, negsuc, ℤ, neg_ℤ, ◌≤ℤ◌}
use Rattle.std.specs.List.{list_any, position_or_len}
use Rattle.std.proofs.Common.{◌≡◌, ◌≢◌, ℕ, ◌<◌, ◌≤◌, Bool, true, false, not, ◌||◌, List, [], ◌∷◌, length, get_or, slice_index_or, All, AllPairs, refl, sym, ◌∙◌, ap, true≢false, arith}
use Rattle.std.proofs.lemmas.Bool.{leb-true, false≢true, and_parts}
use Rattle.std.proofs.lemmas.Int.{ints, clamps}
use Rattle.std.proofs.lemmas.List.{get_or-map, length-map}
use Rattle.std.proofs.lemmas.List.Sums.{passes_at_first, length-filter, count_by-le-length}
use Rattle.std.proofs.lemmas.List.Filters.{length-filter_both}
use Rattle.std.proofs.lemmas.List.Kept.{AllPairs-filter}
use Rattle.std.proofs.lemmas.List.Elements.{All-nil, All-cons, All-head, All-tail, All-map, All-filter, filter_passes}
use Rattle.setoff_model.proofs.Lists.{any_within}
use Rattle.setoff_model.specs.declared.kind.Kind.{Kind}
use Rattle.setoff_model.specs.declared.kind.Kind.TheVariants.{Plain, Funded}
use Rattle.setoff_model.specs.declared.cut.Party.{Party}
use Rattle.setoff_model.specs.declared.cut.CutClaim.{CutClaim}
use Rattle.setoff_model.specs.CutView.{WellFormed, IsClaimAmong, IsWindowOf, window_limit}
use Rattle.setoff_model.specs.Sums.{above_zero}
use Rattle.setoff_model.specs.Same.{same_name}
use Rattle.claim_history.specs.declared.fact.Status.TheVariants as status
use Rattle.claim_history.specs.declared.fact.ClaimFact.{ClaimFact}
use Rattle.claim_history.specs.declared.fact.AccountFact.{AccountFact}
use Rattle.claim_history.specs.Cut.{distinct}
use Rattle.claim_history.specs.Laws.{IsWithin}
use Rattle.claim_history.proofs.Rows.{name_is}
use Rattle.claim_history.proofs.Bounds.{Differ, all_differ}
use Rattle.setoff_model.specs.Windows.{Window}
use Rattle.claim_history.proofs.Rounds.{no_key}
use Rattle.round_cut.specs.Windows.{KeepsLimits, window_of}
use Rattle.round_cut.specs.CutOfFacts.{takes_part, claims_due, firms_in, window_or_none, party_in, claim_among, cut_of_facts, has_account, IsClaimOf, AreFacts}
use Rattle.round_cut.proofs.Growth.{two_names, AreAmong, all_among}
use Rattle.round_cut.proofs.Pairs.{pairs_map, at_most_one, All-flat_map, found_all}

-- ---- windows

above_zero_le : (z : ℤ) (m : ℕ) → z ≤ℤ pos m → above_zero z ≤ m
above_zero_le (pos n) m h = omega (arith, ints, h)
above_zero_le (negsuc n) m h = omega arith

abbrev IsSmall : Kind → Window → Type 0
IsSmall kind w = (w.spend ≤ window_limit kind) × (w.room ≤ window_limit kind)

down_le : (b : ℤ) (credit ceiling : ℕ) → IsWithin credit ceiling b → neg_ℤ b ≤ℤ pos credit
down_le b credit ceiling within = omega (arith, ints, clamps, within.0)

window_small : (kind : Kind) (a : AccountFact) → KeepsLimits a → IsSmall kind (window_of kind a)
window_small Plain a keeps = (omega arith, omega arith)
window_small Funded a keeps =
    let gained : above_zero a.balance ≤ a.ceiling = above_zero_le a.balance a.ceiling keeps.balance.1 in
    let spent : above_zero (neg_ℤ a.balance) ≤ a.credit = above_zero_le (neg_ℤ a.balance) a.credit (down_le a.balance a.credit a.ceiling keeps.balance) in
    (omega (arith, gained, keeps.credit, keeps.ceiling), omega (arith, spent, keeps.credit, keeps.ceiling))

found_small : (kind : Kind) (found : Option AccountFact) → IfSome found KeepsLimits → IsSmall kind (window_or_none kind found)
found_small kind None keeps = (omega arith, omega arith)
found_small kind (Some a) keeps = window_small kind a keeps

windows_small : (accounts : List AccountFact) (kind : Kind) (firms : List (List ℕ)) → All KeepsLimits accounts → All (IsWindowOf kind) (map (party_in accounts kind) firms)
windows_small accounts kind firms keep =
    All-map (IsWindowOf kind) (party_in accounts kind) firms (λ k d lt.
    let firm = slice_index_or firms k d in
    found_small kind (find (λ a. same_name firm a.firm) accounts) (found_all KeepsLimits (λ a. same_name firm a.firm) accounts keep))

-- ---- firms

pub distinct_all : (P : List ℕ → Type 0) (xs : List (List ℕ)) → All P xs → All P (distinct xs)
distinct_all P [] all = All-nil P
distinct_all P (x ∷ xs) all =
    All-cons P x (filter (λ y. not (same_name x y)) (distinct xs)) (All-head P x xs all)
    (All-filter (λ y. not (same_name x y)) P (distinct xs) (distinct_all P xs (All-tail P x xs all)))

-- what holds of the firms of each claim holds of all their firms
pub firms_all : (P : List ℕ → Type 0) (cs : List ClaimFact) → All (λ c. P c.debtor × P c.key.creditor) cs → All P (firms_in cs)
firms_all P cs all =
    distinct_all P (flat_map two_names cs)
    (All-flat_map P two_names cs (λ k d lt.
    let c = slice_index_or cs k d in
    let both = all k d lt in
    All-cons P c.debtor (c.key.creditor ∷ []) both.0 (All-cons P c.key.creditor [] both.1 (All-nil P))))

other_account : (a b : Bool) → (a || b) ≡ true → not a ≡ true → b ≡ true
other_account true b e no_more = absurd (true≢false (sym no_more))
other_account false b e no_more = e

-- as many names as accounts, at most
few_names : (accounts : List AccountFact) (names : List (List ℕ)) → AllPairs Differ names → All (λ n. has_account accounts n ≡ true) names → length names ≤ length accounts
few_names [] [] differ have = omega arith
few_names [] (n ∷ ns) differ have = absurd (false≢true (All-head (λ m. has_account [] m ≡ true) n ns have))
few_names (a ∷ accounts) names differ have =
    let mine : List ℕ → Bool = λ n. same_name n a.firm in
    let other : List ℕ → Bool = λ n. not (same_name n a.firm) in
    let one : length (filter mine names) ≤ 1 =
    at_most_one Differ (λ n. mine n ≡ true) [] (λ m n p q r. r (name_is m a.firm p ∙ sym (name_is n a.firm q))) (filter mine names) (AllPairs-filter Differ mine names differ) (filter_passes mine names) in
    let rest : length (filter other names) ≤ length accounts =
    few_names accounts (filter other names) (AllPairs-filter Differ other names differ) (λ k d lt.
    other_account (same_name (slice_index_or (filter other names) k d) a.firm) (has_account accounts (slice_index_or (filter other names) k d))
    (All-filter other (λ n. has_account (a ∷ accounts) n ≡ true) names have k d lt) (filter_passes other names k d lt)) in
    omega (arith, one, rest, length-filter_both mine other (λ n. refl) names)

-- ---- claims

firm_at : (accounts : List AccountFact) (kind : Kind) (firms : List (List ℕ)) (i : ℕ) (d : Party) → i < length firms → (slice_index_or (map (party_in accounts kind) firms) i d).firm ≡ get_or firms i []
firm_at accounts kind firms i d lt = ap (λ (p : Party). p.firm) (get_or-map (party_in accounts kind) firms i [] d lt)

-- what stands at the place of a name
name_at : (name : List ℕ) (firms : List (List ℕ)) → list_any (same_name name) firms ≡ true → get_or firms (position_or_len (same_name name) firms) [] ≡ name
name_at name firms e =
    let lt = any_within (same_name name) firms e in
    sym (name_is name (get_or firms (position_or_len (same_name name) firms) []) (passes_at_first (same_name name) firms [] lt))

some_part : (horizon : ℕ) (c : ClaimFact) → takes_part horizon c ≡ true → 1 ≤ c.part
some_part horizon c e = leb-true 1 c.part (and_parts (nat_le 1 c.part) (nat_le c.due horizon) e).0

claim_formed : (accounts : List AccountFact) (kind : Kind) (firms : List (List ℕ)) (c : ClaimFact) → AreAmong firms c → IsClaimOf accounts c → 1 ≤ c.part → IsClaimAmong (map (party_in accounts kind) firms) (claim_among firms c)
claim_formed accounts kind firms c among of some =
    let long : length (map (party_in accounts kind) firms) ≡ length firms = length-map firms (party_in accounts kind) in
    let by = any_within (same_name c.debtor) firms among.0 in
    let to = any_within (same_name c.key.creditor) firms among.1 in
    record {
      debtor = omega (arith, by, long);
      creditor = omega (arith, to, long);
      apart = λ e. of.apart (sym (name_at c.debtor firms among.0) ∙ ap (λ (i : ℕ). get_or firms i []) e ∙ name_at c.key.creditor firms among.1);
      named = λ none. firm_at accounts kind firms (position_or_len (same_name c.key.creditor) firms) none to ∙ name_at c.key.creditor firms among.1;
      some = some;
      limit = omega (arith, of.part, of.left);
    }

no_claim : ClaimFact
no_claim = record { key = no_key; debtor = []; status = status.Filed; amount = 0; left = 0; part = 0; due = 0 }

-- ---- the cut

pub formed : (round : ℕ) (claims : List ClaimFact) (accounts : List AccountFact) (kind : Kind) (horizon : ℕ) → AreFacts claims accounts → WellFormed (cut_of_facts round claims accounts kind horizon)
formed round claims accounts kind horizon facts =
    let due = claims_due horizon claims in
    let firms = firms_in due in
    let each : All (IsClaimOf accounts) due = All-filter (takes_part horizon) (IsClaimOf accounts) claims facts.each_claim in
    let have : All (λ n. has_account accounts n ≡ true) firms = firms_all (λ n. has_account accounts n ≡ true) due (λ k d lt. ((each k d lt).debtor, (each k d lt).creditor)) in
    let differ : AllPairs Differ firms = all_differ (flat_map two_names due) in
    record {
      few_parties = omega (arith, length-map firms (party_in accounts kind), few_names accounts firms differ have, facts.few_accounts);
      few_claims = omega (arith, length-map due (claim_among firms), length-filter (takes_part horizon) claims, count_by-le-length (takes_part horizon) claims, facts.few_claims);
      firms = pairs_map (λ (p q : Party). p.firm ≢ q.firm) (party_in accounts kind) firms [] differ;
      keys = pairs_map (λ (c d : CutClaim). c.key ≢ d.key) (claim_among firms) due no_claim (AllPairs-filter (λ (c d : ClaimFact). c.key ≢ d.key) (takes_part horizon) claims facts.keys);
      claims = All-map (IsClaimAmong (map (party_in accounts kind) firms)) (claim_among firms) due (λ k d lt.
          claim_formed accounts kind firms (slice_index_or due k d) (all_among due k d lt) (each k d lt) (some_part horizon (slice_index_or due k d) (filter_passes (takes_part horizon) claims k d lt)));
      windows = windows_small accounts kind firms facts.each_account;
    }
