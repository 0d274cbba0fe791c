-- The weights of the claims of a cut.
use Rattle.std.proofs.Common.{◌≡◌, ◌∙◌, ℕ, zero, suc, ◌-◌, ◌/◌, ◌<◌, ◌≤◌, List, [], ◌∷◌, length, map, ap, ap₂, subst, sym, arith}
use Rattle.std.specs.Prelude.{min, slice_index}
use Rattle.std.proofs.lemmas.List.{length-map}
use Rattle.setoff_model.specs.declared.limits.TheConstants.{MOST_WEIGHT}
use Rattle.setoff_model.specs.declared.kind.Kind.{Kind}
use Rattle.setoff_model.specs.CutView.{CutView, OutcomeView, obligations}
use Rattle.setoff_model.specs.Weighted.{AreWeights, ProvesWeighted}
use Rattle.setoff_model.proofs.Columns.{claims_long}
use Rattle.printed_text.specs.claim_history.specs.declared.entry.Entry.{Entry}
use Rattle.printed_text.specs.claim_history.specs.declared.fact.AccountFact.{AccountFact}
use Rattle.printed_text.specs.claim_history.specs.declared.fact.ClaimFact.{ClaimFact}
use Rattle.printed_text.specs.claim_history.specs.Facts.{Filing, Ledger, account_facts, claim_fact, claim_facts}
use Rattle.printed_text.specs.claim_history.specs.History.{AreValidEntries, IsLegalPool}
use Rattle.printed_text.specs.claim_history.specs.Cut.{cut_claim, due_claims, firms_of}
use Rattle.printed_text.specs.claim_book.specs.Book.{ledger_of}
use Rattle.printed_text.specs.round_cut.specs.CutLaw.{BuiltCutLaw}
use Rattle.printed_text.specs.round_cut.specs.CutOfFacts.{claims_due, cut_of_facts}
use Rattle.printed_text.specs.round_cut.proofs.History.{due_is, map-map}
use Rattle.weighed_round.specs.Weighed.{IsWeighedText, cut_by, weighed_text, weight_at, weights_of}

-- the weights by the facts are those by the filings
pub weights_are : (l : Ledger) (today : ℕ) → map (λ (c : ClaimFact). weight_at today c.due) (claims_due today (claim_facts l)) ≡ weights_of l today
weights_are l today =
    ap (λ (cs : List ClaimFact). map (λ (c : ClaimFact). weight_at today c.due) cs) (due_is l today)
    ∙ map-map (λ (c : ClaimFact). weight_at today c.due) (claim_fact l) (due_claims l today)

-- there is one for each claim of the cut
pub weight_each : (l : Ledger) (kind : Kind) (today : ℕ) → length (weights_of l today) ≡ length (cut_by l kind today).claims
weight_each l kind today = length-map (due_claims l today) (λ (f : Filing). weight_at today f.due) ∙ sym (length-map (due_claims l today) (cut_claim l (firms_of (due_claims l today))))

weight_some : (today due : ℕ) → 1 ≤ weight_at today due
weight_some today due = omega arith

min_at_most : (n : ℕ) → min 8 n ≤ 8
min_at_most n = omega arith

weight_limit : (today due : ℕ) → weight_at today due ≤ MOST_WEIGHT
weight_limit today due = omega (arith, min_at_most ((today - due) / 30))

-- what holds of each weight holds of each place of the list
each_weight : (P : ℕ → Type 0) (today : ℕ) → ((due : ℕ) → P (weight_at today due)) → (fs : List Filing) (c : ℕ) → c < length fs → P (slice_index (map (λ (f : Filing). weight_at today f.due) fs) c)
each_weight P today holds [] c lt = absurd (omega (arith, lt))
each_weight P today holds (f ∷ fs) zero lt = holds f.due
each_weight P today holds (f ∷ fs) (suc c) lt = each_weight P today holds fs c (omega (arith, lt))

pub are_weights : (l : Ledger) (kind : Kind) (today : ℕ) → AreWeights (obligations (cut_by l kind today)) (weights_of l today)
are_weights l kind today =
    let cut = cut_by l kind today in
    let long : length (weights_of l today) ≡ length (obligations cut).amounts = weight_each l kind today ∙ sym (claims_long cut) in
    let due : length (weights_of l today) ≡ length (due_claims l today) = length-map (due_claims l today) (λ (f : Filing). weight_at today f.due) in
    record {
      one_each = long;
      some = λ c lt. each_weight (λ n. 1 ≤ n) today (weight_some today) (due_claims l today) c (omega (arith, lt, long, due));
      limit = λ c lt. each_weight (λ n. n ≤ MOST_WEIGHT) today (weight_limit today) (due_claims l today) c (omega (arith, lt, long, due));
    }

-- ---- the cut and the text

pub cut_is : BuiltCutLaw → (history : List Entry) → IsLegalPool history → AreValidEntries history → (kind : Kind) (today : ℕ) (claims : List ClaimFact) (accounts : List AccountFact) (cut : CutView)
    → claims ≡ claim_facts (ledger_of history) → accounts ≡ account_facts (ledger_of history) → cut ≡ cut_of_facts 0 claims accounts kind today → cut ≡ cut_by (ledger_of history) kind today
cut_is law history legal valid kind today claims accounts cut of_claims of_accounts made =
    made ∙ ap₂ (λ (c : List ClaimFact) (a : List AccountFact). cut_of_facts 0 c a kind today) of_claims of_accounts ∙ law history 0 kind today legal valid

pub weights_is : (l : Ledger) (today : ℕ) (claims : List ClaimFact) (weights : List ℕ) → claims ≡ claim_facts l → weights ≡ map (λ (c : ClaimFact). weight_at today c.due) (claims_due today claims) → weights ≡ weights_of l today
weights_is l today claims weights cs made = made ∙ ap (λ (c : List ClaimFact). map (λ (c : ClaimFact). weight_at today c.due) (claims_due today c)) cs ∙ weights_are l today

pub weights_fit : (l : Ledger) (kind : Kind) (today : ℕ) (cut : CutView) (weights : List ℕ) → cut ≡ cut_by l kind today → weights ≡ weights_of l today → AreWeights (obligations cut) weights
weights_fit l kind today cut weights same are =
    subst (λ (k : CutView). AreWeights (obligations k) weights) (sym same) (subst (AreWeights (obligations (cut_by l kind today))) (sym are) (are_weights l kind today))

pub text_is : (l : Ledger) (kind : Kind) (today : ℕ) (cut : CutView) (weights : List ℕ) (outcome : OutcomeView) (text : List ℕ) → cut ≡ cut_by l kind today → weights ≡ weights_of l today
    → ProvesWeighted (obligations cut) weights outcome.discharges outcome.prices → text ≡ weighed_text cut weights outcome → IsWeighedText kind today l text
text_is l kind today cut weights outcome text same are proves said = record {
  outcome = outcome;
  proves = subst (λ (ws : List ℕ). ProvesWeighted (obligations (cut_by l kind today)) ws outcome.discharges outcome.prices) are (subst (λ (k : CutView). ProvesWeighted (obligations k) weights outcome.discharges outcome.prices) same proves);
  text_is = said ∙ ap₂ (λ (k : CutView) (ws : List ℕ). weighed_text k ws outcome) same are;
}
