-- Drafts with one more line.
use Rattle.std.specs.Prelude.{◌≢◌, All, Option, Some, None, is_some, ℤ, unsigned_abs}
use Rattle.std.proofs.Common.{◌≡◌, ℕ, ◌<◌, ◌≤◌, ◌^◌, true, false, List, [], ◌∷◌, ◌++◌, length, get_or, refl, sym, ap, subst, ◌∙◌, arith}
use Rattle.std.proofs.lemmas.List.{map-append, length_push, length-map, nil_from_length}
use Rattle.std.proofs.lemmas.List.Elements.{All-nil, All-push, All-same, All-map}
use Rattle.std.proofs.lemmas.List.Quantifiers.{all_pairs_push}
use Rattle.setoff_model.specs.declared.limits.TheConstants.{SUM_LIMIT, MOST_AMOUNT, MOST_CLAIMS, MOST_FIRMS}
use Rattle.setoff_model.specs.declared.name.Key.{Key}
use Rattle.setoff_model.specs.declared.cut.Party.{Party}
use Rattle.setoff_model.specs.declared.cut.CutClaim.{CutClaim}
use Rattle.setoff_model.specs.Names.{is_name}
use Rattle.setoff_model.specs.CutView.{IsClaimAmong, IsWindowOf}
use Rattle.statement_text.specs.Statements.{CanBeStated, firm_at}
use Rattle.statement_text.specs.Drafts.{Drafted, with_party, with_claim, MayBeParty, MayBeClaim, IsClaimOf, IsDraft}
use Rattle.statement_text.proofs.Same.{IsPlaceIn}
use Rattle.statement_text.proofs.Places.{no_party, firm_is, from_map, same_place}

pub party_stated : (d : Drafted) (f : Party) (price : ℤ) → CanBeStated d.cut d.outcome → MayBeParty d f → is_name f.firm ≡ true → unsigned_abs price < 10 ^ 9
    → CanBeStated (with_party d f price).cut (with_party d f price).outcome
party_stated d f price s may named small = record {
  well_formed = record {
    few_parties = omega (arith, length_push d.cut.parties f, may.few);
    few_claims = s.well_formed.few_claims;
    firms = all_pairs_push (λ g h. g.firm ≢ h.firm) d.cut.parties f s.well_formed.firms may.new;
    keys = s.well_formed.keys;
    claims = All-same (IsClaimAmong (d.cut.parties ++ f ∷ [])) d.cut.claims [] may.first (All-nil _);
    windows = All-push (IsWindowOf d.cut.kind) d.cut.parties f s.well_formed.windows may.window;
  };
  round_from = s.round_from;
  round_below = s.round_below;
  firms = All-push (λ g. is_name g.firm ≡ true) d.cut.parties f s.firms named;
  invoices = s.invoices;
  price_each = omega (arith, length_push d.cut.parties f, length_push d.outcome.prices price, s.price_each);
  discharge_each = s.discharge_each;
  prices = All-push (λ p. unsigned_abs p < 10 ^ 9) d.outcome.prices price s.prices small;
  discharges = s.discharges;
}

pub claim_stated : (d : Drafted) (c : CutClaim) (discharge : ℕ) → CanBeStated d.cut d.outcome → MayBeClaim d c → is_name c.key.invoice ≡ true → discharge < SUM_LIMIT
    → CanBeStated (with_claim d c discharge).cut (with_claim d c discharge).outcome
claim_stated d c discharge s may named small = record {
  well_formed = record {
    few_parties = s.well_formed.few_parties;
    few_claims = omega (arith, length_push d.cut.claims c, may.few);
    firms = s.well_formed.firms;
    keys = all_pairs_push (λ a b. a.key ≢ b.key) d.cut.claims c s.well_formed.keys may.new;
    claims = All-push (IsClaimAmong d.cut.parties) d.cut.claims c s.well_formed.claims may.among;
    windows = s.well_formed.windows;
  };
  round_from = s.round_from;
  round_below = s.round_below;
  firms = s.firms;
  invoices = All-push (λ b. is_name b.key.invoice ≡ true) d.cut.claims c s.invoices named;
  price_each = s.price_each;
  discharge_each = omega (arith, length_push d.cut.claims c, length_push d.outcome.discharges discharge, s.discharge_each);
  prices = s.prices;
  discharges = All-push (λ x. x < SUM_LIMIT) d.outcome.discharges discharge s.discharges small;
}

pub party_kept : (firms more : List (List ℕ)) (keys : List Key) (d : Drafted) (f : Party) (price : ℤ) → IsDraft firms keys d.cut d.outcome → MayBeParty d f → is_name f.firm ≡ true → unsigned_abs price < 10 ^ 9
    → more ≡ firms ++ f.firm ∷ [] → IsDraft more keys (with_party d f price).cut (with_party d f price).outcome
party_kept firms more keys d f price i may named small e = record {
  stated = party_stated d f price i.stated may named small;
  firms_are = e ∙ ap (λ (fs : List (List ℕ)). fs ++ f.firm ∷ []) i.firms_are ∙ sym (map-append (λ (g : Party). g.firm) d.cut.parties (f ∷ []));
  keys_are = i.keys_are;
}

pub claim_kept : (firms : List (List ℕ)) (keys more : List Key) (d : Drafted) (c : CutClaim) (discharge : ℕ) → IsDraft firms keys d.cut d.outcome → MayBeClaim d c → is_name c.key.invoice ≡ true → discharge < SUM_LIMIT
    → more ≡ keys ++ c.key ∷ [] → IsDraft firms more (with_claim d c discharge).cut (with_claim d c discharge).outcome
claim_kept firms keys more d c discharge i may named small e = record {
  stated = claim_stated d c discharge i.stated may named small;
  firms_are = i.firms_are;
  keys_are = e ∙ ap (λ (ks : List Key). ks ++ c.key ∷ []) i.keys_are ∙ sym (map-append (λ (b : CutClaim). b.key) d.cut.claims (c ∷ []));
}

-- ---- what may stand next

pub is_new : {X : Type 0} (xs : List X) (x : X) (r : Option ℕ) → IsPlaceIn xs x r → is_some r ≡ false → All (λ y. y ≢ x) xs
is_new xs x None h e = h
is_new xs x (Some p) h e = absurd cc

pub was_there : {X : Type 0} (xs : List X) (x : X) (r : Option ℕ) → IsPlaceIn xs x r → is_some r ≡ true → All (λ y. y ≢ x) xs → ⊥
was_there xs x None h e new = absurd cc
was_there xs x (Some p) h e new = new p x h.0 (h.1 x)

pub may_be_party : (firms : List (List ℕ)) (keys : List Key) (d : Drafted) (f : Party) (r : Option ℕ) → IsDraft firms keys d.cut d.outcome → length d.cut.claims ≡ 0 → length d.cut.parties < MOST_FIRMS
    → IsPlaceIn firms f.firm r → is_some r ≡ false → IsWindowOf d.cut.kind f → MayBeParty d f
may_be_party firms keys d f r i first few place e window = record {
  first = nil_from_length d.cut.claims first;
  few = few;
  new = from_map (λ g. g ≢ f.firm) (λ (g : Party). g.firm) d.cut.parties (subst (All (λ g. g ≢ f.firm)) i.firms_are (is_new firms f.firm r place e));
  window = window;
}

pub firm_new : (firms : List (List ℕ)) (keys : List Key) (d : Drafted) (f : Party) → IsDraft firms keys d.cut d.outcome → MayBeParty d f → All (λ g. g ≢ f.firm) firms
firm_new firms keys d f i may = subst (All (λ g. g ≢ f.firm)) (sym i.firms_are) (All-map (λ g. g ≢ f.firm) (λ (g : Party). g.firm) d.cut.parties may.new)

pub key_new : (firms : List (List ℕ)) (keys : List Key) (d : Drafted) (c : CutClaim) → IsDraft firms keys d.cut d.outcome → MayBeClaim d c → All (λ k. k ≢ c.key) keys
key_new firms keys d c i may = subst (All (λ k. k ≢ c.key)) (sym i.keys_are) (All-map (λ k. k ≢ c.key) (λ (b : CutClaim). b.key) d.cut.claims may.new)

pub repeat_refused : (firms : List (List ℕ)) (keys : List Key) (d : Drafted) (f : Party) (r : Option ℕ) → IsDraft firms keys d.cut d.outcome
    → IsPlaceIn firms f.firm r → is_some r ≡ true → MayBeParty d f → ⊥
repeat_refused firms keys d f r i place e may =
    was_there firms f.firm r place e (firm_new firms keys d f i may)

-- a claim's firms among the names
firms_of : (firms : List (List ℕ)) (keys : List Key) (d : Drafted) → IsDraft firms keys d.cut d.outcome → (p : ℕ) → p < length firms → (p < length d.cut.parties) × (firm_at d.cut.parties p ≡ get_or firms p [])
firms_of firms keys d i p lt =
    (omega (arith, ap length i.firms_are, length-map d.cut.parties (λ (g : Party). g.firm)), ap (λ (fs : List (List ℕ)). get_or fs p []) (sym i.firms_are))

abbrev claim_of : Key → ℕ → ℕ → ℕ → CutClaim
claim_of key debtor creditor amount = record { key = key; debtor = debtor; creditor = creditor; amount = amount }

pub may_be_claim : (firms : List (List ℕ)) (keys : List Key) (d : Drafted) (key : Key) (debtor : List ℕ) (amount p q : ℕ) → IsDraft firms keys d.cut d.outcome → length d.cut.claims < MOST_CLAIMS
    → All (λ k. k ≢ key) keys → (q < length firms) × ((e : List ℕ) → get_or firms q e ≡ key.creditor) → (p < length firms) × ((e : List ℕ) → get_or firms p e ≡ debtor) → p ≢ q → 1 ≤ amount → amount ≤ MOST_AMOUNT
    → MayBeClaim d (claim_of key p q amount) × IsClaimOf d.cut.parties key debtor amount (claim_of key p q amount)
may_be_claim firms keys d key debtor amount p q i few new creditor_at debtor_at apart some small =
    let creditor = firms_of firms keys d i q creditor_at.0 in
    let owing = firms_of firms keys d i p debtor_at.0 in (
      record {
        few = few;
        new = from_map (λ k. k ≢ key) (λ (c : CutClaim). c.key) d.cut.claims (subst (All (λ k. k ≢ key)) i.keys_are new);
        among = record {
          debtor = owing.0;
          creditor = creditor.0;
          apart = apart;
          named = λ none. sym (firm_is d.cut.parties q none creditor.0) ∙ creditor.1 ∙ creditor_at.1 [];
          some = some;
          limit = omega arith;
        };
      },
      record { key_is = refl; debtor_is = owing.1 ∙ debtor_at.1 []; amount_is = refl },
    )

pub key_refused : (firms : List (List ℕ)) (keys : List Key) (d : Drafted) (key : Key) (debtor : List ℕ) (amount : ℕ) → IsDraft firms keys d.cut d.outcome → (All (λ k. k ≢ key) keys → ⊥)
    → (c : CutClaim) → MayBeClaim d c → IsClaimOf d.cut.parties key debtor amount c → ⊥
key_refused firms keys d key debtor amount i old c may is =
    old (subst (λ (k : Key). All (λ a. a ≢ k) keys) is.key_is (key_new firms keys d c i may))

-- the creditor of a claim is among the firms
creditor_is : (d : Drafted) (key : Key) (debtor : List ℕ) (amount : ℕ) (c : CutClaim) → MayBeClaim d c → IsClaimOf d.cut.parties key debtor amount c → firm_at d.cut.parties c.creditor ≡ key.creditor
creditor_is d key debtor amount c may is =
    firm_is d.cut.parties c.creditor no_party may.among.creditor ∙ may.among.named no_party ∙ ap (λ (k : Key). k.creditor) is.key_is

is_among : (firms : List (List ℕ)) (keys : List Key) (d : Drafted) (firm : List ℕ) (p : ℕ) → IsDraft firms keys d.cut d.outcome → All (λ f. f ≢ firm) firms → p < length d.cut.parties → firm_at d.cut.parties p ≡ firm → ⊥
is_among firms keys d firm p i none lt e =
    let long : p < length firms = omega (arith, ap length i.firms_are, length-map d.cut.parties (λ (g : Party). g.firm)) in
    none p [] long (ap (λ (fs : List (List ℕ)). get_or fs p []) i.firms_are ∙ e)

pub creditor_refused : (firms : List (List ℕ)) (keys : List Key) (d : Drafted) (key : Key) (debtor : List ℕ) (amount : ℕ) → IsDraft firms keys d.cut d.outcome → All (λ f. f ≢ key.creditor) firms
    → (c : CutClaim) → MayBeClaim d c → IsClaimOf d.cut.parties key debtor amount c → ⊥
creditor_refused firms keys d key debtor amount i none c may is = is_among firms keys d key.creditor c.creditor i none may.among.creditor (creditor_is d key debtor amount c may is)

pub debtor_refused : (firms : List (List ℕ)) (keys : List Key) (d : Drafted) (key : Key) (debtor : List ℕ) (amount : ℕ) → IsDraft firms keys d.cut d.outcome → All (λ f. f ≢ debtor) firms
    → (c : CutClaim) → MayBeClaim d c → IsClaimOf d.cut.parties key debtor amount c → ⊥
debtor_refused firms keys d key debtor amount i none c may is = is_among firms keys d debtor c.debtor i none may.among.debtor is.debtor_is

pub same_refused : (firms : List (List ℕ)) (keys : List Key) (d : Drafted) (key : Key) (debtor : List ℕ) (amount p q : ℕ) → IsDraft firms keys d.cut d.outcome → ((e : List ℕ) → get_or firms q e ≡ key.creditor)
    → ((e : List ℕ) → get_or firms p e ≡ debtor) → p ≡ q → (c : CutClaim) → MayBeClaim d c → IsClaimOf d.cut.parties key debtor amount c → ⊥
same_refused firms keys d key debtor amount p q i creditor_at debtor_at same c may is =
    let one : key.creditor ≡ debtor = sym (creditor_at []) ∙ ap (λ (k : ℕ). get_or firms k []) (sym same) ∙ debtor_at [] in
    may.among.apart (same_place d.cut.parties c.debtor c.creditor i.stated.well_formed.firms may.among.debtor may.among.creditor (is.debtor_is ∙ sym one ∙ sym (creditor_is d key debtor amount c may is)))
