-- The parties and the claims of a cut, with one more claim.
use Rattle.std.specs.Prelude.{map, flat_map, take, cond, if◌then◌else◌}
use Rattle.setoff_model.proofs.SameNames.{name_same}
use Rattle.std.specs.List.{list_any, position_or_len}
use Rattle.std.proofs.Common.{◌≡◌, ℕ, ◌+◌, ◌<◌, Bool, true, false, List, [], ◌∷◌, ◌++◌, length, get_or, slice_index_or, All, refl, sym, ◌∙◌, ap, ap₂}
use Rattle.std.proofs.lemmas.Bool.{or_right}
use Rattle.std.proofs.lemmas.List.{append_assoc, append-nil, map-append}
use Rattle.std.proofs.lemmas.List.Concat.{flat_map-append}
use Rattle.std.proofs.lemmas.List.Elements.{All-nil, All-cons, All-head, All-tail, All-weaker, filter_more}
use Rattle.setoff_model.proofs.Lists.{list_any-map, place_map}
use Rattle.setoff_model.specs.declared.kind.Kind.{Kind}
use Rattle.setoff_model.specs.declared.cut.Party.{Party}
use Rattle.setoff_model.specs.declared.cut.CutClaim.{CutClaim}
use Rattle.setoff_model.specs.Same.{same_name}
use Rattle.claim_history.specs.declared.fact.ClaimFact.{ClaimFact}
use Rattle.claim_history.specs.declared.fact.AccountFact.{AccountFact}
use Rattle.claim_history.specs.Cut.{distinct}
use Rattle.round_cut.specs.CutOfFacts.{takes_part, claims_due, firms_in, party_in, claim_among, parties_in, claims_in}
use Rattle.round_cut.specs.Growing.{is_party, with_party, with_parties_of, placed}
use Rattle.name_index.proofs.Places.{or_left, place_stays, any_stays}
use Rattle.claim_history.proofs.Opening.{any_distinct}
use Rattle.round_cut.proofs.Distinct.{with_name, distinct_push}

-- ---- the firms of claims are among their firms

abbrev pub two_names : ClaimFact → List (List ℕ)
two_names c = c.debtor ∷ c.key.creditor ∷ []

-- both firms of the claim are among the names
abbrev pub AreAmong : List (List ℕ) → ClaimFact → Type 0
AreAmong names c = (list_any (same_name c.debtor) names ≡ true) × (list_any (same_name c.key.creditor) names ≡ true)

two_more : (n : List ℕ) (c : ClaimFact) (names : List (List ℕ)) → list_any (same_name n) names ≡ true → list_any (same_name n) (two_names c ++ names) ≡ true
two_more n c names e = or_right (same_name n c.debtor) _ (or_right (same_name n c.key.creditor) _ e)

all_named : (cs : List ClaimFact) → All (AreAmong (flat_map two_names cs)) cs
all_named [] = All-nil (AreAmong [])
all_named (c ∷ cs) =
    let names = flat_map two_names cs in
    All-cons (AreAmong (two_names c ++ names)) c cs
    (or_left (same_name c.debtor c.debtor) _ (name_same c.debtor), or_right (same_name c.key.creditor c.debtor) _ (or_left (same_name c.key.creditor c.key.creditor) _ (name_same c.key.creditor)))
    (All-weaker (AreAmong names) (AreAmong (two_names c ++ names)) (λ d h. (two_more d.debtor c names h.0, two_more d.key.creditor c names h.1)) cs (all_named cs))

pub all_among : (cs : List ClaimFact) → All (AreAmong (firms_in cs)) cs
all_among cs =
    All-weaker (AreAmong (flat_map two_names cs)) (AreAmong (firms_in cs)) (λ c h. (any_distinct c.debtor (flat_map two_names cs) ∙ h.0, any_distinct c.key.creditor (flat_map two_names cs) ∙ h.1)) cs (all_named cs)

-- ---- one more claim

firms_push : (cs : List ClaimFact) (c : ClaimFact) → firms_in (cs ++ c ∷ []) ≡ with_name c.key.creditor (with_name c.debtor (firms_in cs))
firms_push cs c =
    let names = flat_map two_names cs in
    ap distinct (flat_map-append two_names cs (c ∷ []) ∙ sym (append_assoc names (c.debtor ∷ []) (c.key.creditor ∷ [])))
    ∙ distinct_push (names ++ c.debtor ∷ []) c.key.creditor
    ∙ ap (with_name c.key.creditor) (distinct_push names c.debtor)

join_step : (accounts : List AccountFact) (kind : Kind) (n : List ℕ) (xs : List (List ℕ)) (b : Bool)
    → map (party_in accounts kind) (if b then xs else xs ++ n ∷ []) ≡ (if b then map (party_in accounts kind) xs else map (party_in accounts kind) xs ++ party_in accounts kind n ∷ [])
join_step accounts kind n xs true = refl
join_step accounts kind n xs false = map-append (party_in accounts kind) xs (n ∷ [])

map_with : (accounts : List AccountFact) (kind : Kind) (n : List ℕ) (xs : List (List ℕ)) → map (party_in accounts kind) (with_name n xs) ≡ with_party (party_in accounts kind n) (map (party_in accounts kind) xs)
map_with accounts kind n xs =
    join_step accounts kind n xs (list_any (same_name n) xs)
    ∙ ap (λ (b : Bool). if b then map (party_in accounts kind) xs else map (party_in accounts kind) xs ++ party_in accounts kind n ∷ []) (sym (list_any-map (is_party n) (party_in accounts kind) xs))

-- the parties of the claims, with one more claim
parties_push : (accounts : List AccountFact) (kind : Kind) (cs : List ClaimFact) (c : ClaimFact) → parties_in accounts kind (cs ++ c ∷ []) ≡ with_parties_of accounts kind c (parties_in accounts kind cs)
parties_push accounts kind cs c =
    ap (map (party_in accounts kind)) (firms_push cs c)
    ∙ map_with accounts kind c.key.creditor (with_name c.debtor (firms_in cs))
    ∙ ap (with_party (party_in accounts kind c.key.creditor)) (map_with accounts kind c.debtor (firms_in cs))

-- a place among names stays with two more of them
name_stays : (n a b : List ℕ) (xs : List (List ℕ)) → list_any (same_name n) xs ≡ true → position_or_len (same_name n) (with_name b (with_name a xs)) ≡ position_or_len (same_name n) xs
name_stays n a b xs e =
    place_stays (same_name n) (list_any (same_name b) (with_name a xs)) (with_name a xs) b (any_stays (same_name n) (list_any (same_name a) xs) xs a e)
    ∙ place_stays (same_name n) (list_any (same_name a) xs) xs a e

abbrev among_at : ClaimFact → ℕ → ℕ → CutClaim
among_at c debtor creditor = record { key = c.key; debtor = debtor; creditor = creditor; amount = c.part }

claim_stays : (a b : List ℕ) (xs : List (List ℕ)) (c : ClaimFact) → AreAmong xs c → claim_among (with_name b (with_name a xs)) c ≡ claim_among xs c
claim_stays a b xs c h = ap₂ (among_at c) (name_stays c.debtor a b xs h.0) (name_stays c.key.creditor a b xs h.1)

pub map_same : {X Y : Type 0} (f g : X → Y) (xs : List X) → All (λ x. f x ≡ g x) xs → map f xs ≡ map g xs
map_same f g [] same = refl
map_same f g (x ∷ xs) same = ap₂ (λ y ys. y ∷ ys) (All-head (λ z. f z ≡ g z) x xs same) (map_same f g xs (All-tail (λ z. f z ≡ g z) x xs same))

-- a claim's places among firms are its places among their parties
placed_is : (accounts : List AccountFact) (kind : Kind) (firms : List (List ℕ)) (c : ClaimFact) → claim_among firms c ≡ placed (map (party_in accounts kind) firms) c
placed_is accounts kind firms c =
    ap₂ (among_at c) (sym (place_map (party_in accounts kind) (is_party c.debtor) firms)) (sym (place_map (party_in accounts kind) (is_party c.key.creditor) firms))

-- the claims of the cut, with one more claim
claims_push : (accounts : List AccountFact) (kind : Kind) (cs : List ClaimFact) (c : ClaimFact)
    → claims_in (cs ++ c ∷ []) ≡ claims_in cs ++ placed (parties_in accounts kind (cs ++ c ∷ [])) c ∷ []
claims_push accounts kind cs c =
    let firms = firms_in cs in
    let more = firms_in (cs ++ c ∷ []) in
    let stays : All (λ d. claim_among more d ≡ claim_among firms d) cs =
    λ k d lt. ap (λ (fs : List (List ℕ)). claim_among fs (slice_index_or cs k d)) (firms_push cs c) ∙ claim_stays c.debtor c.key.creditor firms (slice_index_or cs k d) (all_among cs k d lt) in
    map-append (claim_among more) cs (c ∷ [])
    ∙ ap₂ (λ (xs : List CutClaim) (x : CutClaim). xs ++ x ∷ []) (map_same (claim_among more) (claim_among firms) cs stays) (placed_is accounts kind more c)

-- ---- one claim further

due_more : (horizon : ℕ) (cs : List ClaimFact) (i : ℕ) (c : ClaimFact) (b : Bool) → i < length cs → c ≡ get_or cs i c → b ≡ takes_part horizon c
    → claims_due horizon (take (i + 1) cs) ≡ claims_due horizon (take i cs) ++ cond b (c ∷ []) []
due_more horizon cs i c b lt is test =
    filter_more (takes_part horizon) cs i c lt
    ∙ ap (λ (x : ClaimFact). claims_due horizon (take i cs) ++ cond (takes_part horizon x) (x ∷ []) []) (sym is)
    ∙ ap (λ (t : Bool). claims_due horizon (take i cs) ++ cond t (c ∷ []) []) (sym test)

-- a claim that takes part is one more
pub due_yes : (horizon : ℕ) (cs : List ClaimFact) (i : ℕ) (c : ClaimFact) (b : Bool) → i < length cs → c ≡ get_or cs i c → b ≡ takes_part horizon c → b ≡ true
    → claims_due horizon (take (i + 1) cs) ≡ claims_due horizon (take i cs) ++ c ∷ []
due_yes horizon cs i c b lt is test here = due_more horizon cs i c true lt is (sym here ∙ test)

-- and one that does not changes nothing
pub due_no : (horizon : ℕ) (cs : List ClaimFact) (i : ℕ) (c : ClaimFact) (b : Bool) → i < length cs → c ≡ get_or cs i c → b ≡ takes_part horizon c → b ≡ false
    → claims_due horizon (take (i + 1) cs) ≡ claims_due horizon (take i cs)
due_no horizon cs i c b lt is test none = due_more horizon cs i c false lt is (sym none ∙ test) ∙ append-nil (claims_due horizon (take i cs))

pub more_parties : (accounts : List AccountFact) (kind : Kind) (before after : List ClaimFact) (c : ClaimFact) (old new : List Party) → after ≡ before ++ c ∷ [] → old ≡ parties_in accounts kind before → new ≡ with_parties_of accounts kind c old
    → new ≡ parties_in accounts kind after
more_parties accounts kind before after c old new grown was is =
    is ∙ ap (with_parties_of accounts kind c) was ∙ sym (parties_push accounts kind before c) ∙ ap (parties_in accounts kind) (sym grown)

pub more_claims : (accounts : List AccountFact) (kind : Kind) (before after : List ClaimFact) (c : ClaimFact) (parties : List Party) (old new : List CutClaim) → after ≡ before ++ c ∷ [] → parties ≡ parties_in accounts kind after
    → old ≡ claims_in before → new ≡ old ++ placed parties c ∷ [] → new ≡ claims_in after
more_claims accounts kind before after c parties old new grown among was is =
    is
    ∙ ap₂ (λ (xs : List CutClaim) (ps : List Party). xs ++ placed ps c ∷ []) was (among ∙ ap (parties_in accounts kind) grown)
    ∙ sym (claims_push accounts kind before c)
    ∙ ap claims_in (sym grown)
