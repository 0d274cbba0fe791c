-- A statement that begins with the lines of another has its parties and claims.
use Rattle.std.specs.Prelude.{◌≢◌, ℤ, All, AllPairs}
use Rattle.std.proofs.Common.{◌≡◌, ℕ, List, [], ◌∷◌, ◌++◌, length, drop, refl, sym, ap, subst, ◌∙◌, arith, append_assoc}
use Rattle.std.proofs.lemmas.List.{append-nil}
use Rattle.std.proofs.lemmas.List.Elements.{All-head, All-tail}
use Rattle.setoff_model.specs.declared.name.Key.{Key}
use Rattle.setoff_model.specs.declared.cut.Party.{Party}
use Rattle.setoff_model.specs.declared.cut.CutClaim.{CutClaim}
use Rattle.setoff_model.specs.CutView.{CutView, OutcomeView, IsClaimAmong}
use Rattle.statement_text.specs.declared.line.Line.{Line}
use Rattle.statement_text.specs.declared.line.Line.TheVariants as line
use Rattle.statement_text.specs.Statements.{CanBeStated, front_of, party_lines, claim_lines, firm_at}
use Rattle.statement_text.specs.Drafts.{Drafted, lines_of}
use Rattle.statement_text.proofs.Places.{no_party, firm_is, same_place}

-- the first of the lines is no party's
abbrev pub NoParty : List Line → Type 0
NoParty [] = Unit {0}
NoParty (line.Head round kind ∷ ls) = Unit {0}
NoParty (line.Party f price ∷ ls) = ⊥
NoParty (line.Claim key debtor amount d ∷ ls) = Unit {0}
NoParty (line.End ∷ ls) = Unit {0}

pub record MoreParties (ps qs : List Party) (ps_prices qs_prices : List ℤ) (rest others : List Line) : Type 0 where
  pub more : List Party
  pub prices : List ℤ
  pub parties_are : qs ≡ ps ++ more
  pub prices_are : qs_prices ≡ ps_prices ++ prices
  pub each : length prices ≡ length more
  pub rest_is : party_lines more prices ++ others ≡ rest

pub more_parties : (ps qs : List Party) (a b : List ℤ) (rest others : List Line) → NoParty others → length a ≡ length ps → length b ≡ length qs → party_lines qs b ++ others ≡ party_lines ps a ++ rest → MoreParties ps qs a b rest others
more_parties [] qs [] b rest others free la lb e = record { more = qs; prices = b; parties_are = refl; prices_are = refl; each = lb; rest_is = e }
more_parties [] qs (x ∷ a) b rest others free la lb e = absurd (omega arith)
more_parties (f ∷ ps) qs [] b rest others free la lb e = absurd (omega arith)
more_parties (f ∷ ps) [] (x ∷ a) [] rest others free la lb e = absurd (subst NoParty e free)
more_parties (f ∷ ps) [] (x ∷ a) (y ∷ b) rest others free la lb e = absurd (omega arith)
more_parties (f ∷ ps) (g ∷ qs) (x ∷ a) [] rest others free la lb e = absurd (omega arith)
more_parties (f ∷ ps) (g ∷ qs) (x ∷ a) (y ∷ b) rest others free la lb e =
    let tail = more_parties ps qs a b rest others free (omega arith) (omega arith) (ap (drop 1) e) in
    let party : g ≡ f = cc in
    let price : y ≡ x = cc in
    let qs_are : qs ≡ ps ++ tail.more = tail.parties_are in
    let bs_are : b ≡ a ++ tail.prices = tail.prices_are in
    record { more = tail.more; prices = tail.prices; parties_are = cc; prices_are = cc; each = tail.each; rest_is = tail.rest_is }

-- ---- claims of one line are one

abbrev claim_of : Key → ℕ → ℕ → ℕ → CutClaim
claim_of key debtor creditor amount = record { key = key; debtor = debtor; creditor = creditor; amount = amount }

same_claim : (parties : List Party) (b c : CutClaim) → AllPairs (λ f g. f.firm ≢ g.firm) parties → IsClaimAmong parties b → IsClaimAmong parties c → b.key ≡ c.key → firm_at parties b.debtor ≡ firm_at parties c.debtor → b.amount ≡ c.amount → b ≡ c
same_claim parties b c apart hb hc key debtor amount =
    let owing : b.debtor ≡ c.debtor = same_place parties b.debtor c.debtor apart hb.debtor hc.debtor debtor in
    let named : firm_at parties b.creditor ≡ firm_at parties c.creditor =
    firm_is parties b.creditor no_party hb.creditor ∙ hb.named no_party ∙ ap (λ (k : Key). k.creditor) key ∙ sym (hc.named no_party) ∙ sym (firm_is parties c.creditor no_party hc.creditor) in
    let owed : b.creditor ≡ c.creditor = same_place parties b.creditor c.creditor apart hb.creditor hc.creditor named in
    ap (λ (k : Key). claim_of k b.debtor b.creditor b.amount) key ∙ ap (λ (p : ℕ). claim_of c.key p b.creditor b.amount) owing
    ∙ ap (λ (p : ℕ). claim_of c.key c.debtor p b.amount) owed ∙ ap (λ (p : ℕ). claim_of c.key c.debtor c.creditor p) amount

pub record MoreClaims (parties : List Party) (cs qs : List CutClaim) (ds es : List ℕ) (rest : List Line) : Type 0 where
  pub more : List CutClaim
  pub discharges : List ℕ
  pub claims_are : qs ≡ cs ++ more
  pub discharges_are : es ≡ ds ++ discharges
  pub each : length discharges ≡ length more
  pub rest_is : claim_lines parties more discharges ++ line.End ∷ [] ≡ rest

pub more_claims : (parties : List Party) (cs qs : List CutClaim) (ds es : List ℕ) (rest : List Line) → AllPairs (λ f g. f.firm ≢ g.firm) parties → All (IsClaimAmong parties) cs → All (IsClaimAmong parties) qs
    → length ds ≡ length cs → length es ≡ length qs → claim_lines parties qs es ++ line.End ∷ [] ≡ claim_lines parties cs ds ++ rest → MoreClaims parties cs qs ds es rest
more_claims parties [] qs [] es rest apart ac aq ld le e = record { more = qs; discharges = es; claims_are = refl; discharges_are = refl; each = le; rest_is = e }
more_claims parties [] qs (d ∷ ds) es rest apart ac aq ld le e = absurd (omega arith)
more_claims parties (c ∷ cs) qs [] es rest apart ac aq ld le e = absurd (omega arith)
more_claims parties (c ∷ cs) [] (d ∷ ds) [] rest apart ac aq ld le e = absurd cc
more_claims parties (c ∷ cs) [] (d ∷ ds) (x ∷ es) rest apart ac aq ld le e = absurd (omega arith)
more_claims parties (c ∷ cs) (q ∷ qs) (d ∷ ds) [] rest apart ac aq ld le e = absurd (omega arith)
more_claims parties (c ∷ cs) (q ∷ qs) (d ∷ ds) (x ∷ es) rest apart ac aq ld le e =
    let tail = more_claims parties cs qs ds es rest apart (All-tail (IsClaimAmong parties) c cs ac) (All-tail (IsClaimAmong parties) q qs aq) (omega arith) (omega arith) (ap (drop 1) e) in
    let key : q.key ≡ c.key = cc in
    let debtor : firm_at parties q.debtor ≡ firm_at parties c.debtor = cc in
    let amount : q.amount ≡ c.amount = cc in
    let discharge : x ≡ d = cc in
    let claim : q ≡ c = same_claim parties q c apart (All-head (IsClaimAmong parties) q qs aq) (All-head (IsClaimAmong parties) c cs ac) key debtor amount in
    let qs_are : qs ≡ cs ++ tail.more = tail.claims_are in
    let es_are : es ≡ ds ++ tail.discharges = tail.discharges_are in
    record { more = tail.more; discharges = tail.discharges; claims_are = cc; discharges_are = cc; each = tail.each; rest_is = tail.rest_is }

-- ---- the parts of a statement that begins with the lines of a draft

pub claims_no_party : (parties : List Party) (cs : List CutClaim) (ds : List ℕ) → NoParty (claim_lines parties cs ds ++ line.End ∷ [])
claims_no_party parties [] ds = tt
claims_no_party parties (c ∷ cs) [] = tt
claims_no_party parties (c ∷ cs) (d ∷ ds) = tt

pub record GoesOn (d : Drafted) (rest : List Line) (cut : CutView) (outcome : OutcomeView) : Type 0 where
  pub round_is : cut.round ≡ d.cut.round
  pub kind_is : cut.kind ≡ d.cut.kind
  pub parties : MoreParties d.cut.parties cut.parties d.outcome.prices outcome.prices (claim_lines d.cut.parties d.cut.claims d.outcome.discharges ++ rest) (claim_lines cut.parties cut.claims outcome.discharges ++ line.End ∷ [])

pub goes_on : (d : Drafted) (rest : List Line) (cut : CutView) (outcome : OutcomeView) → CanBeStated d.cut d.outcome → CanBeStated cut outcome → front_of cut outcome ++ line.End ∷ [] ≡ lines_of d ++ rest → GoesOn d rest cut outcome
goes_on d rest cut outcome ds s e =
    let tails : party_lines cut.parties outcome.prices ++ (claim_lines cut.parties cut.claims outcome.discharges ++ line.End ∷ []) ≡ party_lines d.cut.parties d.outcome.prices ++ (claim_lines d.cut.parties d.cut.claims d.outcome.discharges ++ rest) =
    sym (append_assoc (party_lines cut.parties outcome.prices) _ _) ∙ ap (drop 1) e ∙ append_assoc (party_lines d.cut.parties d.outcome.prices) _ _ in
    record {
      round_is = cc;
      kind_is = cc;
      parties = more_parties d.cut.parties cut.parties d.outcome.prices outcome.prices _ _ (claims_no_party cut.parties cut.claims outcome.discharges) ds.price_each s.price_each tails;
    }

pub no_more : (more : List Party) (prices : List ℤ) (others rest : List Line) → length prices ≡ length more → NoParty rest → party_lines more prices ++ others ≡ rest → (more ≡ []) × (prices ≡ [])
no_more [] [] others rest l free e = (refl, refl)
no_more [] (p ∷ prices) others rest l free e = absurd (omega arith)
no_more (f ∷ more) [] others rest l free e = absurd (omega arith)
no_more (f ∷ more) (p ∷ prices) others rest l free e = absurd (subst NoParty (sym e) free)

-- where the rest begins with no party, the parties are those of the draft, and the claims go on
pub record ClaimsGoOn (d : Drafted) (rest : List Line) (cut : CutView) (outcome : OutcomeView) : Type 0 where
  pub round_is : cut.round ≡ d.cut.round
  pub kind_is : cut.kind ≡ d.cut.kind
  pub parties_are : cut.parties ≡ d.cut.parties
  pub prices_are : outcome.prices ≡ d.outcome.prices
  pub claims : MoreClaims d.cut.parties d.cut.claims cut.claims d.outcome.discharges outcome.discharges rest

pub claims_go_on : (d : Drafted) (rest : List Line) (cut : CutView) (outcome : OutcomeView) → CanBeStated d.cut d.outcome → CanBeStated cut outcome → front_of cut outcome ++ line.End ∷ [] ≡ lines_of d ++ rest
    → NoParty (claim_lines d.cut.parties d.cut.claims d.outcome.discharges ++ rest) → ClaimsGoOn d rest cut outcome
claims_go_on d rest cut outcome ds s e free =
    let g = goes_on d rest cut outcome ds s e in
    let m = g.parties in
    let none = no_more m.more m.prices _ _ m.each free m.rest_is in
    let parties : cut.parties ≡ d.cut.parties = m.parties_are ∙ ap (λ (fs : List Party). d.cut.parties ++ fs) none.0 ∙ append-nil d.cut.parties in
    let prices : outcome.prices ≡ d.outcome.prices = m.prices_are ∙ ap (λ (ps : List ℤ). d.outcome.prices ++ ps) none.1 ∙ append-nil d.outcome.prices in
    let claims : claim_lines cut.parties cut.claims outcome.discharges ++ line.End ∷ [] ≡ claim_lines d.cut.parties d.cut.claims d.outcome.discharges ++ rest =
    sym (ap (λ (fs : List Party). party_lines fs m.prices ++ (claim_lines cut.parties cut.claims outcome.discharges ++ line.End ∷ [])) none.0) ∙ m.rest_is in
    let same : claim_lines d.cut.parties cut.claims outcome.discharges ++ line.End ∷ [] ≡ claim_lines d.cut.parties d.cut.claims d.outcome.discharges ++ rest =
    ap (λ (fs : List Party). claim_lines fs cut.claims outcome.discharges ++ line.End ∷ []) (sym parties) ∙ claims in
    let among : All (IsClaimAmong d.cut.parties) cut.claims = subst (λ (fs : List Party). All (IsClaimAmong fs) cut.claims) parties s.well_formed.claims in
    record {
      round_is = g.round_is;
      kind_is = g.kind_is;
      parties_are = parties;
      prices_are = prices;
      claims = more_claims d.cut.parties d.cut.claims cut.claims d.outcome.discharges outcome.discharges rest ds.well_formed.firms ds.well_formed.claims among ds.discharge_each s.discharge_each same;
    }

-- where the rest begins with no party, so do claims and the rest
pub free_claims : (parties : List Party) (cs : List CutClaim) (ds : List ℕ) (rest : List Line) → NoParty rest → NoParty (claim_lines parties cs ds ++ rest)
free_claims parties [] ds rest h = h
free_claims parties (c ∷ cs) [] rest h = h
free_claims parties (c ∷ cs) (d ∷ ds) rest h = tt
