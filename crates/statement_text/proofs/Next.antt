-- Which line may follow those of a draft.
use Rattle.std.specs.Prelude.{◌≢◌, ℤ, All, AllPairs}
use Rattle.std.proofs.Common.{◌≡◌, ℕ, ◌<◌, List, [], ◌∷◌, ◌++◌, length, get_or, refl, sym, ap, subst, ◌∙◌, arith, append_assoc}
use Rattle.std.proofs.lemmas.List.{append-nil, length-append, get_or_append_left}
use Rattle.std.proofs.Math.Seq.{get_or-append_seam}
use Rattle.setoff_model.specs.declared.kind.Kind.{Kind}
use Rattle.setoff_model.specs.declared.name.Key.{Key}
use Rattle.setoff_model.specs.declared.cut.Party.{Party}
use Rattle.setoff_model.specs.declared.cut.CutClaim.{CutClaim}
use Rattle.setoff_model.specs.CutView.{CutView, OutcomeView, IsWindowOf, IsClaimAmong}
use Rattle.statement_text.specs.declared.line.Line.{Line}
use Rattle.statement_text.specs.declared.line.Line.TheVariants as line
use Rattle.statement_text.specs.Statements.{CanBeStated, front_of, party_lines, claim_lines, claim_line}
use Rattle.statement_text.specs.Drafts.{Drafted, lines_of, with_party, with_claim, MayBeParty, MayBeClaim, IsClaimOf, IsNoNext}
use Rattle.statement_text.proofs.Structure.{NoParty, goes_on, claims_go_on, claims_no_party, free_claims}

-- ---- one element among others

pairs_before : {X : Type 0} (R : X → X → Type 0) (xs : List X) (y : X) (ys : List X) → AllPairs R (xs ++ y ∷ ys) → All (λ x. R x y) xs
pairs_before R xs y ys all i d lt =
    let long : length xs < length (xs ++ y ∷ ys) = omega (arith, length-append xs (y ∷ ys)) in
    let h = all i (length xs) d lt long in
    subst (λ x. R x y) (get_or_append_left xs (y ∷ ys) d i lt) (subst (R (get_or (xs ++ y ∷ ys) i d)) (get_or-append_seam xs y ys d) h)

all_at : {X : Type 0} (P : X → Type 0) (xs : List X) (y : X) (ys : List X) → All P (xs ++ y ∷ ys) → P y
all_at P xs y ys all =
    let long : length xs < length (xs ++ y ∷ ys) = omega (arith, length-append xs (y ∷ ys)) in
    subst P (get_or-append_seam xs y ys y) (all (length xs) y long)

-- ---- a party

first_claims : (parties : List Party) (cs : List CutClaim) (ds : List ℕ) (f : Party) (price : ℤ) (later : List Line) → length ds ≡ length cs → (NoParty (claim_lines parties cs ds ++ line.Party f price ∷ later) → ⊥) → cs ≡ []
first_claims parties [] ds f price later l h = refl
first_claims parties (c ∷ cs) [] f price later l h = absurd (omega arith)
first_claims parties (c ∷ cs) (d ∷ ds) f price later l h = absurd (h tt)

first_more : (more : List Party) (prices : List ℤ) (others : List Line) (f : Party) (price : ℤ) (later : List Line) → length prices ≡ length more → NoParty others → party_lines more prices ++ others ≡ line.Party f price ∷ later
    → (rest : List Party) × (more ≡ f ∷ rest)
first_more [] prices others f price later l free e = absurd (subst NoParty e free)
first_more (g ∷ more) [] others f price later l free e = absurd (omega arith)
first_more (g ∷ more) (p ∷ prices) others f price later l free e = let same : g ≡ f = cc in (more, ap (λ (x : Party). x ∷ more) same)

may_be_party : (d : Drafted) (f : Party) (rest : List Party) (cut : CutView) (outcome : OutcomeView) → CanBeStated cut outcome → cut.kind ≡ d.cut.kind → d.cut.claims ≡ [] → cut.parties ≡ d.cut.parties ++ f ∷ rest → MayBeParty d f
may_be_party d f rest cut outcome s kind none parties = record {
  first = none;
  few = omega (arith, s.well_formed.few_parties, ap length parties, length-append d.cut.parties (f ∷ rest));
  new = pairs_before (λ g h. g.firm ≢ h.firm) d.cut.parties f rest (subst (AllPairs (λ g h. g.firm ≢ h.firm)) parties s.well_formed.firms);
  window = subst (λ k. IsWindowOf k f) kind (all_at (IsWindowOf cut.kind) d.cut.parties f rest (subst (All (IsWindowOf cut.kind)) parties s.well_formed.windows));
}

pub party_refused : (d : Drafted) (f : Party) (price : ℤ) → CanBeStated d.cut d.outcome → (MayBeParty d f → ⊥) → IsNoNext d (line.Party f price)
party_refused d f price ds bad later cut outcome s e =
    let none : d.cut.claims ≡ [] = first_claims d.cut.parties d.cut.claims d.outcome.discharges f price later ds.discharge_each
    (λ free. let m = (claims_go_on d (line.Party f price ∷ later) cut outcome ds s e free).claims in subst NoParty m.rest_is (claims_no_party d.cut.parties m.more m.discharges)) in
    let m = (goes_on d (line.Party f price ∷ later) cut outcome ds s e) in
    let rest = m.parties.rest_is ∙ ap (λ (cs : List CutClaim). claim_lines d.cut.parties cs d.outcome.discharges ++ line.Party f price ∷ later) none in
    let more = first_more m.parties.more m.parties.prices _ f price later m.parties.each (claims_no_party cut.parties cut.claims outcome.discharges) rest in
    bad (may_be_party d f more.0 cut outcome s m.kind_is none (m.parties.parties_are ∙ ap (λ (fs : List Party). d.cut.parties ++ fs) more.1))

party_lines-push : (fs : List Party) (ps : List ℤ) (f : Party) (p : ℤ) → length ps ≡ length fs → party_lines (fs ++ f ∷ []) (ps ++ p ∷ []) ≡ party_lines fs ps ++ line.Party f p ∷ []
party_lines-push [] [] f p l = refl
party_lines-push [] (q ∷ ps) f p l = absurd (omega arith)
party_lines-push (g ∷ fs) [] f p l = absurd (omega arith)
party_lines-push (g ∷ fs) (q ∷ ps) f p l = ap (λ (ls : List Line). line.Party g q ∷ ls) (party_lines-push fs ps f p (omega arith))

pub party_taken : (d : Drafted) (f : Party) (price : ℤ) → CanBeStated d.cut d.outcome → d.cut.claims ≡ [] → lines_of (with_party d f price) ≡ lines_of d ++ line.Party f price ∷ []
party_taken d f price s none =
    let head = line.Head d.cut.round d.cut.kind in
    let parties = party_lines d.cut.parties d.outcome.prices in
    let after : claim_lines (d.cut.parties ++ f ∷ []) d.cut.claims d.outcome.discharges ≡ [] = ap (λ (cs : List CutClaim). claim_lines (d.cut.parties ++ f ∷ []) cs d.outcome.discharges) none in
    let before : claim_lines d.cut.parties d.cut.claims d.outcome.discharges ≡ [] = ap (λ (cs : List CutClaim). claim_lines d.cut.parties cs d.outcome.discharges) none in
    ap (λ (ls : List Line). head ∷ ls)
    (ap (λ (ls : List Line). party_lines (d.cut.parties ++ f ∷ []) (d.outcome.prices ++ price ∷ []) ++ ls) after ∙ append-nil _
    ∙ party_lines-push d.cut.parties d.outcome.prices f price s.price_each
    ∙ ap (λ (ls : List Line). ls ++ line.Party f price ∷ []) (sym (ap (λ (ls : List Line). parties ++ ls) before ∙ append-nil parties)))

-- ---- a claim

record First (parties : List Party) (more : List CutClaim) (key : Key) (debtor : List ℕ) (amount : ℕ) : Type 0 where
  claim : CutClaim
  rest : List CutClaim
  more_is : more ≡ claim ∷ rest
  is : IsClaimOf parties key debtor amount claim

first_claim : (parties : List Party) (more : List CutClaim) (ds : List ℕ) (key : Key) (debtor : List ℕ) (amount discharge : ℕ) (later : List Line) → length ds ≡ length more
    → claim_lines parties more ds ++ line.End ∷ [] ≡ line.Claim key debtor amount discharge ∷ later → First parties more key debtor amount
first_claim parties [] ds key debtor amount discharge later l e = absurd cc
first_claim parties (c ∷ more) [] key debtor amount discharge later l e = absurd (omega arith)
first_claim parties (c ∷ more) (d ∷ ds) key debtor amount discharge later l e = record { claim = c; rest = more; more_is = refl; is = record { key_is = cc; debtor_is = cc; amount_is = cc } }

pub claim_refused : (d : Drafted) (key : Key) (debtor : List ℕ) (amount discharge : ℕ) → CanBeStated d.cut d.outcome → ((c : CutClaim) → MayBeClaim d c → IsClaimOf d.cut.parties key debtor amount c → ⊥) → IsNoNext d (line.Claim key debtor amount discharge)
claim_refused d key debtor amount discharge ds bad later cut outcome s e =
    let g = claims_go_on d (line.Claim key debtor amount discharge ∷ later) cut outcome ds s e (free_claims d.cut.parties d.cut.claims d.outcome.discharges _ tt) in
    let m = g.claims in
    let f = first_claim d.cut.parties m.more m.discharges key debtor amount discharge later m.each m.rest_is in
    let claims : cut.claims ≡ d.cut.claims ++ f.claim ∷ f.rest = m.claims_are ∙ ap (λ (cs : List CutClaim). d.cut.claims ++ cs) f.more_is in
    let among : All (IsClaimAmong d.cut.parties) cut.claims = subst (λ (fs : List Party). All (IsClaimAmong fs) cut.claims) g.parties_are s.well_formed.claims in
    let may : MayBeClaim d f.claim = record {
      few = omega (arith, s.well_formed.few_claims, ap length claims, length-append d.cut.claims (f.claim ∷ f.rest));
      new = pairs_before (λ a b. a.key ≢ b.key) d.cut.claims f.claim f.rest (subst (AllPairs (λ a b. a.key ≢ b.key)) claims s.well_formed.keys);
      among = all_at (IsClaimAmong d.cut.parties) d.cut.claims f.claim f.rest (subst (All (IsClaimAmong d.cut.parties)) claims among);
    } in
    bad f.claim may f.is

claim_lines-push : (parties : List Party) (cs : List CutClaim) (ds : List ℕ) (c : CutClaim) (d : ℕ) → length ds ≡ length cs → claim_lines parties (cs ++ c ∷ []) (ds ++ d ∷ []) ≡ claim_lines parties cs ds ++ claim_line parties c d ∷ []
claim_lines-push parties [] [] c d l = refl
claim_lines-push parties [] (e ∷ ds) c d l = absurd (omega arith)
claim_lines-push parties (b ∷ cs) [] c d l = absurd (omega arith)
claim_lines-push parties (b ∷ cs) (e ∷ ds) c d l = ap (λ (ls : List Line). claim_line parties b e ∷ ls) (claim_lines-push parties cs ds c d (omega arith))

pub claim_taken : (d : Drafted) (c : CutClaim) (key : Key) (debtor : List ℕ) (amount discharge : ℕ) → CanBeStated d.cut d.outcome → IsClaimOf d.cut.parties key debtor amount c
    → lines_of (with_claim d c discharge) ≡ lines_of d ++ line.Claim key debtor amount discharge ∷ []
claim_taken d c key debtor amount discharge s is =
    let head = line.Head d.cut.round d.cut.kind in
    let parties = party_lines d.cut.parties d.outcome.prices in
    let claims = claim_lines d.cut.parties d.cut.claims d.outcome.discharges in
    let key_is = is.key_is in
    let debtor_is = is.debtor_is in
    let amount_is = is.amount_is in
    let same : claim_line d.cut.parties c discharge ≡ line.Claim key debtor amount discharge = cc in
    ap (λ (ls : List Line). head ∷ ls)
    (ap (λ (ls : List Line). parties ++ ls) (claim_lines-push d.cut.parties d.cut.claims d.outcome.discharges c discharge s.discharge_each)
    ∙ ap (λ (l : Line). parties ++ (claims ++ l ∷ [])) same ∙ sym (append_assoc parties claims _))

-- ---- other lines

pub head_refused : (d : Drafted) (round : ℕ) (kind : Kind) → CanBeStated d.cut d.outcome → IsNoNext d (line.Head round kind)
head_refused d round kind ds later cut outcome s e =
    let m = (claims_go_on d (line.Head round kind ∷ later) cut outcome ds s e (free_claims d.cut.parties d.cut.claims d.outcome.discharges _ tt)).claims in
    no_head d.cut.parties m.more m.discharges m.rest_is
  where
    no_head : (parties : List Party) (more : List CutClaim) (xs : List ℕ) → claim_lines parties more xs ++ line.End ∷ [] ≡ line.Head round kind ∷ later → ⊥
    no_head parties [] xs e = cc
    no_head parties (c ∷ more) [] e = cc
    no_head parties (c ∷ more) (x ∷ xs) e = cc

-- nothing follows END
pub end_last : (d : Drafted) (later : List Line) (cut : CutView) (outcome : OutcomeView) → CanBeStated d.cut d.outcome → CanBeStated cut outcome → front_of cut outcome ++ line.End ∷ [] ≡ lines_of d ++ line.End ∷ later → later ≡ []
end_last d later cut outcome ds s e =
    let m = (claims_go_on d (line.End ∷ later) cut outcome ds s e (free_claims d.cut.parties d.cut.claims d.outcome.discharges _ tt)).claims in
    last d.cut.parties m.more m.discharges m.rest_is
  where
    last : (parties : List Party) (more : List CutClaim) (xs : List ℕ) → claim_lines parties more xs ++ line.End ∷ [] ≡ line.End ∷ later → later ≡ []
    last parties [] xs e = cc
    last parties (c ∷ more) [] e = cc
    last parties (c ∷ more) (x ∷ xs) e = absurd cc

-- the lines of a draft lack END
pub no_end : (d : Drafted) (cut : CutView) (outcome : OutcomeView) → CanBeStated d.cut d.outcome → CanBeStated cut outcome → front_of cut outcome ++ line.End ∷ [] ≡ lines_of d ++ [] → ⊥
no_end d cut outcome ds s e =
    let m = (claims_go_on d [] cut outcome ds s e (free_claims d.cut.parties d.cut.claims d.outcome.discharges [] tt)).claims in
    some d.cut.parties m.more m.discharges m.rest_is
  where
    some : (parties : List Party) (more : List CutClaim) (xs : List ℕ) → claim_lines parties more xs ++ line.End ∷ [] ≡ [] → ⊥
    some parties [] xs e = cc
    some parties (c ∷ more) [] e = cc
    some parties (c ∷ more) (x ∷ xs) e = cc
