-- Chains that are given one after another, and their lines.
use Rattle.std.specs.Prelude.{codes}
use Rattle.std.proofs.Common.{add-one, drop-cons, append_assoc, ◌≡◌, ◌∙◌, ℕ, ◌<◌, Bool, List, [], ◌∷◌, ◌++◌, ap, drop, flat_map, get_or, length, refl, sym, subst, ◌+◌}
use Rattle.std.proofs.lemmas.List.{append-nil}
use Rattle.std.proofs.lemmas.Grind.{flat_map-append}
use Rattle.setoff_model.specs.declared.cut.CutClaim.{CutClaim}
use Rattle.setoff_model.specs.CutView.{CutView, obligations}
use Rattle.setoff_model.specs.Setoff.{Obligations}
use Rattle.chain_explain.specs.Chains.{ChainView}
use Rattle.chain_explain.specs.Explained.{ExplainerView, Gives, HasGiven, IsDone, measure}
use Rattle.chain_text.specs.Given.{HasGivenAll}
use Rattle.chain_text.specs.Texts.{chain_head, chain_line, chains_text, claim_name}

-- some chains were given
abbrev pub HasGivenSome : ExplainerView → ExplainerView → Type 0
HasGivenSome old now = (xs : List ChainView) × Gives (obligations old.cut) old xs now

pub cut_stays : (o : Obligations) (old now : ExplainerView) (xs : List ChainView) → Gives o old xs now → now.cut ≡ old.cut
cut_stays o old now [] gives = ap (λ (e : ExplainerView). e.cut) gives
cut_stays o old now (x ∷ xs) gives = cut_stays o gives.0 now xs gives.1.1 ∙ gives.1.0.cut

-- chains are given after others
pub gives_then : (o : Obligations) (old mid last : ExplainerView) (xs ys : List ChainView) → Gives o old xs mid → Gives o mid ys last → Gives o old (xs ++ ys) last
gives_then o old mid last [] ys one two = subst (λ (e : ExplainerView). Gives o e ys last) one two
gives_then o old mid last (x ∷ xs) ys one two = (one.0, (one.1.0, gives_then o one.0 mid last xs ys one.1.1 two))

pub one_more : (o : Obligations) (old mid now : ExplainerView) (xs : List ChainView) (x : ChainView) → Gives o old xs mid → HasGiven o mid x now → Gives o old (xs ++ x ∷ []) now
one_more o old mid now xs x gives given = gives_then o old mid now xs (x ∷ []) gives (now, (given, refl))

-- the same where the obligations are those of the cut as it is now
pub given_of : (old mid now : ExplainerView) (xs : List ChainView) (x : ChainView) → Gives (obligations old.cut) old xs mid → HasGiven (obligations mid.cut) mid x now → HasGiven (obligations old.cut) mid x now
given_of old mid now xs x gives given = subst (λ (cut : CutView). HasGiven (obligations cut) mid x now) (cut_stays (obligations old.cut) old mid xs gives) given

-- what is left to explain gets less
pub falls : (mid now : ExplainerView) (x : ChainView) → HasGiven (obligations mid.cut) mid x now → measure (obligations now.cut) now < measure (obligations mid.cut) mid
falls mid now x given = subst (λ (cut : CutView). measure (obligations cut) now < measure (obligations mid.cut) mid) (sym given.cut) given.falls

-- the text of one chain more
pub text_more : (cut : CutView) (xs : List ChainView) (x : ChainView) → chains_text cut (xs ++ x ∷ []) ≡ chains_text cut xs ++ chain_line cut x
text_more cut xs x = flat_map-append (λ x. chain_line cut x) xs (x ∷ []) ∙ ap (λ (t : List ℕ). chains_text cut xs ++ t) (append-nil (chain_line cut x))

-- the text of one chain and of others behind some
pub text_rest : (cut : CutView) (xs ys : List ChainView) (x : ChainView) → chains_text cut xs ++ (chain_line cut x ++ chains_text cut ys) ≡ chains_text cut (xs ++ x ∷ ys)
text_rest cut xs ys x = sym (flat_map-append (λ x. chain_line cut x) xs (x ∷ ys))

-- ---- the end

-- nothing is left of what was given last
pub all_given : (old mid now : ExplainerView) (xs : List ChainView) → Gives (obligations old.cut) old xs mid → now ≡ mid → IsDone (obligations mid.cut) mid → Gives (obligations old.cut) old xs now × IsDone (obligations old.cut) now
all_given old mid now xs gives same done = (
  subst (λ (e : ExplainerView). Gives (obligations old.cut) old xs e) (sym same) gives,
  subst (λ (e : ExplainerView). IsDone (obligations old.cut) e) (sym same) (subst (λ (cut : CutView). IsDone (obligations cut) mid) (cut_stays (obligations old.cut) old mid xs gives) done),
)

-- one chain more is given, and then the rest
pub with_rest : (old mid after last : ExplainerView) (xs : List ChainView) (x : ChainView) → Gives (obligations old.cut) old xs mid → HasGiven (obligations mid.cut) mid x after → (rest : HasGivenAll after last)
    → Gives (obligations old.cut) old (xs ++ x ∷ rest.chains) last × IsDone (obligations old.cut) last
with_rest old mid after last xs x gives given rest =
    let o = obligations old.cut in
    let same : after.cut ≡ old.cut = given.cut ∙ cut_stays o old mid xs gives in (
      gives_then o old mid last xs (x ∷ rest.chains) gives (after, (given_of old mid after xs x gives given, subst (λ (cut : CutView). Gives (obligations cut) after rest.chains last) same rest.given)),
      subst (λ (cut : CutView). IsDone (obligations cut) last) same rest.done,
    )

-- the line that was printed is that of the chain that was given
pub line_said : (old mid after : ExplainerView) (xs : List ChainView) (x : ChainView) (closed : Bool) (amount : ℕ) (cut : CutView) (claims : List ℕ) → Gives (obligations old.cut) old xs mid → HasGiven (obligations mid.cut) mid x after
    → cut ≡ after.cut → claims ≡ x.claims → closed ≡ x.closed → amount ≡ x.amount → chain_line cut (record { closed = closed; amount = amount; claims = claims }) ≡ chain_line old.cut x
line_said old mid after xs x closed amount cut claims gives given cut_is claims_are closed_is amount_is =
    let same : cut ≡ old.cut = cut_is ∙ given.cut ∙ cut_stays (obligations old.cut) old mid xs gives in
    λ i. chain_line (same i) (record { closed = closed_is i; amount = amount_is i; claims = claims_are i })

-- ---- the claims of a line

-- the names of the claims from a place on
pub names_from : (claims : List CutClaim) (places : List ℕ) (i : ℕ) → i < length places
    → flat_map (λ place. claim_name claims place) (drop i places) ≡ claim_name claims (get_or places i 0) ++ flat_map (λ place. claim_name claims place) (drop (i + 1) places)
names_from claims places i lt = rw (add-one, drop-cons places i 0) refl

-- a line is its head, its claims and its end
pub line_parts : (cut : CutView) (x : ChainView) → chain_line cut x ≡ chain_head x.closed x.amount ++ (flat_map (λ place. claim_name cut.claims place) x.claims ++ codes "\n")
line_parts cut x = append_assoc (chain_head x.closed x.amount) (flat_map (λ place. claim_name cut.claims place) x.claims) (codes "\n")
