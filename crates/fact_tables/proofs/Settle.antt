-- A publication settles its cut claim by claim.
use Rattle.std.specs.Prelude.{map, take, Option, Some, None, if◌then◌else◌, ◌==◌, ◌≢◌, AllPairs, slice_index, ℤ, pos, ◌+ℤ◌, ◌-ℤ◌}
use Rattle.std.specs.List.{list_any}
use Rattle.std.specs.Bool.{Decides}
use Rattle.std.proofs.Common.{◌≡◌, ℕ, suc, ◌+◌, ◌-◌, ◌*◌, ◌<◌, ◌≤◌, Bool, true, false, List, [], ◌∷◌, ◌++◌, length, get_or, refl, sym, ◌∙◌, ap, ap₂, subst, true≢false, arith, length-take-le, inl, inr}
use Rattle.std.proofs.Math.Seq.{take-suc}
use Rattle.std.proofs.lemmas.Bool.Decides.{Decides-eqb}
use Rattle.std.proofs.lemmas.Int.{ints}
use Rattle.std.proofs.lemmas.List.{get_or-take, get_or_default, take_all, length-map}
use Rattle.std.proofs.lemmas.List.Elements.{All-map}
use Rattle.std.proofs.lemmas.Bool.{cases_lt, cond-true, cond-false}
use Rattle.std.proofs.lemmas.List.Folds.{list_any_none, list_any_at}
use Rattle.std.proofs.lemmas.List.Quantifiers.{position-Some}
use Rattle.setoff_model.specs.declared.limits.TheConstants.{SUM_LIMIT, FIRST_CEILING}
use Rattle.setoff_model.specs.Same.{same_name, same_key}
use Rattle.setoff_model.specs.Setoff.{flow_at, total_of}
use Rattle.setoff_model.specs.CutView.{creditors, debtors}
use Rattle.setoff_model.proofs.Lists.{position_none}
use Rattle.setoff_model.proofs.SameNames.{same_name_is, same_key_is}
use Rattle.setoff_model.specs.declared.name.Key.{Key}
use Rattle.setoff_model.specs.declared.cut.Party.{Party}
use Rattle.setoff_model.specs.declared.cut.CutClaim.{CutClaim}
use Rattle.setoff_model.specs.CutView.{CutView}
use Rattle.claim_history.specs.declared.fact.ClaimFact.{ClaimFact}
use Rattle.claim_history.specs.declared.fact.AccountFact.{AccountFact}
use Rattle.claim_history.specs.Laws.{IsWithin}
use Rattle.claim_history.specs.Facts.{at_place, claim_place, flow_of, party_place}
use Rattle.name_index.proofs.Pushed.{none_there, pushed_here, pushed_other}
use Rattle.fact_tables.specs.Settling.{settled_claim, settled_account}
use Rattle.fact_tables.specs.Tables.{reduced, with_receipt, funded, drawn, AreSmall, AreWithin}
use Rattle.fact_tables.proofs.Flowing.{flow_step, flow_small}
use Rattle.fact_tables.proofs.Keyed.{same_keys, if_same}

pub not_one : {P : Type 0} (b : Bool) → Decides b P → (P → ⊥) → b ≡ false
not_one true d never = absurd (never (d.0 refl))
not_one false d never = refl

-- ---- claims

-- what the first claims of a cut leave of a claim
abbrev pub claim_after : CutView → List ℕ → ℕ → ClaimFact → ClaimFact
claim_after cut d i c = reduced (at_place d (claim_place (take i cut.claims) c.key)) c

-- no claim of a cut before the one at i has its key
no_earlier : (claims : List CutClaim) (i : ℕ) (x : CutClaim) → AllPairs (λ a b. a.key ≢ b.key) claims → i < length claims → x ≡ get_or claims i x → list_any (λ c. same_key x.key c.key) (take i claims) ≡ false
no_earlier claims i x apart lt is =
    let short = length-take-le i claims (omega (arith, lt)) in
    list_any_none (λ c. same_key x.key c.key) (take i claims) (λ k d less.
    let before : k < i = omega (arith, less, short) in
    let c : CutClaim = get_or (take i claims) k d in
    not_one (same_key x.key c.key) (same_key_is x.key c.key) (λ same.
    apart k i d before lt (ap (λ (y : CutClaim). y.key) (sym (get_or-take i claims k d before)) ∙ sym same ∙ ap (λ (y : CutClaim). y.key) (is ∙ get_or_default claims i x d lt))))

-- nothing is taken off
pub reduced_none : (c : ClaimFact) → reduced 0 c ≡ c
reduced_none c = ap₂ (λ (left part : ℕ). record c { left = left; part = part }) (none c.left) (none c.part)
  where
    none : (n : ℕ) → n - 0 ≡ n
    none n = omega arith

-- the next claim of the cut, by whether a claim is it
claim_by : (cut : CutView) (d : List ℕ) (i : ℕ) (x : CutClaim) (c : ClaimFact) (b : Bool) → same_key x.key c.key ≡ b → length (take i cut.claims) ≡ i → list_any (λ y. same_key x.key y.key) (take i cut.claims) ≡ false
    → (if b then reduced (slice_index d i) (claim_after cut d i c) else claim_after cut d i c) ≡ reduced (at_place d (claim_place (take i cut.claims ++ x ∷ []) c.key)) c
claim_by cut d i x c true same short none =
    let key : x.key ≡ c.key = (same_key_is x.key c.key).0 same in
    let test : list_any (λ y. same_key c.key y.key) (take i cut.claims) ≡ false = subst (λ (k : Key). list_any (λ y. same_key k y.key) (take i cut.claims) ≡ false) key none in
    let here : same_key c.key x.key ≡ true = (same_key_is c.key x.key).1 (sym key) in
    let before : at_place d (claim_place (take i cut.claims) c.key) ≡ 0 = ap (at_place d) (none_there (λ y. same_key c.key y.key) (take i cut.claims) test) in
    let after : at_place d (claim_place (take i cut.claims ++ x ∷ []) c.key) ≡ slice_index d i = ap (at_place d) (pushed_here (λ y. same_key c.key y.key) (take i cut.claims) x test here) ∙ ap (slice_index d) short in
    ap (λ (n : ℕ). reduced (slice_index d i) (reduced n c)) before ∙ ap (reduced (slice_index d i)) (reduced_none c) ∙ ap (λ (n : ℕ). reduced n c) (sym after)
claim_by cut d i x c false other short none =
    let not_here : same_key c.key x.key ≡ false = not_one (same_key c.key x.key) (same_key_is c.key x.key) (λ e. true≢false (sym ((same_key_is x.key c.key).1 (sym e)) ∙ other)) in
    ap (λ (p : Option ℕ). reduced (at_place d p) c) (sym (pushed_other (λ y. same_key c.key y.key) (take i cut.claims) x not_here))

pub claim_next : (cut : CutView) (d : List ℕ) (i : ℕ) (x : CutClaim) (amount : ℕ) → AllPairs (λ a b. a.key ≢ b.key) cut.claims → i < length cut.claims → x ≡ get_or cut.claims i x → amount ≡ slice_index d i → (c : ClaimFact)
    → with_receipt x.key amount (claim_after cut d i c) ≡ claim_after cut d (i + 1) c
claim_next cut d i x amount apart lt is due c =
    let next : suc i ≡ i + 1 = omega arith in
    let grown : take i cut.claims ++ x ∷ [] ≡ take (i + 1) cut.claims = ap (λ y. take i cut.claims ++ y ∷ []) is ∙ sym (take-suc cut.claims i x lt) ∙ ap (λ n. take n cut.claims) next in
    ap (λ n. with_receipt x.key n (claim_after cut d i c)) due
    ∙ claim_by cut d i x c (same_key x.key c.key) refl (length-take-le i cut.claims (omega (arith, lt))) (no_earlier cut.claims i x apart lt is)
    ∙ ap (λ (cs : List CutClaim). reduced (at_place d (claim_place cs c.key)) c) grown

-- a step of each row
pub map_step : {X : Type 0} (f g h : X → X) (xs : List X) → ((x : X) → f (g x) ≡ h x) → map f (map g xs) ≡ map h xs
map_step f g h [] same = refl
map_step f g h (x ∷ xs) same = ap₂ (λ y ys. y ∷ ys) (same x) (map_step f g h xs same)

-- before the first claim nothing is settled
pub map_start : {X : Type 0} (f : X → X) (xs : List X) → ((x : X) → f x ≡ x) → xs ≡ map f xs
map_start f [] same = refl
map_start f (x ∷ xs) same = ap₂ (λ y ys. y ∷ ys) (sym (same x)) (map_start f xs same)

pub map_same : {X Y : Type 0} (f g : X → Y) (xs : List X) → ((x : X) → f x ≡ g x) → map f xs ≡ map g xs
map_same f g [] same = refl
map_same f g (x ∷ xs) same = ap₂ (λ y ys. y ∷ ys) (same x) (map_same f g xs same)

-- all claims of the cut settle what the round settles
pub claims_whole : (cut : CutView) (d : List ℕ) (i : ℕ) (facts : List ClaimFact) → length cut.claims ≤ i → map (claim_after cut d i) facts ≡ map (settled_claim (record { cut = cut; discharges = d })) facts
claims_whole cut d i facts ge =
    map_same (claim_after cut d i) (settled_claim (record { cut = cut; discharges = d })) facts
    (λ c. ap (λ (cs : List CutClaim). reduced (at_place d (claim_place cs c.key)) c) (take_all i cut.claims ge))

-- ---- accounts

-- what the first claims of a cut leave of an account
abbrev pub account_after : CutView → List ℕ → ℕ → AccountFact → AccountFact
account_after cut d i a = record a {
  balance =
      (a.balance +ℤ pos (flow_of (λ f. flow_at i (creditors cut.claims) d f) (party_place cut.parties a.firm)))
      -ℤ pos (flow_of (λ f. flow_at i (debtors cut.claims) d f) (party_place cut.parties a.firm));
}

-- the place is this number
abbrev is_at : Option ℕ → ℕ → Bool
is_at None n = false
is_at (Some f) n = n == f

-- a firm is that of the party at a number where that is its place
place_test : (parties : List Party) (n : ℕ) (y : Party) (firm : List ℕ) → AllPairs (λ f g. f.firm ≢ g.firm) parties → n < length parties → y ≡ get_or parties n y → same_name y.firm firm ≡ is_at (party_place parties firm) n
place_test parties n y firm apart lt is = by (party_place parties firm) refl
  where
    test : Party → Bool
    test p = same_name firm p.firm

    flip : same_name firm y.firm ≡ false → same_name y.firm firm ≡ false
    flip other = not_one (same_name y.firm firm) (same_name_is y.firm firm) (λ e. true≢false (sym ((same_name_is firm y.firm).1 (sym e)) ∙ other))

    at_number : (f : ℕ) → f < length parties → same_name firm (get_or parties f y).firm ≡ true → (b : Bool) → (n == f) ≡ b → same_name y.firm firm ≡ b
    at_number f within here true e =
        let same : n ≡ f = (Decides-eqb n f).0 e in
        let name : firm ≡ y.firm = (same_name_is firm (get_or parties f y).firm).0 here ∙ ap (λ (k : ℕ). (get_or parties k y).firm) (sym same) ∙ ap (λ (p : Party). p.firm) (sym is) in
        (same_name_is y.firm firm).1 (sym name)
    at_number f within here false e =
        not_one (same_name y.firm firm) (same_name_is y.firm firm) (λ same.
        let name : (get_or parties n y).firm ≡ (get_or parties f y).firm = ap (λ (p : Party). p.firm) (sym is) ∙ same ∙ (same_name_is firm (get_or parties f y).firm).0 here in
        elim (cases_lt n f) [
          | inl less ↦ apart n f y less within name
          | inr more ↦ elim (cases_lt f n) [
            | inl less ↦ apart f n y less lt (sym name)
            | inr less ↦ true≢false (sym ((Decides-eqb n f).1 (omega arith)) ∙ e)
          ]
        ])

    by : (p : Option ℕ) → party_place parties firm ≡ p → same_name y.firm firm ≡ is_at p n
    by None e =
        flip (not_one (same_name firm y.firm) (same_name_is firm y.firm) (λ same.
        true≢false (sym (list_any_at (λ p. same_name firm p.firm) parties n y lt ((same_name_is firm (get_or parties n y).firm).1 (same ∙ ap (λ (p : Party). p.firm) is))) ∙ position_none (λ p. same_name firm p.firm) parties e)))
    by (Some f) e =
        let found = position-Some (λ p. same_name firm p.firm) parties f y e in
        at_number f found.0 found.1 (n == f) refl

-- what the next claim adds to a flow
flow_next : (side : CutClaim → ℕ) (claims : List CutClaim) (d : List ℕ) (i : ℕ) (x : CutClaim) (p : Option ℕ) → i < length claims → x ≡ get_or claims i x
    → flow_of (λ f. flow_at (i + 1) (map side claims) d f) p ≡ flow_of (λ f. flow_at i (map side claims) d f) p + (if is_at p (side x) then slice_index d i else 0)
flow_next side claims d i x None lt is = omega arith
flow_next side claims d i x (Some f) lt is = sym (flow_step side claims d i f (flow_at i (map side claims) d f) x (if side x == f then slice_index d i else 0) lt is refl refl)

put_in_by : (b : Bool) (firm : List ℕ) (x : ℕ) (a : AccountFact) → same_name firm a.firm ≡ b → funded firm x a ≡ record a { balance = a.balance +ℤ pos (if b then x else 0) }
put_in_by true firm x a here = cond-true (same_name firm a.firm) (record a { balance = a.balance +ℤ pos x }) a here
put_in_by false firm x a other =
    let none : (z : ℤ) → z ≡ z +ℤ pos 0 = λ z. omega (arith, ints) in
    cond-false (same_name firm a.firm) (record a { balance = a.balance +ℤ pos x }) a other ∙ ap (λ (z : ℤ). record a { balance = z }) (none a.balance)

taken_out_by : (b : Bool) (firm : List ℕ) (x : ℕ) (a : AccountFact) → same_name firm a.firm ≡ b → drawn firm x a ≡ record a { balance = a.balance -ℤ pos (if b then x else 0) }
taken_out_by true firm x a here = cond-true (same_name firm a.firm) (record a { balance = a.balance -ℤ pos x }) a here
taken_out_by false firm x a other =
    let none : (z : ℤ) → z ≡ z -ℤ pos 0 = λ z. omega (arith, ints) in
    cond-false (same_name firm a.firm) (record a { balance = a.balance -ℤ pos x }) a other ∙ ap (λ (z : ℤ). record a { balance = z }) (none a.balance)

balance_step : (b : ℤ) (f g x y f' g' : ℕ) → f' ≡ f + x → g' ≡ g + y → (((b +ℤ pos f) -ℤ pos g) +ℤ pos x) -ℤ pos y ≡ (b +ℤ pos f') -ℤ pos g'
balance_step b f g x y f' g' more less = omega (arith, ints, more, less)

-- the next claim of the cut
pub account_next : (cut : CutView) (d : List ℕ) (i : ℕ) (x : CutClaim) (to by : Party) → AllPairs (λ f g. f.firm ≢ g.firm) cut.parties → i < length cut.claims → x ≡ get_or cut.claims i x
    → x.creditor < length cut.parties → to ≡ get_or cut.parties x.creditor to → x.debtor < length cut.parties → by ≡ get_or cut.parties x.debtor by
    → (a : AccountFact) → drawn by.firm (slice_index d i) (funded to.firm (slice_index d i) (account_after cut d i a)) ≡ account_after cut d (i + 1) a
account_next cut d i x to by apart lt is lt_to is_to lt_by is_by a =
    let p = party_place cut.parties a.firm in
    let amount = slice_index d i in
    ap (drawn by.firm amount) (put_in_by (is_at p x.creditor) to.firm amount (account_after cut d i a) (place_test cut.parties x.creditor to a.firm apart lt_to is_to))
    ∙ taken_out_by (is_at p x.debtor) by.firm amount (record a { balance = (account_after cut d i a).balance +ℤ pos (if is_at p x.creditor then amount else 0) }) (place_test cut.parties x.debtor by a.firm apart lt_by is_by)
    ∙ ap (λ (z : ℤ). record a { balance = z }) (balance_step a.balance _ _ _ _ _ _ (flow_next (λ (c : CutClaim). c.creditor) cut.claims d i x p lt is) (flow_next (λ (c : CutClaim). c.debtor) cut.claims d i x p lt is))

-- before the first claim nothing is settled
pub accounts_start : (cut : CutView) (d : List ℕ) (facts : List AccountFact) → facts ≡ map (account_after cut d 0) facts
accounts_start cut d facts = map_start (account_after cut d 0) facts (λ a. ap (λ (z : ℤ). record a { balance = z }) (at_start a.balance (party_place cut.parties a.firm) (creditors cut.claims) (debtors cut.claims)))
  where
    none : (p : Option ℕ) (places : List ℕ) → flow_of (λ f. flow_at 0 places d f) p ≡ 0
    none None places = refl
    none (Some f) places = refl

    at_start : (z : ℤ) (p : Option ℕ) (places others : List ℕ) → (z +ℤ pos (flow_of (λ f. flow_at 0 places d f) p)) -ℤ pos (flow_of (λ f. flow_at 0 others d f) p) ≡ z
    at_start z p places others = omega (arith, ints, none p places, none p others)

-- all claims of the cut settle what the round settles
pub accounts_whole : (cut : CutView) (d : List ℕ) (i : ℕ) (facts : List AccountFact) → i ≡ length cut.claims → map (account_after cut d i) facts ≡ map (settled_account (record { cut = cut; discharges = d })) facts
accounts_whole cut d i facts e =
    let long : i ≡ length (map (λ (c : CutClaim). c.amount) cut.claims) = e ∙ sym (length-map cut.claims (λ (c : CutClaim). c.amount)) in
    ap (λ (n : ℕ). map (account_after cut d n) facts) long

-- a flow is below 10^18
flow_below : (side : CutClaim → ℕ) (claims : List CutClaim) (d : List ℕ) (i : ℕ) (p : Option ℕ) → length d ≡ length claims → total_of d < SUM_LIMIT → i ≤ length claims → flow_of (λ f. flow_at i (map side claims) d f) p < SUM_LIMIT
flow_below side claims d i None long small le = omega arith
flow_below side claims d i (Some f) long small le = flow_small side claims d i f _ long small le refl

between : (z : ℤ) (f g : ℕ) → IsWithin FIRST_CEILING FIRST_CEILING z → f < SUM_LIMIT → g < SUM_LIMIT → IsWithin (2 * SUM_LIMIT) (2 * SUM_LIMIT) ((z +ℤ pos f) -ℤ pos g)
between z f g within lf lg = record { 0 = omega (arith, ints, within.0, within.1, lf, lg); 1 = omega (arith, ints, within.0, within.1, lf, lg) }

-- on the way no balance goes far
pub accounts_near : (cut : CutView) (d : List ℕ) (i : ℕ) (facts : List AccountFact) → length d ≡ length cut.claims → total_of d < SUM_LIMIT → i ≤ length cut.claims → AreSmall facts
    → AreWithin (2 * SUM_LIMIT) (map (account_after cut d i) facts)
accounts_near cut d i facts long small le within =
    All-map (λ (a : AccountFact). IsWithin (2 * SUM_LIMIT) (2 * SUM_LIMIT) a.balance) (account_after cut d i) facts
    (λ k a lt. between (get_or facts k a).balance _ _ (within k a lt) (flow_below (λ (c : CutClaim). c.creditor) cut.claims d i _ long small le) (flow_below (λ (c : CutClaim). c.debtor) cut.claims d i _ long small le))

-- the firms stay
pub firms_after : (cut : CutView) (d : List ℕ) (i : ℕ) (facts accounts : List AccountFact) → accounts ≡ map (account_after cut d i) facts → map (λ a. a.firm) accounts ≡ map (λ a. a.firm) facts
firms_after cut d i facts accounts is = ap (map (λ (a : AccountFact). a.firm)) is ∙ same_keys (λ (a : AccountFact). a.firm) (account_after cut d i) facts (λ a. refl)

pub firms_funded : (firm : List ℕ) (x : ℕ) (accounts more : List AccountFact) → more ≡ map (funded firm x) accounts → map (λ a. a.firm) more ≡ map (λ a. a.firm) accounts
firms_funded firm x accounts more is =
    ap (map (λ (a : AccountFact). a.firm)) is
    ∙ same_keys (λ (a : AccountFact). a.firm) (funded firm x) accounts (λ a. if_same (λ (b : AccountFact). b.firm) (same_name firm a.firm) (record a { balance = a.balance +ℤ pos x }) a refl)

pub map_twice : {X : Type 0} (e f g h : X → X) (xs : List X) → ((x : X) → e (f (g x)) ≡ h x) → map e (map f (map g xs)) ≡ map h xs
map_twice e f g h [] same = refl
map_twice e f g h (x ∷ xs) same = ap₂ (λ y ys. y ∷ ys) (same x) (map_twice e f g h xs same)
