-- Rows and the index of their keys.
use Rattle.std.specs.Prelude.{if◌then◌else◌, take, map, sum_by, count_by, pos, ◌+ℤ◌, ◌-ℤ◌}
use Rattle.std.specs.List.{list_any}
use Rattle.std.proofs.Common.{take_all, ◌≡◌, ℕ, ◌+◌, ◌≤◌, Bool, true, false, cond, ◌||◌, List, [], ◌∷◌, ◌++◌, length, refl, sym, ◌∙◌, ap, ap₂, subst, arith}
use Rattle.std.proofs.lemmas.List.{length-map, take-append-le}
use Rattle.std.proofs.lemmas.List.Sums.{sum_by-append}
use Rattle.setoff_model.specs.Same.{same_name, same_key}
use Rattle.setoff_model.specs.declared.name.Key.{Key}
use Rattle.claim_history.specs.declared.act.Act.{Act}
use Rattle.claim_history.specs.declared.act.Act.TheVariants as acts
use Rattle.claim_history.specs.declared.fact.ClaimFact.{ClaimFact}
use Rattle.claim_history.specs.declared.fact.AccountFact.{AccountFact}
use Rattle.fact_tables.specs.Tables.{KeysOnce, FirmsOnce, RegistersNone, accounts_after, funded, drawn, limited, offered}
use Rattle.fact_tables.proofs.Places.{count_cons, sum_by-map}

-- ---- one more row

none_counted : (b : Bool) (n : ℕ) → cond b 1 0 + n ≡ 0 → (b ≡ false)
none_counted true n e = absurd (omega (arith, e))
none_counted false n e = refl

pub none_any : {X : Type 0} (p : X → Bool) (xs : List X) → count_by p xs ≡ 0 → list_any p xs ≡ false
none_any p [] none = refl
none_any p (x ∷ xs) none =
    let both : cond (p x) 1 0 + count_by p xs ≡ 0 = sym (count_cons p x xs) ∙ none in
    ap₂ (λ (a b : Bool). a || b) (none_counted (p x) (count_by p xs) both) (none_any p xs (omega (arith, both)))

last_counted : (n : ℕ) (b : Bool) → b ≡ true → n + (cond b 1 0 + 0) ≤ 1 → n ≡ 0
last_counted n b is le = omega (arith, subst (λ c. n + (cond c 1 0 + 0) ≤ 1) is le)

-- where none is twice, the last is none of those before it
pub is_new : {X Y : Type 0} (h : X → Y) (p : Y → Bool) (ys : List Y) (xs : List X) (x : X) → ys ≡ map h xs → p (h x) ≡ true → count_by (λ z. p (h z)) (xs ++ x ∷ []) ≤ 1 → list_any p ys ≡ false
is_new h p ys xs x keys_are is once =
    let counted : count_by (λ z. p (h z)) xs + (cond (p (h x)) 1 0 + 0) ≤ 1 = subst (λ n. n ≤ 1) (sum_by-append (λ z. cond (p (h z)) 1 0) xs (x ∷ []) ∙ ap (λ n. count_by (λ z. p (h z)) xs + n) (count_cons (λ z. p (h z)) x [])) once in
    let none : count_by p ys ≡ 0 = ap (count_by p) keys_are ∙ sum_by-map (λ y. cond (p y) 1 0) h xs ∙ last_counted (count_by (λ z. p (h z)) xs) (p (h x)) is counted in
    none_any p ys none

-- a step that leaves each key leaves the keys
pub same_keys : {X Y : Type 0} (h : X → Y) (step : X → X) (xs : List X) → ((x : X) → h (step x) ≡ h x) → map h (map step xs) ≡ map h xs
same_keys h step [] same = refl
same_keys h step (x ∷ xs) same = ap₂ (λ y ys. y ∷ ys) (same x) (same_keys h step xs same)

-- a row that is changed or left keeps its key
pub if_same : {X Y : Type 0} (h : X → Y) (b : Bool) (x y : X) → h x ≡ h y → h (if b then x else y) ≡ h y
if_same h true x y same = same
if_same h false x y same = refl

-- rows of the same keys are as many
pub as_long : {X Y : Type 0} (h : X → Y) (ys zs : List X) → map h ys ≡ map h zs → length ys ≡ length zs
as_long h ys zs same = sym (length-map ys h) ∙ ap length same ∙ length-map zs h

-- what was lent and written comes back whole
pub took_back : {X : Type 0} (n : ℕ) (ys rest : List X) → length ys ≡ n → take n (ys ++ rest) ≡ ys
took_back n ys rest long =
    let le : n ≤ length ys = omega (arith, long) in
    let ge : length ys ≤ n = omega (arith, long) in
    take-append-le n ys rest le ∙ take_all n ys ge

-- the keys of rows that were written in place
pub written : {X Y : Type 0} (h : X → Y) (n : ℕ) (ks : List Y) (xs ys zs rest : List X) → ks ≡ map h xs → map h ys ≡ map h zs → zs ≡ xs → length zs ≡ n → ks ≡ map h (take n (ys ++ rest))
written h n ks xs ys zs rest keys_are same read long =
    keys_are ∙ ap (map h) (sym read) ∙ sym same ∙ ap (map h) (sym (took_back n ys rest (as_long h ys zs same ∙ long)))

-- ---- claims

-- how often a key stands is told by the keys
pub keys_once : (xs ys : List ClaimFact) → map (λ c. c.key) xs ≡ map (λ c. c.key) ys → KeysOnce xs → KeysOnce ys
keys_once xs ys same once key =
    let test = λ (k : Key). cond (same_key key k) 1 0 in
    subst (λ n. n ≤ 1) (sym (sum_by-map test (λ (c : ClaimFact). c.key) xs) ∙ ap (sum_by test) same ∙ sum_by-map test (λ (c : ClaimFact). c.key) ys) (once key)

-- ---- accounts

pub firms_once : (xs ys : List AccountFact) → map (λ a. a.firm) ys ≡ map (λ a. a.firm) xs → FirmsOnce xs → FirmsOnce ys
firms_once xs ys same once firm =
    let test = λ (f : List ℕ). cond (same_name firm f) 1 0 in
    subst (λ n. n ≤ 1) (sym (sum_by-map test (λ (a : AccountFact). a.firm) xs) ∙ ap (sum_by test) (sym same) ∙ sum_by-map test (λ (a : AccountFact). a.firm) ys) (once firm)

-- an act of another form registers none
pub registers_none : (a : Act) → ((firm : List ℕ) → a ≡ acts.Firm firm → ⊥) → RegistersNone a
registers_none (acts.Firm firm) other = other firm refl
registers_none a other = tt

-- what changes one account leaves the firms
pub firms_stay : (a : Act) (accounts : List AccountFact) → RegistersNone a → map (λ a. a.firm) (accounts_after a accounts) ≡ map (λ a. a.firm) accounts
firms_stay (acts.Firm firm) accounts none = absurd none
firms_stay (acts.Fund firm amount) accounts none =
    same_keys (λ a. a.firm) (funded firm amount) accounts (λ a. if_same (λ a. a.firm) (same_name firm a.firm) (record a { balance = a.balance +ℤ pos amount }) a refl)
firms_stay (acts.Draw firm amount) accounts none =
    same_keys (λ a. a.firm) (drawn firm amount) accounts (λ a. if_same (λ a. a.firm) (same_name firm a.firm) (record a { balance = a.balance -ℤ pos amount }) a refl)
firms_stay (acts.Limit firm credit ceiling) accounts none =
    same_keys (λ a. a.firm) (limited firm credit ceiling) accounts (λ a. if_same (λ a. a.firm) (same_name firm a.firm) (record a { credit = credit; ceiling = ceiling }) a refl)
firms_stay (acts.Offer firm amount) accounts none =
    same_keys (λ a. a.firm) (offered firm amount) accounts (λ a. if_same (λ a. a.firm) (same_name firm a.firm) (record a { offer = amount }) a refl)
firms_stay a accounts none = refl
