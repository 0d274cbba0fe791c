-- Acts are read as they are written.
use Rattle.std.proofs.Common.{◌≡◌, ℕ, ◌^◌, ◌<◌, ◌≤◌, Bool, true, false, cond, eqb, List, [], ◌∷◌, ◌++◌, length, Option, Some, None, refl, sym, ap, ap₂, subst, ◌∙◌, arith}
use Rattle.std.specs.Prelude.{ℤ, ◌&&◌, if◌then◌else◌, nat_le, nat_lt, unsigned_abs}
use Rattle.std.specs.Int.{w32, w64}
use Rattle.std.specs.List.{list_all, AllByRecursion}
use Rattle.std.proofs.lemmas.Bool.{eqb-true, leb-true, ltb-true, and_parts}
use Rattle.std.proofs.lemmas.List.{append-nil, nil_from_length}
use Rattle.setoff_model.specs.declared.limits.TheConstants.{MOST_AMOUNT, MOST_CLAIMS, MOST_FIRMS}
use Rattle.setoff_model.specs.declared.name.Key.{Key}
use Rattle.setoff_model.specs.Names.{is_name}
use Rattle.setoff_model.proofs.SameNames.{same_name_is}
use Rattle.setoff_model.specs.declared.kind.Kind.{Kind}
use Rattle.setoff_model.specs.CutView.{OutcomeView}
use Rattle.claim_history.specs.declared.act.Act.{Act}
use Rattle.claim_history.specs.declared.act.Act.TheVariants as act
use Rattle.claim_history.specs.declared.call.Call.{Call}
use Rattle.claim_history.specs.Pools.{is_main, main_pool}
use Rattle.claim_history.specs.Acts.{is_valid, is_key, is_amount, is_claim_amount, is_agreed, is_day, is_round, is_outcome}
use Rattle.act_bodies.specs.Bodies.{four, eight, name_bytes, key_bytes, outcome_bytes, pool_mark, called, fields_of, body_of, is_keepable}
use Rattle.act_bodies.specs.Laws.{OneCallLaw}
use Rattle.act_bodies.specs.Reading.{◌>>=◌, both_at, made_at, number_at, name_at, day_at, kind_at, key_at, claim_at, account_at, outcome_at, firm_at, file_at, confirm_at, agree_at, dispute_at, withdraw_at, receive_at, fund_at, draw_at, limit_at, offer_at, position_at, close_at, publish_at, fields_at, act_at, other_pool, pool_at, call_at}
use Rattle.act_bodies.proofs.Keepable.{caller_fits, pool_named, act_valid}
use Rattle.act_bodies.proofs.Readers.{IsBytes, IsBytes-rest, bind_some, given, past, some_is, Takes, then as joined, IsField, field32, field64, both_field}
use Rattle.act_bodies.proofs.Values.{passed, made_again, Named, name_field, Dated, day_field, kind_bytes, AnyKind, kind_field, HasNames, key_field, claim_bytes, IsClaim, claim_field, IsMoney, account_bytes, IsAccount, account_field, HasLists, outcome_field, near_stored, IsStored}

-- what a tag's reader takes is the fields of the act that it gives
TakesAct : ℕ → (List ℕ → Option (Act × List ℕ)) → Type 0
TakesAct tag reader = (bytes : List ℕ) (a : Act) (rest : List ℕ) → IsBytes bytes → reader bytes ≡ Some (a, rest) → Takes (tag ∷ bytes) (fields_of a) rest

made_takes : {A : Type 0} (p : A → List ℕ) (P : A → Type 0) (reader : List ℕ → Option (A × List ℕ)) → IsField p P reader → (tag : ℕ) (make : A → Act) → ((x : A) → tag ∷ p x ≡ fields_of (make x)) → TakesAct tag (made_at make reader)
unfolding TakesAct
made_takes {A} p P reader field tag make spelled bytes a rest fits e =
    let u = bind_some (reader bytes) (λ u. Some (make u.0, u.1)) (a, rest) e in
    let s = field.takes bytes u.0.0 u.0.1 fits u.1 in
    let made : Act × List ℕ = (make u.0.0, u.0.1) in
    let whole : tag ∷ bytes ≡ fields_of (make u.0.0) ++ u.0.1 = ap (λ (l : List ℕ). tag ∷ l) s.0.parts ∙ ap (λ (l : List ℕ). l ++ u.0.1) (spelled u.0.0) in
    subst (λ (z : Act × List ℕ). Takes (tag ∷ bytes) (fields_of z.0) z.1) (some_is made (a, rest) u.2) (record { parts = whole; rest_fits = s.0.rest_fits })

firm_takes : TakesAct 1 firm_at
unfolding firm_at fields_of
firm_takes = made_takes name_bytes Named name_at name_field 1 _ (λ x. refl)

terms_field : IsField (λ (x : (Key × List ℕ) × ℕ). claim_bytes x.0 ++ eight x.1) (λ (x : (Key × List ℕ) × ℕ). IsClaim x.0 × IsMoney x.1) (both_at claim_at (number_at w64))
terms_field = both_field claim_bytes IsClaim claim_at eight IsMoney (number_at w64) claim_field field64

file_field : IsField (λ (x : ((Key × List ℕ) × ℕ) × ℕ). (claim_bytes x.0.0 ++ eight x.0.1) ++ four x.1) (λ (x : ((Key × List ℕ) × ℕ) × ℕ). (IsClaim x.0.0 × IsMoney x.0.1) × Dated x.1) (both_at (both_at claim_at (number_at w64)) day_at)
file_field = both_field _ _ _ four Dated day_at terms_field day_field

file_takes : TakesAct 2 file_at
unfolding file_at fields_of
file_takes = made_takes _ _ _ file_field 2 _ (λ x. refl)

confirm_takes : TakesAct 3 confirm_at
unfolding confirm_at fields_of
confirm_takes = made_takes claim_bytes IsClaim claim_at claim_field 3 _ (λ x. refl)

agree_takes : TakesAct 16 agree_at
unfolding agree_at fields_of
agree_takes = made_takes _ _ _ terms_field 16 _ (λ x. refl)

dispute_takes : TakesAct 4 dispute_at
unfolding dispute_at fields_of
dispute_takes = made_takes claim_bytes IsClaim claim_at claim_field 4 _ (λ x. refl)

withdraw_takes : TakesAct 5 withdraw_at
unfolding withdraw_at fields_of
withdraw_takes = made_takes key_bytes HasNames key_at key_field 5 _ (λ x. refl)

receive_field : IsField (λ (x : Key × ℕ). key_bytes x.0 ++ eight x.1) (λ (x : Key × ℕ). HasNames x.0 × IsMoney x.1) (both_at key_at (number_at w64))
receive_field = both_field key_bytes HasNames key_at eight IsMoney (number_at w64) key_field field64

receive_takes : TakesAct 6 receive_at
unfolding receive_at fields_of
receive_takes = made_takes _ _ _ receive_field 6 _ (λ x. refl)

fund_takes : TakesAct 7 fund_at
unfolding fund_at fields_of
fund_takes = made_takes account_bytes IsAccount account_at account_field 7 _ (λ x. refl)

draw_takes : TakesAct 8 draw_at
unfolding draw_at fields_of
draw_takes = made_takes account_bytes IsAccount account_at account_field 8 _ (λ x. refl)

limit_field : IsField (λ (x : (List ℕ × ℕ) × ℕ). account_bytes x.0 ++ eight x.1) (λ (x : (List ℕ × ℕ) × ℕ). IsAccount x.0 × IsMoney x.1) (both_at account_at (number_at w64))
limit_field = both_field account_bytes IsAccount account_at eight IsMoney (number_at w64) account_field field64

limit_takes : TakesAct 9 limit_at
unfolding limit_at fields_of
limit_takes = made_takes _ _ _ limit_field 9 _ (λ x. refl)

offer_takes : TakesAct 10 offer_at
unfolding offer_at fields_of
offer_takes = made_takes account_bytes IsAccount account_at account_field 10 _ (λ x. refl)

position_takes : TakesAct 11 position_at
unfolding position_at fields_of
position_takes = made_takes name_bytes Named name_at name_field 11 _ (λ x. refl)

close_field : IsField (λ (x : Kind × ℕ). kind_bytes x.0 ++ four x.1) (λ (x : Kind × ℕ). AnyKind x.0 × Dated x.1) (both_at kind_at day_at)
close_field = both_field kind_bytes AnyKind kind_at four Dated day_at kind_field day_field

close_takes : TakesAct 12 close_at
unfolding close_at fields_of
close_takes = made_takes _ _ _ close_field 12 _ (λ x. refl)

abbrev IsRound : ℕ → Type 0
IsRound n = n < 2 ^ 32

publish_field : IsField (λ (x : ℕ × OutcomeView). four x.0 ++ outcome_bytes x.1) (λ (x : ℕ × OutcomeView). IsRound x.0 × HasLists x.1) (both_at (number_at w32) outcome_at)
publish_field = both_field four IsRound (number_at w32) outcome_bytes HasLists outcome_at field32 outcome_field

publish_takes : TakesAct 14 publish_at
unfolding publish_at fields_of
publish_takes = made_takes _ _ _ publish_field 14 _ (λ x. refl)

-- one step of the choice by the tag
step : (tag k : ℕ) (reader : List ℕ → Option (Act × List ℕ)) (other : Option (Act × List ℕ)) (bytes : List ℕ) (a : Act) (rest : List ℕ) → IsBytes bytes → TakesAct k reader
    → (other ≡ Some (a, rest) → Takes (tag ∷ bytes) (fields_of a) rest) → cond (eqb tag k) (reader bytes) other ≡ Some (a, rest) → Takes (tag ∷ bytes) (fields_of a) rest
unfolding TakesAct
step tag k reader other bytes a rest fits here there e =
    elim (eqb tag k) as (λ (b : Bool). eqb tag k ≡ b → cond b (reader bytes) other ≡ Some (a, rest) → Takes (tag ∷ bytes) (fields_of a) rest) [
      | true ↦ λ is e. subst (λ (n : ℕ). Takes (n ∷ bytes) (fields_of a) rest) (sym (eqb-true tag k is)) (here bytes a rest fits e)
      | false ↦ λ is e. there e
    ] refl e

abandon_at : List ℕ → Option (Act × List ℕ)
abandon_at bytes = Some (act.Abandon, bytes)

abandon_takes : TakesAct 13 abandon_at
unfolding TakesAct abandon_at fields_of
abandon_takes bytes a rest fits e =
    subst (λ (z : Act × List ℕ). Takes (13 ∷ bytes) (fields_of z.0) z.1) (some_is (act.Abandon, bytes) (a, rest) e) (record { parts = refl; rest_fits = fits })

fields_take : (tag : ℕ) (bytes : List ℕ) (a : Act) (rest : List ℕ) → IsBytes bytes → fields_at tag bytes ≡ Some (a, rest) → Takes (tag ∷ bytes) (fields_of a) rest
unfolding fields_at abandon_at
fields_take tag bytes a rest fits e =
    step tag 1 firm_at _ bytes a rest fits firm_takes (λ e. step tag 2 file_at _ bytes a rest fits file_takes
    (λ e. step tag 3 confirm_at _ bytes a rest fits confirm_takes (λ e. step tag 4 dispute_at _ bytes a rest fits dispute_takes
    (λ e. step tag 5 withdraw_at _ bytes a rest fits withdraw_takes (λ e. step tag 6 receive_at _ bytes a rest fits receive_takes
    (λ e. step tag 7 fund_at _ bytes a rest fits fund_takes (λ e. step tag 8 draw_at _ bytes a rest fits draw_takes
    (λ e. step tag 9 limit_at _ bytes a rest fits limit_takes (λ e. step tag 10 offer_at _ bytes a rest fits offer_takes
    (λ e. step tag 11 position_at _ bytes a rest fits position_takes (λ e. step tag 12 close_at _ bytes a rest fits close_takes
    (λ e. step tag 13 abandon_at _ bytes a rest fits abandon_takes (λ e. step tag 16 agree_at _ bytes a rest fits agree_takes
    (λ e. absurd cc) e) e) e) e) e) e) e) e) e) e) e) e) e) e

pub act_takes : (bytes : List ℕ) (a : Act) (rest : List ℕ) → IsBytes bytes → act_at bytes ≡ Some (a, rest) → Takes bytes (fields_of a) rest
unfolding act_at
act_takes [] a rest fits e = absurd cc
act_takes (tag ∷ bytes) a rest fits e =
    step tag 14 publish_at (fields_at tag bytes) bytes a rest (IsBytes-rest tag bytes fits) publish_takes (λ e. fields_take tag bytes a rest (IsBytes-rest tag bytes fits) e) e

-- what was written is read again
money : (cents : ℕ) → is_amount cents ≡ true → IsMoney cents
money cents h = omega (arith, leb-true cents MOST_AMOUNT h)

claim_money : (cents : ℕ) → is_claim_amount cents ≡ true → IsMoney cents
claim_money cents h = money cents (and_parts (nat_le 1 cents) (is_amount cents) h).1

names : (key : Key) → is_key key ≡ true → HasNames key
names key h = and_parts (is_name key.creditor) (is_name key.invoice) h

claim : (key : Key) (debtor : List ℕ) → (is_key key && is_name debtor) ≡ true → IsClaim (key, debtor)
claim key debtor h =
    let c = and_parts (is_key key) (is_name debtor) h in
    (names key c.0, c.1)

account : (firm : List ℕ) (cents : ℕ) → (is_name firm && is_claim_amount cents) ≡ true → IsAccount (firm, cents)
account firm cents h =
    let c = and_parts (is_name firm) (is_claim_amount cents) h in
    (c.0, claim_money cents c.1)

offered : (firm : List ℕ) (cents : ℕ) → (is_name firm && is_amount cents) ≡ true → IsAccount (firm, cents)
offered firm cents h =
    let c = and_parts (is_name firm) (is_amount cents) h in
    (c.0, money cents c.1)

monies : (list : List ℕ) → list_all is_amount list ≡ true → AllByRecursion IsMoney list
monies [] h = tt
monies (x ∷ xs) h =
    let c = and_parts (is_amount x) (list_all is_amount xs) h in
    (money x c.0, monies xs c.1)

stored : (n : ℕ) → n ≤ MOST_FIRMS → (list : List ℤ) → list_all (λ p. nat_le (unsigned_abs p) n) list ≡ true → AllByRecursion (IsStored n) list
stored n few [] h = tt
stored n few (x ∷ xs) h =
    let c = and_parts (nat_le (unsigned_abs x) n) (list_all (λ p. nat_le (unsigned_abs p) n) xs) h in
    (near_stored n x (leb-true (unsigned_abs x) n c.0) few, stored n few xs c.1)

lists : (outcome : OutcomeView) → is_outcome outcome ≡ true → HasLists outcome
lists outcome h =
    let near = and_parts (nat_le (length outcome.discharges) MOST_CLAIMS && nat_le (length outcome.prices) MOST_FIRMS && list_all is_amount outcome.discharges) (list_all (λ p. nat_le (unsigned_abs p) (length outcome.prices)) outcome.prices) h in
    let cents = and_parts (nat_le (length outcome.discharges) MOST_CLAIMS && nat_le (length outcome.prices) MOST_FIRMS) (list_all is_amount outcome.discharges) near.0 in
    let counts = and_parts (nat_le (length outcome.discharges) MOST_CLAIMS) (nat_le (length outcome.prices) MOST_FIRMS) cents.0 in
    let c : length outcome.discharges ≤ MOST_CLAIMS = leb-true (length outcome.discharges) MOST_CLAIMS counts.0 in
    let n : length outcome.prices ≤ MOST_FIRMS = leb-true (length outcome.prices) MOST_FIRMS counts.1 in
    ((omega arith, monies outcome.discharges cents.1), (omega arith, stored (length outcome.prices) n outcome.prices near.1))

pub act_again : (a : Act) (rest : List ℕ) → is_valid a ≡ true → act_at (fields_of a ++ rest) ≡ Some (a, rest)
unfolding fields_of act_at fields_at firm_at file_at confirm_at agree_at dispute_at withdraw_at receive_at fund_at draw_at limit_at offer_at position_at close_at publish_at
act_again (act.Firm firm) rest h = made_again name_bytes Named name_at name_field (λ f. act.Firm f) firm rest h
act_again (act.File key debtor amount due) rest h =
    let dated = and_parts (is_key key && is_name debtor && is_claim_amount amount) (is_day due) h in
    let paid = and_parts (is_key key && is_name debtor) (is_claim_amount amount) dated.0 in
    made_again _ _ _ file_field (λ (((k, d), c), u). act.File k d c u) (((key, debtor), amount), due) rest ((claim key debtor paid.0, claim_money amount paid.1), dated.1)
act_again (act.Confirm key debtor None) rest h =
    made_again claim_bytes IsClaim claim_at claim_field (λ (k, d). act.Confirm k d None) (key, debtor) rest (claim key debtor (and_parts (is_key key && is_name debtor) (is_agreed None) h).0)
act_again (act.Confirm key debtor (Some agreed)) rest h =
    let paid = and_parts (is_key key && is_name debtor) (is_claim_amount agreed) h in
    made_again _ _ _ terms_field (λ ((k, d), c). act.Confirm k d (Some c)) ((key, debtor), agreed) rest (claim key debtor paid.0, claim_money agreed paid.1)
act_again (act.Dispute key debtor) rest h = made_again claim_bytes IsClaim claim_at claim_field (λ (k, d). act.Dispute k d) (key, debtor) rest (claim key debtor h)
act_again (act.Withdraw key) rest h = made_again key_bytes HasNames key_at key_field (λ k. act.Withdraw k) key rest (names key h)
act_again (act.Receive key amount) rest h =
    let paid = and_parts (is_key key) (is_claim_amount amount) h in
    made_again _ _ _ receive_field (λ (k, c). act.Receive k c) (key, amount) rest (names key paid.0, claim_money amount paid.1)
act_again (act.Fund firm amount) rest h = made_again account_bytes IsAccount account_at account_field (λ (f, c). act.Fund f c) (firm, amount) rest (account firm amount h)
act_again (act.Draw firm amount) rest h = made_again account_bytes IsAccount account_at account_field (λ (f, c). act.Draw f c) (firm, amount) rest (account firm amount h)
act_again (act.Limit firm credit ceiling) rest h =
    let high = and_parts (is_name firm && is_amount credit) (is_amount ceiling) h in
    made_again _ _ _ limit_field (λ ((f, c), d). act.Limit f c d) ((firm, credit), ceiling) rest (offered firm credit high.0, money ceiling high.1)
act_again (act.Offer firm amount) rest h = made_again account_bytes IsAccount account_at account_field (λ (f, c). act.Offer f c) (firm, amount) rest (offered firm amount h)
act_again (act.Position firm) rest h = made_again name_bytes Named name_at name_field (λ f. act.Position f) firm rest h
act_again (act.Close kind horizon) rest h = made_again _ _ _ close_field (λ (k, d). act.Close k d) (kind, horizon) rest (tt, h)
act_again act.Abandon rest h = refl
act_again (act.Publish round outcome) rest h =
    let found = and_parts (is_round round) (is_outcome outcome) h in
    let small : round < 2 ^ 32 = ltb-true round (2 ^ 32) (and_parts (nat_le 1 round) (nat_lt round (2 ^ 32)) found.0).1 in
    made_again _ _ _ publish_field (λ (r, o). act.Publish r o) (round, outcome) rest (small, lists outcome found.1)

-- ---- the pool

marked : (b : Bool) (pool : List ℕ) → is_main pool ≡ b → pool_mark pool ≡ (if b then [] else 15 ∷ name_bytes pool)
marked b pool e = ap (λ (t : Bool). if t then [] else 15 ∷ name_bytes pool) e

pool_step : (tag : ℕ) (bytes pool rest : List ℕ) (b : Bool) → eqb tag 15 ≡ b → IsBytes (tag ∷ bytes) → cond b (name_at bytes >>= other_pool) (Some (main_pool, tag ∷ bytes)) ≡ Some (pool, rest)
    → Takes (tag ∷ bytes) (pool_mark pool) rest
pool_step tag bytes pool rest true is fits e =
    let u = bind_some (name_at bytes) other_pool (pool, rest) e in
    let g = past (is_main u.0.0) u.0 (pool, rest) u.2 in
    let s = name_field.takes bytes u.0.0 u.0.1 (IsBytes-rest tag bytes fits) u.1 in
    let parts : tag ∷ bytes ≡ pool_mark u.0.0 ++ u.0.1 = ap₂ (λ (t : ℕ) (l : List ℕ). t ∷ l) (eqb-true tag 15 is) s.0.parts ∙ ap (λ (l : List ℕ). l ++ u.0.1) (sym (marked false u.0.0 g.0)) in
    subst (λ (z : List ℕ × List ℕ). Takes (tag ∷ bytes) (pool_mark z.0) z.1) g.1 (record { parts = parts; rest_fits = s.0.rest_fits })
pool_step tag bytes pool rest false is fits e =
    let found : List ℕ × List ℕ = (main_pool, tag ∷ bytes) in
    subst (λ (z : List ℕ × List ℕ). Takes (tag ∷ bytes) (pool_mark z.0) z.1) (some_is found (pool, rest) e) (record { parts = refl; rest_fits = fits })

pool_takes : (bytes pool rest : List ℕ) → IsBytes bytes → pool_at bytes ≡ Some (pool, rest) → Takes bytes (pool_mark pool) rest
unfolding pool_at
pool_takes [] pool rest fits e = absurd cc
pool_takes (tag ∷ bytes) pool rest fits e = pool_step tag bytes pool rest (eqb tag 15) refl fits e

-- no act has the tag of a pool
no_pool : (a : Act) → pool_at (fields_of a) ≡ Some (main_pool, fields_of a)
unfolding pool_at fields_of
no_pool (act.Firm firm) = refl
no_pool (act.File key debtor amount due) = refl
no_pool (act.Confirm key debtor None) = refl
no_pool (act.Confirm key debtor (Some agreed)) = refl
no_pool (act.Dispute key debtor) = refl
no_pool (act.Withdraw key) = refl
no_pool (act.Receive key amount) = refl
no_pool (act.Fund firm amount) = refl
no_pool (act.Draw firm amount) = refl
no_pool (act.Limit firm credit ceiling) = refl
no_pool (act.Offer firm amount) = refl
no_pool (act.Position firm) = refl
no_pool (act.Close kind horizon) = refl
no_pool act.Abandon = refl
no_pool (act.Publish round outcome) = refl

again_step : (pool : List ℕ) (a : Act) (b : Bool) → is_main pool ≡ b → Named pool → pool_at ((if b then [] else 15 ∷ name_bytes pool) ++ fields_of a) ≡ Some (pool, fields_of a)
unfolding pool_at
again_step pool a true e named = no_pool a ∙ ap (λ (q : List ℕ). given (q, fields_of a)) (sym ((same_name_is pool main_pool).0 e))
again_step pool a false e named = rw (name_field.again pool (fields_of a) named, e) refl

pool_again : (pool : List ℕ) (a : Act) → Named pool → pool_at (pool_mark pool ++ fields_of a) ≡ Some (pool, fields_of a)
pool_again pool a named = again_step pool a (is_main pool) refl named

-- ---- whole calls

abbrev ended : ℕ → List ℕ → Act × List ℕ → Option Call
ended caller pool a = cond (eqb (length a.1) 0 && is_keepable (called caller pool a.0)) (Some (called caller pool a.0)) None

pub call_takes : (bytes : List ℕ) (call : Call) → IsBytes bytes → call_at bytes ≡ Some call → (is_keepable call ≡ true) × (body_of call ≡ bytes)
unfolding call_at body_of
call_takes bytes call fits e =
    let u = bind_some (number_at w32 bytes) (λ u. pool_at u.1 >>= λ p. act_at p.1 >>= ended u.0 p.0) call e in
    let p = bind_some (pool_at u.0.1) (λ p. act_at p.1 >>= ended u.0.0 p.0) call u.2 in
    let v = bind_some (act_at p.0.1) (ended u.0.0 p.0.0) call p.2 in
    let made = called u.0.0 p.0.0 v.0.0 in
    let g = passed (eqb (length v.0.1) 0 && is_keepable made) made call v.2 in
    let kept = and_parts (eqb (length v.0.1) 0) (is_keepable made) g.0 in
    let s = field32.takes bytes u.0.0 u.0.1 fits u.1 in
    let q = pool_takes u.0.1 p.0.0 p.0.1 s.0.rest_fits p.1 in
    let t = act_takes p.0.1 v.0.0 v.0.1 q.rest_fits v.1 in
    let nothing : v.0.1 ≡ [] = nil_from_length v.0.1 (eqb-true _ _ kept.0) in
    let behind = joined u.0.1 (pool_mark p.0.0) p.0.1 (fields_of v.0.0) v.0.1 q t in
    let both_parts = (joined bytes (four u.0.0) u.0.1 (pool_mark p.0.0 ++ fields_of v.0.0) v.0.1 s.0 behind).parts in
    let whole : body_of made ≡ bytes = sym (both_parts ∙ ap (λ (l : List ℕ). (four u.0.0 ++ (pool_mark p.0.0 ++ fields_of v.0.0)) ++ l) nothing ∙ append-nil (four u.0.0 ++ (pool_mark p.0.0 ++ fields_of v.0.0))) in
    subst (λ (z : Call). (is_keepable z ≡ true) × (body_of z ≡ bytes)) g.1 (kept.1, whole)

pub call_again : (call : Call) → is_keepable call ≡ true → call_at (body_of call) ≡ Some call
unfolding call_at body_of
call_again call h =
    let number = field32.again call.caller (pool_mark call.pool ++ fields_of call.act) (caller_fits call h) in
    let place = pool_again call.pool call.act (pool_named call h) in
    let fields : act_at (fields_of call.act) ≡ Some (call.act, []) = ap act_at (sym (append-nil (fields_of call.act))) ∙ act_again call.act [] (act_valid call h) in
    rw (number, place, fields, h) refl

pub one_call_law : OneCallLaw
one_call_law call other one two same =
    some_is call other (sym (call_again call one) ∙ ap call_at same ∙ call_again other two)
