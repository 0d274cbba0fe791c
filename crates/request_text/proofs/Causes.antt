-- A line with a cause asks nothing.
use Rattle.std.proofs.Common.{◌≡◌, ◌≤◌, ℕ, zero, suc, Bool, true, false, inl, inr, List, [], ◌∷◌, drop, get_or, refl, sym, ap, ◌∙◌, subst, decimal, arith, if◌then◌else◌}
use Rattle.std.specs.Prelude.{◌⊎◌, ◌&&◌, ◌++◌, bytes_eq, codes, Some, None}
use Rattle.std.specs.List.{sum_by}
use Rattle.std.proofs.lemmas.Bool.{and_parts}
use Rattle.std.proofs.lemmas.List.Sums.{sum_by-cons}
use Rattle.setoff_model.specs.declared.name.Key.{Key}
use Rattle.setoff_model.specs.Names.{is_name}
use Rattle.text_lines.specs.Fields.{fields}
use Rattle.text_lines.proofs.Joining.{join_law}
use Rattle.text_lines.proofs.Visible.{visible_law}
use Rattle.claim_history.specs.declared.act.Act.{Act}
use Rattle.claim_history.specs.declared.act.Act.TheVariants as act
use Rattle.claim_history.specs.Pools.{is_main}
use Rattle.claim_history.specs.Acts.{is_request, is_key, is_amount, is_claim_amount, is_day, act_fields}
use Rattle.request_text.specs.declared.error.LineCause.{LineCause}
use Rattle.request_text.specs.declared.error.LineCause.TheVariants as causes
use Rattle.request_text.specs.declared.verb.Verb.{Verb}
use Rattle.request_text.specs.declared.verb.Verb.TheVariants as verbs
use Rattle.request_text.specs.Lanes.{IsLane}
use Rattle.request_text.specs.Pools.{IsOtherPool, pool_field, pool_fields}
use Rattle.request_text.specs.Causes.{AreCounted, BeginsAt, BeginsElsewhere, Form, HasForm, verb_text, forms_of, needed, IsFirstBadField, HasArgsCause, HasVerbCause, HasPoolCause, HasCause, named, some_cents, cents_or_none, any_cents, of_kind, on_day}
use Rattle.request_text.specs.Grammar.{IsLine, line_fields}
use Rattle.request_text.proofs.Words.{cut_fields}

-- ---- the fields of an act are in their grammar and range

abbrev AreInForm : List Form → List (List ℕ) → Type 0
AreInForm [] [] = Unit {0}
AreInForm [] (field ∷ args) = ⊥
AreInForm (form ∷ forms) [] = sum_by needed (form ∷ forms) ≡ 0
AreInForm (form ∷ forms) (field ∷ args) = HasForm form field × AreInForm forms args

pub record IsInForm (after : List (List ℕ)) : Type 0 where
  pub verb : Verb
  pub args : List (List ℕ)
  pub spelled : after ≡ verb_text verb ∷ args
  pub good : AreInForm (forms_of verb) args

key_parts : (key : Key) → is_key key ≡ true → (is_name key.creditor ≡ true) × (is_name key.invoice ≡ true)
key_parts key h = and_parts (is_name key.creditor) (is_name key.invoice) h

pub in_form : (a : Act) → is_request a ≡ true → IsInForm (act_fields a)
in_form (act.Firm firm) h = record { verb = verbs.Firm; args = firm ∷ []; spelled = refl; good = (h, tt) }
in_form (act.File key debtor amount due) h =
    let p = and_parts (is_key key && is_name debtor && is_claim_amount amount) (is_day due) h in
    let q = and_parts (is_key key && is_name debtor) (is_claim_amount amount) p.0 in
    let r = and_parts (is_key key) (is_name debtor) q.0 in
    let k = key_parts key r.0 in
    record { verb = verbs.File; args = _; spelled = refl; good = (k.0, (k.1, (r.1, ((amount, (q.1, refl)), ((due, (p.1, refl)), tt))))) }
in_form (act.Confirm key debtor None) h =
    let p = and_parts (is_key key && is_name debtor) true h in
    let r = and_parts (is_key key) (is_name debtor) p.0 in
    let k = key_parts key r.0 in
    record { verb = verbs.Confirm; args = _; spelled = refl; good = (k.0, (k.1, (r.1, refl))) }
in_form (act.Confirm key debtor (Some agreed)) h =
    let p = and_parts (is_key key && is_name debtor) (is_claim_amount agreed) h in
    let r = and_parts (is_key key) (is_name debtor) p.0 in
    let k = key_parts key r.0 in
    record { verb = verbs.Confirm; args = _; spelled = refl; good = (k.0, (k.1, (r.1, ((agreed, (p.1, refl)), tt)))) }
in_form (act.Dispute key debtor) h =
    let r = and_parts (is_key key) (is_name debtor) h in
    let k = key_parts key r.0 in
    record { verb = verbs.Dispute; args = _; spelled = refl; good = (k.0, (k.1, (r.1, tt))) }
in_form (act.Withdraw key) h =
    let k = key_parts key h in
    record { verb = verbs.Withdraw; args = _; spelled = refl; good = (k.0, (k.1, tt)) }
in_form (act.Receive key amount) h =
    let r = and_parts (is_key key) (is_claim_amount amount) h in
    let k = key_parts key r.0 in
    record { verb = verbs.Receive; args = _; spelled = refl; good = (k.0, (k.1, ((amount, (r.1, refl)), tt))) }
in_form (act.Fund firm amount) h =
    let r = and_parts (is_name firm) (is_claim_amount amount) h in
    record { verb = verbs.Fund; args = _; spelled = refl; good = (r.0, ((amount, (r.1, refl)), tt)) }
in_form (act.Draw firm amount) h =
    let r = and_parts (is_name firm) (is_claim_amount amount) h in
    record { verb = verbs.Draw; args = _; spelled = refl; good = (r.0, ((amount, (r.1, refl)), tt)) }
in_form (act.Limit firm credit ceiling) h =
    let r = and_parts (is_name firm && is_amount credit) (is_amount ceiling) h in
    let q = and_parts (is_name firm) (is_amount credit) r.0 in
    record { verb = verbs.Limit; args = _; spelled = refl; good = (q.0, ((credit, (q.1, refl)), ((ceiling, (r.1, refl)), tt))) }
in_form (act.Offer firm amount) h =
    let r = and_parts (is_name firm) (is_amount amount) h in
    record { verb = verbs.Offer; args = _; spelled = refl; good = (r.0, ((amount, (r.1, refl)), tt)) }
in_form (act.Position firm) h = record { verb = verbs.Position; args = firm ∷ []; spelled = refl; good = (h, tt) }
in_form (act.Close kind horizon) h = record { verb = verbs.Close; args = _; spelled = refl; good = ((kind, refl), ((horizon, (h, refl)), tt)) }
in_form (act.Abandon) h = record { verb = verbs.Abandon; args = []; spelled = refl; good = tt }
in_form (act.Publish round outcome) h = absurd cc

-- ---- no two verbs are spelled alike

abbrev verb_at : List ℕ → Verb
verb_at text =
    if bytes_eq text (codes "FIRM") then verbs.Firm
    else (if bytes_eq text (codes "FILE") then verbs.File
    else (if bytes_eq text (codes "CONFIRM") then verbs.Confirm
    else (if bytes_eq text (codes "DISPUTE") then verbs.Dispute
    else (if bytes_eq text (codes "WITHDRAW") then verbs.Withdraw
    else (if bytes_eq text (codes "RECEIVE") then verbs.Receive
    else (if bytes_eq text (codes "FUND") then verbs.Fund
    else (if bytes_eq text (codes "DRAW") then verbs.Draw
    else (if bytes_eq text (codes "LIMIT") then verbs.Limit
    else (if bytes_eq text (codes "OFFER") then verbs.Offer
    else (if bytes_eq text (codes "POSITION") then verbs.Position
    else (if bytes_eq text (codes "CLOSE") then verbs.Close
    else verbs.Abandon)))))))))))

verb_again : (v : Verb) → verb_at (verb_text v) ≡ v
verb_again verbs.Firm = refl
verb_again verbs.File = refl
verb_again verbs.Confirm = refl
verb_again verbs.Dispute = refl
verb_again verbs.Withdraw = refl
verb_again verbs.Receive = refl
verb_again verbs.Fund = refl
verb_again verbs.Draw = refl
verb_again verbs.Limit = refl
verb_again verbs.Offer = refl
verb_again verbs.Position = refl
verb_again verbs.Close = refl
verb_again verbs.Abandon = refl

same_verb : (v w : Verb) (args others : List (List ℕ)) → verb_text v ∷ args ≡ verb_text w ∷ others → v ≡ w
same_verb v w args others e = sym (verb_again v) ∙ ap verb_at (ap (λ (fs : List (List ℕ)). get_or fs 0 []) e) ∙ verb_again w

-- ---- what has a cause is no act's

one_at_most : (form : Form) → needed form ≤ 1
one_at_most named = omega arith
one_at_most some_cents = omega arith
one_at_most cents_or_none = omega arith
one_at_most any_cents = omega arith
one_at_most of_kind = omega arith
one_at_most on_day = omega arith

counted : (forms : List Form) (args : List (List ℕ)) → AreInForm forms args → AreCounted forms args
counted [] [] h = (omega arith, omega arith)
counted [] (field ∷ args) h = absurd h
counted (form ∷ forms) [] h = (omega (arith, h), omega arith)
counted (form ∷ forms) (field ∷ args) h =
    let rest = counted forms args h.1 in
    (omega (arith, rest.0, one_at_most form, sum_by-cons needed form forms), omega (arith, rest.1))

none_bad : (forms : List Form) (args : List (List ℕ)) (k : ℕ) → AreInForm forms args → IsFirstBadField forms args k → ⊥
none_bad [] args k h b = b
none_bad (form ∷ forms) [] k h b = b
none_bad (form ∷ forms) (field ∷ args) zero h b = b
none_bad (form ∷ forms) (field ∷ args) (suc zero) h b = b h.0
none_bad (form ∷ forms) (field ∷ args) (suc (suc k)) h b = none_bad forms args (suc k) h.1 b.1

no_args : (forms : List Form) (args : List (List ℕ)) (cause : LineCause) → AreInForm forms args → HasArgsCause forms args cause → ⊥
no_args forms args causes.Lane h c = c
no_args forms args causes.Pool h c = c
no_args forms args causes.Verb h c = c
no_args forms args causes.Fields h c = c (counted forms args h)
no_args forms args (causes.Field k) h c = none_bad forms args k h c.1

-- the cause is in the fields after a verb
abbrev IsAfterVerb : List (List ℕ) → LineCause → Type 0
IsAfterVerb after cause = (verb : Verb) × ((args : List (List ℕ)) × ((after ≡ verb_text verb ∷ args) × HasArgsCause (forms_of verb) args cause))

after_verb : (after : List (List ℕ)) (cause : LineCause) → IsInForm after → IsAfterVerb after cause → ⊥
after_verb after cause f c =
    let e : verb_text f.verb ∷ f.args ≡ verb_text c.0 ∷ c.1.0 = sym f.spelled ∙ c.1.1.0 in
    let good : AreInForm (forms_of c.0) c.1.0 =
    subst (λ (v : Verb). AreInForm (forms_of v) c.1.0) (same_verb f.verb c.0 f.args c.1.0 e) (subst (AreInForm (forms_of f.verb)) (ap (drop 1) e) f.good) in
    no_args (forms_of c.0) c.1.0 cause good c.1.1.1

no_verb : (after : List (List ℕ)) (cause : LineCause) → IsInForm after → HasVerbCause after cause → ⊥
no_verb after causes.Lane f c = after_verb after causes.Lane f c
no_verb after causes.Pool f c = after_verb after causes.Pool f c
no_verb after causes.Verb f c = c f.verb f.args f.spelled
no_verb after causes.Fields f c = after_verb after causes.Fields f c
no_verb after (causes.Field k) f c = after_verb after (causes.Field k) f c

-- the first byte of a field that names a pool
pub first_byte : (field name : List ℕ) (fs others : List (List ℕ)) → BeginsAt (field ∷ fs) name others → get_or field 0 0 ≡ 64
first_byte field name fs others e = ap (λ (l : List (List ℕ)). get_or (get_or l 0 []) 0 0) e

-- no verb begins with `@`
pub no_sign : (verb : Verb) (args : List (List ℕ)) → BeginsElsewhere (verb_text verb ∷ args)
no_sign verbs.Firm args = λ name others e. absurd (omega (arith, first_byte (verb_text verbs.Firm) name args others e))
no_sign verbs.File args = λ name others e. absurd (omega (arith, first_byte (verb_text verbs.File) name args others e))
no_sign verbs.Confirm args = λ name others e. absurd (omega (arith, first_byte (verb_text verbs.Confirm) name args others e))
no_sign verbs.Dispute args = λ name others e. absurd (omega (arith, first_byte (verb_text verbs.Dispute) name args others e))
no_sign verbs.Withdraw args = λ name others e. absurd (omega (arith, first_byte (verb_text verbs.Withdraw) name args others e))
no_sign verbs.Receive args = λ name others e. absurd (omega (arith, first_byte (verb_text verbs.Receive) name args others e))
no_sign verbs.Fund args = λ name others e. absurd (omega (arith, first_byte (verb_text verbs.Fund) name args others e))
no_sign verbs.Draw args = λ name others e. absurd (omega (arith, first_byte (verb_text verbs.Draw) name args others e))
no_sign verbs.Limit args = λ name others e. absurd (omega (arith, first_byte (verb_text verbs.Limit) name args others e))
no_sign verbs.Offer args = λ name others e. absurd (omega (arith, first_byte (verb_text verbs.Offer) name args others e))
no_sign verbs.Position args = λ name others e. absurd (omega (arith, first_byte (verb_text verbs.Position) name args others e))
no_sign verbs.Close args = λ name others e. absurd (omega (arith, first_byte (verb_text verbs.Close) name args others e))
no_sign verbs.Abandon args = λ name others e. absurd (omega (arith, first_byte (verb_text verbs.Abandon) name args others e))

pub begins_elsewhere : (after : List (List ℕ)) → IsInForm after → BeginsElsewhere after
begins_elsewhere after f = λ name others e. no_sign f.verb f.args name others (sym f.spelled ∙ e)

-- two lists that begin with a pool are of one name and the same after it
pub same_pool : (pool other : List ℕ) (fs others : List (List ℕ)) → pool_field pool ∷ fs ≡ pool_field other ∷ others → (pool ≡ other) × (fs ≡ others)
same_pool pool other fs others e = (ap (λ (l : List (List ℕ)). drop 1 (get_or l 0 [])) e, ap (drop 1) e)

-- the cause is in the fields after a pool, or after a lane alone
abbrev IsAfterPool : List (List ℕ) → LineCause → Type 0
IsAfterPool after cause = (BeginsElsewhere after × HasVerbCause after cause)
    ⊎ ((pool : List ℕ) × ((others : List (List ℕ)) × (IsOtherPool pool × BeginsAt after pool others × HasVerbCause others cause)))

after_pool : (b : Bool) (pool : List ℕ) (fs : List (List ℕ)) (cause : LineCause) → IsInForm fs → IsAfterPool ((if b then [] else pool_field pool ∷ []) ++ fs) cause → ⊥
after_pool true pool fs cause f (inl h) = no_verb fs cause f h.1
after_pool true pool fs cause f (inr h) = begins_elsewhere fs f h.0 h.1.0 h.1.1.1
after_pool false pool fs cause f (inl h) = h.0 pool fs refl
after_pool false pool fs cause f (inr h) = no_verb fs cause f (subst (λ (l : List (List ℕ)). HasVerbCause l cause) (sym (same_pool pool h.0 fs h.1.0 h.1.1.1).1) h.1.1.2)

bad_pool : (b : Bool) (pool : List ℕ) (fs : List (List ℕ)) → is_main pool ≡ b → is_name pool ≡ true → IsInForm fs → HasPoolCause ((if b then [] else pool_field pool ∷ []) ++ fs) causes.Pool → ⊥
bad_pool true pool fs main is_named f h = begins_elsewhere fs f h.0 h.1.0 h.1.1.0
bad_pool false pool fs main is_named f h = h.1.1.1 (subst IsOtherPool (same_pool pool h.0 fs h.1.0 h.1.1.0).0 (is_named, main))

no_pool : (pool : List ℕ) (fs : List (List ℕ)) (cause : LineCause) → is_name pool ≡ true → IsInForm fs → HasPoolCause (pool_fields pool ++ fs) cause → ⊥
no_pool pool fs causes.Lane is_named f c = after_pool (is_main pool) pool fs causes.Lane f c
no_pool pool fs causes.Pool is_named f c = bad_pool (is_main pool) pool fs refl is_named f c
no_pool pool fs causes.Verb is_named f c = after_pool (is_main pool) pool fs causes.Verb f c
no_pool pool fs causes.Fields is_named f c = after_pool (is_main pool) pool fs causes.Fields f c
no_pool pool fs (causes.Field k) is_named f c = after_pool (is_main pool) pool fs (causes.Field k) f c

-- the cause is in the fields after a lane
abbrev IsAfterLane : List (List ℕ) → LineCause → Type 0
IsAfterLane parts cause = (lane : ℕ) × ((after : List (List ℕ)) × (IsLane lane × (parts ≡ decimal lane ∷ after) × HasPoolCause after cause))

abbrev HasNoPoolCause : List (List ℕ) → LineCause → Type 0
HasNoPoolCause after cause = HasPoolCause after cause → ⊥

after_lane : (lane : ℕ) (after : List (List ℕ)) (cause : LineCause) → HasNoPoolCause after cause → IsAfterLane (decimal lane ∷ after) cause → ⊥
after_lane lane after cause none c = none (subst (λ (l : List (List ℕ)). HasPoolCause l cause) (sym (ap (drop 1) c.1.1.1)) c.1.1.2)

no_parts : (lane : ℕ) (after : List (List ℕ)) (cause : LineCause) → IsLane lane → HasNoPoolCause after cause → HasCause (decimal lane ∷ after) cause → ⊥
no_parts lane after causes.Lane by none c = c lane after by refl
no_parts lane after causes.Pool by none c = after_lane lane after causes.Pool none c
no_parts lane after causes.Verb by none c = after_lane lane after causes.Verb none c
no_parts lane after causes.Fields by none c = after_lane lane after causes.Fields none c
no_parts lane after (causes.Field k) by none c = after_lane lane after (causes.Field k) none c

pub asks_nothing : (line : List ℕ) (cause : LineCause) → HasCause (fields line) cause → (lane : ℕ) (pool : List ℕ) (a : Act) → IsLine line lane pool a → ⊥
asks_nothing line cause c lane pool a l =
    let parts : fields line ≡ line_fields lane pool a = ap fields l.spelled ∙ cut_fields join_law visible_law lane pool a l.by l.named l.valid in
    no_parts lane (pool_fields pool ++ act_fields a) cause l.by (no_pool pool (act_fields a) cause l.named (in_form a l.valid))
    (subst (λ (ps : List (List ℕ)). HasCause ps cause) parts c)

-- ---- the cause is in the fields after a lane

no_lane_after : (after : List (List ℕ)) → HasPoolCause after causes.Lane → ⊥
no_lane_after after (inl h) = h.1.1.1.1
no_lane_after after (inr h) = h.1.1.2.1.1.1

-- a lane and the cause of the fields after it
pub lane_cause : (parts : List (List ℕ)) (lane : ℕ) (after : List (List ℕ)) (cause : LineCause) → IsLane lane → parts ≡ decimal lane ∷ after → HasPoolCause after cause → HasCause parts cause
lane_cause parts lane after causes.Lane by e h = absurd (no_lane_after after h)
lane_cause parts lane after causes.Pool by e h = (lane, (after, (by, e, h)))
lane_cause parts lane after causes.Verb by e h = (lane, (after, (by, e, h)))
lane_cause parts lane after causes.Fields by e h = (lane, (after, (by, e, h)))
lane_cause parts lane after (causes.Field k) by e h = (lane, (after, (by, e, h)))
