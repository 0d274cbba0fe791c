-- A line and its fields.
use Rattle.std.proofs.Common.{◌≡◌, ℕ, ◌<◌, ◌≤◌, ◌+◌, ◌/◌, ◌%◌, ◌^◌, Bool, true, false, if◌then◌else◌, List, [], ◌∷◌, ◌++◌, refl, sym, ap, ◌∙◌, subst, arith, decimal}
use Rattle.std.specs.Prelude.{◌&&◌, nat_le, codes, Option, Some, None, Result, Ok, Err, IfOk, IfErr}
use Rattle.std.specs.List.{AllByRecursion}
use Rattle.std.proofs.lemmas.Bool.{leb-true, and_parts}
use Rattle.setoff_model.specs.declared.limits.TheConstants.{MOST_AMOUNT}
use Rattle.setoff_model.specs.declared.name.Key.{Key}
use Rattle.setoff_model.specs.Names.{is_name}
use Rattle.setoff_model.specs.declared.kind.Kind.{Kind}
use Rattle.setoff_model.specs.declared.kind.Kind.TheVariants.{Plain, Funded}
use Rattle.setoff_model.specs.Texts.{cents_text, kind_text}
use Rattle.setoff_model.proofs.Spelling.{spelling_law}
use Rattle.text_lines.specs.Fields.{fields, line_of, HasNoSpace, JoinLaw, IsVisible, VisibleLaw}
use Rattle.text_lines.proofs.Spaces.{no_space_of}
use Rattle.text_lines.proofs.Visible.{known, join, two}
use Rattle.claim_history.specs.declared.act.Act.{Act}
use Rattle.claim_history.specs.declared.act.Act.TheVariants as act
use Rattle.claim_history.specs.Pools.{is_main}
use Rattle.claim_history.specs.Days.{day_text, date_of, two_digits}
use Rattle.claim_history.specs.Acts.{is_request, is_key, is_agreed, is_amount, is_claim_amount, is_day, agreed_fields, act_fields}
use Rattle.request_text.specs.declared.error.LineCause.{LineCause}
use Rattle.request_text.specs.Lanes.{IsLane}
use Rattle.request_text.specs.Pools.{pool_field, pool_fields}
use Rattle.request_text.specs.Causes.{HasCause, HasForm, some_cents}
use Rattle.request_text.specs.Grammar.{AreFields, IsLine, line_fields}

amount_within : (cents : ℕ) → is_claim_amount cents ≡ true → (1 ≤ cents) × (cents ≤ MOST_AMOUNT)
amount_within cents h =
    let p : (nat_le 1 cents ≡ true) × (nat_le cents MOST_AMOUNT ≡ true) = and_parts _ _ h in
    (leb-true 1 cents p.0, leb-true cents MOST_AMOUNT p.1)

-- nothing is no amount of a claim
pub nothing : (field : List ℕ) (cents : ℕ) → cents ≡ 0 → field ≡ cents_text cents → HasForm some_cents field → ⊥
nothing field cents none e f =
    let w = amount_within f.0 f.1.0 in
    let same : cents ≡ f.0 = spelling_law.cents cents f.0 (omega arith) (omega (arith, w.1)) (sym e ∙ f.1.1) in
    absurd (omega (arith, w.0))

-- the fields of an act are visible

digits_visible : (n : ℕ) → IsVisible (two_digits n)
digits_visible n = two (48 + n / 10 % 10) (48 + n % 10) (omega arith) (omega arith)

dash_visible : IsVisible (codes "-")
dash_visible = known (codes "-") refl

day_visible : (n : ℕ) → IsVisible (day_text n)
day_visible n =
    let c = date_of n in
    let year = join (two_digits (c.year / 100)) (two_digits c.year) (digits_visible (c.year / 100)) (digits_visible c.year) in
    let month = join (two_digits (c.year / 100) ++ two_digits c.year ++ codes "-") (two_digits c.month) (join (two_digits (c.year / 100) ++ two_digits c.year) (codes "-") year dash_visible) (digits_visible c.month) in
    join (two_digits (c.year / 100) ++ two_digits c.year ++ codes "-" ++ two_digits c.month ++ codes "-") (two_digits c.day)
    (join (two_digits (c.year / 100) ++ two_digits c.year ++ codes "-" ++ two_digits c.month) (codes "-") month dash_visible)
    (digits_visible c.day)

key_visible : VisibleLaw → (key : Key) → is_key key ≡ true → IsVisible key.creditor × IsVisible key.invoice
key_visible law key h =
    let k = and_parts (is_name key.creditor) (is_name key.invoice) h in
    (law.names key.creditor k.0, law.names key.invoice k.1)

amount_visible : VisibleLaw → (cents : ℕ) → is_amount cents ≡ true → IsVisible (cents_text cents)
amount_visible law cents h = law.cents cents (omega (arith, leb-true cents MOST_AMOUNT h))

claim_amount_visible : VisibleLaw → (cents : ℕ) → is_claim_amount cents ≡ true → IsVisible (cents_text cents)
claim_amount_visible law cents h = amount_visible law cents (and_parts (nat_le 1 cents) (is_amount cents) h).1

agreed_visible : VisibleLaw → (agreed : Option ℕ) → is_agreed agreed ≡ true → AllByRecursion IsVisible (agreed_fields agreed)
agreed_visible law None h = tt
agreed_visible law (Some cents) h = (claim_amount_visible law cents h, tt)

kind_visible : (kind : Kind) → IsVisible (kind_text kind)
kind_visible Plain = known (codes "PLAIN") refl
kind_visible Funded = known (codes "FUNDED") refl

pub fields_visible : VisibleLaw → (a : Act) → is_request a ≡ true → AllByRecursion IsVisible (act_fields a)
fields_visible law (act.Firm firm) h = (known (codes "FIRM") refl, (law.names firm h, tt))
fields_visible law (act.File key debtor amount due) h =
    let p = and_parts (is_key key && is_name debtor && is_claim_amount amount) (is_day due) h in
    let q = and_parts (is_key key && is_name debtor) (is_claim_amount amount) p.0 in
    let r = and_parts (is_key key) (is_name debtor) q.0 in
    let k = r.0 in
    (known (codes "FILE") refl, ((key_visible law key k).0, ((key_visible law key k).1, (law.names debtor r.1, (claim_amount_visible law amount q.1, (day_visible due, tt))))))
fields_visible law (act.Confirm key debtor agreed) h =
    let p = and_parts (is_key key && is_name debtor) (is_agreed agreed) h in
    let r = and_parts (is_key key) (is_name debtor) p.0 in
    let k = r.0 in
    (known (codes "CONFIRM") refl, ((key_visible law key k).0, ((key_visible law key k).1, (law.names debtor r.1, agreed_visible law agreed p.1))))
fields_visible law (act.Dispute key debtor) h =
    let r = and_parts (is_key key) (is_name debtor) h in
    let k = r.0 in
    (known (codes "DISPUTE") refl, ((key_visible law key k).0, ((key_visible law key k).1, (law.names debtor r.1, tt))))
fields_visible law (act.Withdraw key) h =
    let k = h in
    (known (codes "WITHDRAW") refl, ((key_visible law key k).0, ((key_visible law key k).1, tt)))
fields_visible law (act.Receive key amount) h =
    let r = and_parts (is_key key) (is_claim_amount amount) h in
    let k = r.0 in
    (known (codes "RECEIVE") refl, ((key_visible law key k).0, ((key_visible law key k).1, (claim_amount_visible law amount r.1, tt))))
fields_visible law (act.Fund firm amount) h =
    let r = and_parts (is_name firm) (is_claim_amount amount) h in
    (known (codes "FUND") refl, (law.names firm r.0, (claim_amount_visible law amount r.1, tt)))
fields_visible law (act.Draw firm amount) h =
    let r = and_parts (is_name firm) (is_claim_amount amount) h in
    (known (codes "DRAW") refl, (law.names firm r.0, (claim_amount_visible law amount r.1, tt)))
fields_visible law (act.Limit firm credit ceiling) h =
    let r = and_parts (is_name firm && is_amount credit) (is_amount ceiling) h in
    let q = and_parts (is_name firm) (is_amount credit) r.0 in
    (known (codes "LIMIT") refl, (law.names firm q.0, (amount_visible law credit q.1, (amount_visible law ceiling r.1, tt))))
fields_visible law (act.Offer firm amount) h =
    let r = and_parts (is_name firm) (is_amount amount) h in
    (known (codes "OFFER") refl, (law.names firm r.0, (amount_visible law amount r.1, tt)))
fields_visible law (act.Position firm) h = (known (codes "POSITION") refl, (law.names firm h, tt))
fields_visible law (act.Close kind horizon) h = (known (codes "CLOSE") refl, (kind_visible kind, (day_visible horizon, tt)))
fields_visible law (act.Abandon) h = (known (codes "ABANDON") refl, tt)
fields_visible law (act.Publish round outcome) h = absurd cc

-- so are those of a pool and an act
pooled : (b : Bool) (pool : List ℕ) (fs : List (List ℕ)) → IsVisible (pool_field pool) → AllByRecursion IsVisible fs → AllByRecursion IsVisible ((if b then [] else pool_field pool ∷ []) ++ fs)
pooled true pool fs own h = h
pooled false pool fs own h = (own, h)

pub all_visible : VisibleLaw → (pool : List ℕ) (a : Act) → is_name pool ≡ true → is_request a ≡ true → AllByRecursion IsVisible (pool_fields pool ++ act_fields a)
all_visible law pool a named valid = pooled (is_main pool) pool (act_fields a) (join (codes "@") pool (known (codes "@") refl) (law.names pool named)) (fields_visible law a valid)

no_spaces : (fs : List (List ℕ)) → AllByRecursion IsVisible fs → AllByRecursion HasNoSpace fs
no_spaces [] h = tt
no_spaces (f ∷ fs) h = (no_space_of f h.0, no_spaces fs h.1)

-- each act has a verb, and what is after it
pub has_verb : (a : Act) → (verb : List ℕ) × ((args : List (List ℕ)) × (act_fields a ≡ verb ∷ args))
has_verb (act.Firm firm) = (_, (_, refl))
has_verb (act.File key debtor amount due) = (_, (_, refl))
has_verb (act.Confirm key debtor agreed) = (_, (_, refl))
has_verb (act.Dispute key debtor) = (_, (_, refl))
has_verb (act.Withdraw key) = (_, (_, refl))
has_verb (act.Receive key amount) = (_, (_, refl))
has_verb (act.Fund firm amount) = (_, (_, refl))
has_verb (act.Draw firm amount) = (_, (_, refl))
has_verb (act.Limit firm credit ceiling) = (_, (_, refl))
has_verb (act.Offer firm amount) = (_, (_, refl))
has_verb (act.Position firm) = (_, (_, refl))
has_verb (act.Close kind horizon) = (_, (_, refl))
has_verb (act.Abandon) = (_, (_, refl))
has_verb (act.Publish round outcome) = (_, (_, refl))

-- no lane has another's text
pub one_lane : (a b : ℕ) → IsLane b → a < 2 ^ 64 → decimal a ≡ decimal b → a ≡ b
one_lane a b h small e = spelling_law.whole a b small (omega (arith, h.1)) e

pub no_lane : (field : List ℕ) (number : ℕ) → number < 2 ^ 64 → field ≡ decimal number → (IsLane number → ⊥) → (lane : ℕ) → IsLane lane → field ≡ decimal lane → ⊥
no_lane field number small is wrong lane h e = wrong (subst IsLane (sym (one_lane number lane h small (sym is ∙ e))) h)

-- the fields of a line are cut out of it again
pub cut_fields : JoinLaw → VisibleLaw → (lane : ℕ) (pool : List ℕ) (a : Act) → IsLane lane → is_name pool ≡ true → is_request a ≡ true
    → fields (line_of (line_fields lane pool a)) ≡ line_fields lane pool a
cut_fields law visible lane pool a by named valid =
    law.cut (decimal lane) (pool_fields pool ++ act_fields a) (no_space_of (decimal lane) (visible.whole lane (omega (arith, by.1))))
    (no_spaces (pool_fields pool ++ act_fields a) (all_visible visible pool a named valid))

-- a line is read by its fields

is_line : JoinLaw → (line : List ℕ) (lane : ℕ) (pool : List ℕ) (a : Act) → AreFields (fields line) lane pool a → IsLine line lane pool a
is_line law line lane pool a h = record { by = h.by; named = h.named; valid = h.valid; spelled = sym (law.joined line) ∙ ap line_of h.spelled }

abbrev Found : Type 0
Found = ℕ × List ℕ × Act

pub found_line : JoinLaw → (line : List ℕ) (parts : List (List ℕ)) (r : Result Found LineCause) → parts ≡ fields line → IfOk r (λ (x : Found). AreFields parts x.0 x.1 x.2)
    → IfOk r (λ (x : Found). IsLine line x.0 x.1 x.2)
found_line law line parts (Ok x) e h = is_line law line x.0 x.1 x.2 (record { by = h.by; named = h.named; valid = h.valid; spelled = sym e ∙ h.spelled })
found_line law line parts (Err cause) e h = tt

pub bad_line : (line : List ℕ) (parts : List (List ℕ)) (r : Result Found LineCause) → parts ≡ fields line → IfErr r (HasCause parts) → IfErr r (HasCause (fields line))
bad_line line parts (Ok x) e h = tt
bad_line line parts (Err cause) e h = subst (λ (ps : List (List ℕ)). HasCause ps cause) e h
