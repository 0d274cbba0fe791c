-- The first malformed line of a load.
use Rattle.std.specs.Prelude.{drop, Option, Some, None, IfSome, IfNone}
use Rattle.std.specs.Str.Lines.{lines}
use Rattle.std.proofs.Common.{◌≡◌, ◌∙◌, ◌⊎◌, ⊎_elim, inl, inr, ℕ, ◌+◌, ◌<◌, Bool, true, false, true≢false, if◌then◌else◌, List, [], ◌∷◌, ◌++◌, All, decimal, get_or, length, refl, sym, ap, ap₂, subst, arith}
use Rattle.std.proofs.lemmas.List.Elements.{All-cons, All-head, All-nil, All-tail}
use Rattle.setoff_model.specs.Names.{is_name}
use Rattle.setoff_model.proofs.Lists.{All-first}
use Rattle.text_lines.specs.Fields.{fields}
use Rattle.text_lines.proofs.Joining.{join_law}
use Rattle.text_lines.proofs.Visible.{visible_law}
use Rattle.request_text.specs.claim_history.specs.declared.act.Act.{Act}
use Rattle.request_text.specs.claim_history.specs.declared.act.Act.TheVariants as act
use Rattle.request_text.specs.claim_history.specs.Acts.{act_fields, is_close}
use Rattle.request_text.specs.claim_history.specs.Pools.{is_main}
use Rattle.request_text.specs.declared.error.LineCause.{LineCause}
use Rattle.request_text.specs.declared.error.LineCause.TheVariants as causes
use Rattle.request_text.specs.declared.error.RequestError.{RequestError}
use Rattle.request_text.specs.declared.error.RequestError.TheVariants as errors
use Rattle.request_text.specs.declared.request.Request.{Request}
use Rattle.request_text.specs.declared.verb.Verb.TheVariants as verbs
use Rattle.request_text.specs.Lanes.{IsLane, fence}
use Rattle.request_text.specs.Pools.{IsOtherPool, pool_field, pool_fields}
use Rattle.request_text.specs.Causes.{BeginsAt, HasCause, HasPoolCause, verb_text}
use Rattle.request_text.specs.Grammar.{AreBatches, IsFirstBadLine, IsLine, IsNoRequestText, IsRequestText, OnBadLine, line_fields}
use Rattle.request_text.proofs.Causes.{begins_elsewhere, in_form, same_pool}
use Rattle.request_text.proofs.Words.{cut_fields}
use Rattle.load_reading.specs.Reading.{AsksClose, BeginsWithClose, ClosesIn, HasLoadCause, HaveNoClose, IsFirstBadLoadLine, IsFirstNaming, IsLoadText, IsNoLoadText, NamesClose, NamesNone, is_behind_verb}

-- ---- the verb of a line

-- the first and the second byte of the first field
first_byte : (a b : List (List ℕ)) → a ≡ b → get_or (get_or a 0 []) 0 0 ≡ get_or (get_or b 0 []) 0 0
first_byte a b e = ap (λ (l : List (List ℕ)). get_or (get_or l 0 []) 0 0) e

second_byte : (a b : List (List ℕ)) → a ≡ b → get_or (get_or a 0 []) 1 0 ≡ get_or (get_or b 0 []) 1 0
second_byte a b e = ap (λ (l : List (List ℕ)). get_or (get_or l 0 []) 1 0) e

-- no field that names a pool is the verb
no_pool_closes : (pool : List ℕ) (others : List (List ℕ)) → BeginsWithClose (pool_field pool ∷ others) → ⊥
no_pool_closes pool others b = omega (arith, first_byte (pool_field pool ∷ others) (verb_text verbs.Close ∷ b.0) b.1)

-- of the acts a Close alone has it
close_or : (a : Act) → (is_close a ≡ false) ⊎ BeginsWithClose (act_fields a)
close_or (act.Firm firm) = inl refl
close_or (act.File key debtor amount due) = inl refl
close_or (act.Confirm key debtor agreed) = inl refl
close_or (act.Dispute key debtor) = inl refl
close_or (act.Withdraw key) = inl refl
close_or (act.Receive key amount) = inl refl
close_or (act.Fund firm amount) = inl refl
close_or (act.Draw firm amount) = inl refl
close_or (act.Limit firm credit ceiling) = inl refl
close_or (act.Offer firm amount) = inl refl
close_or (act.Position firm) = inl refl
close_or (act.Close kind horizon) = inr (_, refl)
close_or (act.Abandon) = inl refl
close_or (act.Publish round outcome) = inl refl

other_verb : (P : Type 0) (a b : List (List ℕ)) → a ≡ b → (get_or (get_or a 0 []) 1 0 ≡ get_or (get_or b 0 []) 1 0 → ⊥) → P
other_verb P a b e none = absurd (none (second_byte a b e))

is_closing : (a : Act) → BeginsWithClose (act_fields a) → is_close a ≡ true
is_closing (act.Firm firm) b = other_verb _ _ _ b.1 (λ e. omega (arith, e))
is_closing (act.File key debtor amount due) b = other_verb _ _ _ b.1 (λ e. omega (arith, e))
is_closing (act.Confirm key debtor agreed) b = other_verb _ _ _ b.1 (λ e. omega (arith, e))
is_closing (act.Dispute key debtor) b = other_verb _ _ _ b.1 (λ e. omega (arith, e))
is_closing (act.Withdraw key) b = other_verb _ _ _ b.1 (λ e. omega (arith, e))
is_closing (act.Receive key amount) b = other_verb _ _ _ b.1 (λ e. omega (arith, e))
is_closing (act.Fund firm amount) b = other_verb _ _ _ b.1 (λ e. omega (arith, e))
is_closing (act.Draw firm amount) b = other_verb _ _ _ b.1 (λ e. omega (arith, e))
is_closing (act.Limit firm credit ceiling) b = other_verb _ _ _ b.1 (λ e. omega (arith, e))
is_closing (act.Offer firm amount) b = other_verb _ _ _ b.1 (λ e. omega (arith, e))
is_closing (act.Position firm) b = other_verb _ _ _ b.1 (λ e. omega (arith, e))
is_closing (act.Close kind horizon) b = refl
is_closing (act.Abandon) b = other_verb _ _ _ b.1 (λ e. omega (arith, e))
is_closing (act.Publish round outcome) b = other_verb _ _ _ b.1 (λ e. omega (arith, e))

-- fields that ask for it name it
pub asks_names : (parts : List (List ℕ)) → AsksClose parts → NamesClose parts
asks_names parts a = (decimal a.0, (a.1.0, (a.1.1.1, ⊎_elim (λ b. inl b) (λ o. inr (o.0, (o.1.0, (o.1.1.1, o.1.1.2)))) a.1.1.2)))

names_in : (parts : List (List ℕ)) (lane : List ℕ) (after : List (List ℕ)) → parts ≡ lane ∷ after → NamesClose parts → ClosesIn after
names_in parts lane after e n = subst ClosesIn (ap (drop 1) (sym n.1.1.0 ∙ e)) n.1.1.1

module _ (lane : ℕ) (pool : List ℕ) (a : Act) (by : IsLane lane) (named : is_name pool ≡ true) where
  asks_by : (b : Bool) → is_main pool ≡ b → BeginsWithClose (act_fields a) → AsksClose (decimal lane ∷ ((if b then [] else pool_field pool ∷ []) ++ act_fields a))
  asks_by true main close = (lane, (act_fields a, (by, refl, inl close)))
  asks_by false main close = (lane, (pool_field pool ∷ act_fields a, (by, refl, inr (pool, (act_fields a, ((named, main), refl, close))))))

  asks_so : BeginsWithClose (act_fields a) → AsksClose (line_fields lane pool a)
  asks_so close = asks_by (is_main pool) refl close

closes_by : (b : Bool) (pool : List ℕ) (a : Act) → ((name : List ℕ) (others : List (List ℕ)) → act_fields a ≡ pool_field name ∷ others → ⊥) → ClosesIn ((if b then [] else pool_field pool ∷ []) ++ act_fields a) → BeginsWithClose (act_fields a)
closes_by true pool a elsewhere (inl close) = close
closes_by true pool a elsewhere (inr other) = absurd (elsewhere other.0 other.1.0 other.1.1.0)
closes_by false pool a elsewhere (inl close) = absurd (no_pool_closes pool (act_fields a) close)
closes_by false pool a elsewhere (inr other) = subst BeginsWithClose (sym (same_pool pool other.0 (act_fields a) other.1.0 other.1.1.0).1) other.1.1.1

module _ (line : List ℕ) (lane : ℕ) (pool : List ℕ) (a : Act) (is : IsLine line lane pool a) where
  parts_are : fields line ≡ line_fields lane pool a
  parts_are = ap fields is.spelled ∙ cut_fields join_law visible_law lane pool a is.by is.named is.valid

  -- the line of a request names it exactly where it is a Close
  line_closes : NamesClose (fields line) → BeginsWithClose (act_fields a)
  line_closes n = closes_by (is_main pool) pool a (begins_elsewhere (act_fields a) (in_form a is.valid)) (names_in (fields line) (decimal lane) (pool_fields pool ++ act_fields a) parts_are n)

  pub line_asks : NamesClose (fields line) → AsksClose (fields line)
  line_asks n = subst AsksClose (sym parts_are) (asks_so lane pool a is.by is.named (line_closes n))

  pub line_is_close : NamesClose (fields line) → is_close a ≡ true
  line_is_close n = is_closing a (line_closes n)

  pub line_is_other : NamesNone line → is_close a ≡ false
  line_is_other none = ⊎_elim (λ other. other) (λ close. absurd (none (asks_names (fields line) (subst AsksClose (sym parts_are) (asks_so lane pool a is.by is.named close))))) (close_or a)

-- a fence does not
pub fence_names : (line : List ℕ) → line ≡ fence → NamesClose (fields line) → ⊥
fence_names line is n = ⊎_elim
    (λ (b : BeginsWithClose []). cc b.1)
    (λ o. cc o.1.1.0)
    (names_in (fields fence) fence [] refl (subst (λ (l : List ℕ). NamesClose (fields l)) is n))

-- ---- lines and batches

abbrev IsOther : Request → Type 0
IsOther request = is_close request.act ≡ false

abbrev AreOther : List Request → Type 0
AreOther batch = All IsOther batch

pub no_close : (number : ℕ) (ls : List (List ℕ)) (batches : List (List Request)) → AreBatches number ls batches → All NamesNone ls → HaveNoClose batches
no_close number ls [] h all = absurd h
no_close number [] (batch ∷ batches) h all = subst HaveNoClose (sym (ap₂ (λ (b : List Request) (bs : List (List Request)). b ∷ bs) h.0 h.1)) (All-cons AreOther [] [] (All-nil IsOther) (All-nil AreOther))
no_close number (line ∷ ls) ([] ∷ batches) h all = All-cons AreOther [] batches (All-nil IsOther) (no_close (number + 1) ls batches h.1 (All-tail NamesNone line ls all))
no_close number (line ∷ ls) ((r ∷ rs) ∷ batches) h all =
    let more = no_close (number + 1) ls (rs ∷ batches) h.2 (All-tail NamesNone line ls all) in
    let here = line_is_other line r.lane r.pool r.act h.1 (All-head NamesNone line ls all) in
    All-cons AreOther (r ∷ rs) batches (All-cons IsOther r rs here (All-head AreOther rs batches more)) (All-tail AreOther rs batches more)

-- the line is a fence or a request
abbrev IsGood : List ℕ → Type 0
IsGood line = (line ≡ fence) ⊎ ((lane : ℕ) × ((pool : List ℕ) × ((a : Act) × IsLine line lane pool a)))

-- the batches of the lines before a line
record FirstLines (number : ℕ) (before : List (List ℕ)) (line : List ℕ) : Type 0 where
  batches : List (List Request)
  spelled : AreBatches number before batches
  good : IsGood line

longer : (number : ℕ) (b : List ℕ) (before : List (List ℕ)) (line : List ℕ) (r : Request) → r.line ≡ number → IsLine b r.lane r.pool r.act → FirstLines (number + 1) before line → FirstLines number (b ∷ before) line
longer number b before line r at is f = grown f.batches f.spelled where
  grown : (bs : List (List Request)) → AreBatches (number + 1) before bs → FirstLines number (b ∷ before) line
  grown [] h = absurd h
  grown (rs ∷ bs) h = record { batches = (r ∷ rs) ∷ bs; spelled = (at, is, h); good = f.good }

first_lines : (number : ℕ) (before : List (List ℕ)) (line : List ℕ) (after : List (List ℕ)) (batches : List (List Request)) → AreBatches number (before ++ line ∷ after) batches → FirstLines number before line
first_lines number before line after [] h = absurd h
first_lines number [] line after ([] ∷ batches) h = record { batches = [] ∷ []; spelled = (refl, refl); good = inl h.0 }
first_lines number [] line after ((r ∷ rs) ∷ batches) h = record { batches = [] ∷ []; spelled = (refl, refl); good = inr (r.lane, (r.pool, (r.act, h.1))) }
first_lines number (b ∷ before) line after ([] ∷ batches) h =
    let f = first_lines (number + 1) before line after batches h.1 in
    record { batches = [] ∷ f.batches; spelled = (h.0, f.spelled); good = f.good }
first_lines number (b ∷ before) line after ((r ∷ rs) ∷ batches) h =
    longer number b before line r h.0 h.1 (first_lines (number + 1) before line after (rs ∷ batches) h.2)

-- batches with such a line have a Close
pub has_close : (number : ℕ) (before : List (List ℕ)) (line : List ℕ) (after : List (List ℕ)) (batches : List (List Request)) → AreBatches number (before ++ line ∷ after) batches → NamesClose (fields line) → HaveNoClose batches → ⊥
has_close number before line after [] h names none = h
has_close number [] line after ([] ∷ batches) h names none = fence_names line h.0 names
has_close number [] line after ((r ∷ rs) ∷ batches) h names none =
    true≢false (sym (line_is_close line r.lane r.pool r.act h.1 names) ∙ All-head IsOther r rs (All-head AreOther (r ∷ rs) batches none))
has_close number (b ∷ before) line after ([] ∷ batches) h names none = has_close (number + 1) before line after batches h.1 names (All-tail AreOther [] batches none)
has_close number (b ∷ before) line after ((r ∷ rs) ∷ batches) h names none =
    has_close (number + 1) before line after (rs ∷ batches) h.2 names
    (All-cons AreOther rs batches (All-tail IsOther r rs (All-head AreOther (r ∷ rs) batches none)) (All-tail AreOther (r ∷ rs) batches none))

-- ---- two places in the lines

-- what stands before the second place, up to the first
within : {X : Type 0} (xs us ys vs : List X) (x u : X) → xs ++ x ∷ ys ≡ us ++ u ∷ vs → length us < length xs → (mid : List X) × (xs ≡ us ++ u ∷ mid)
within [] us ys vs x u e lt = absurd (omega (arith, lt))
within (a ∷ xs) [] ys vs x u e lt = (xs, ap (λ (v : _). v ∷ xs) (ap (λ (l : List _). get_or l 0 a) e))
within (a ∷ xs) (b ∷ us) ys vs x u e lt =
    let rest = within xs us ys vs x u (ap (drop 1) e) (omega (arith, lt)) in
    (rest.0, ap₂ (λ (v : _) (l : List _). v ∷ l) (ap (λ (l : List _). get_or l 0 a) e) rest.1)

-- the same place
same_place : {X : Type 0} (xs us ys vs : List X) (x u : X) → xs ++ x ∷ ys ≡ us ++ u ∷ vs → length us ≡ length xs → (xs ≡ us) × (x ≡ u)
same_place [] [] ys vs x u e is = (refl, ap (λ (l : List _). get_or l 0 x) e)
same_place [] (b ∷ us) ys vs x u e is = absurd (omega (arith, is))
same_place (a ∷ xs) [] ys vs x u e is = absurd (omega (arith, is))
same_place (a ∷ xs) (b ∷ us) ys vs x u e is =
    let rest = same_place xs us ys vs x u (ap (drop 1) e) (omega (arith, is)) in
    (ap₂ (λ (v : _) (l : List _). v ∷ l) (ap (λ (l : List _). get_or l 0 a) e) rest.0, rest.1)

-- ---- the first malformed line

-- it is the first that names CLOSE, where the lines before it are in the grammar
named_bad : (input : List ℕ) (number : ℕ) (f : IsFirstNaming input number) (batches : List (List Request)) → AreBatches 1 f.before batches → AsksClose (fields f.line) → IsFirstBadLoadLine input number causes.Verb
named_bad input number f batches spelled asks = record {
  before = f.before;
  line = f.line;
  after = f.after;
  cut = f.cut;
  number_is = f.number_is;
  batches = batches;
  spelled = spelled;
  no_close = no_close 1 f.before batches spelled f.none;
  bad = record { no_fence = λ is. fence_names f.line is f.names; why = inr asks };
}

good_asks : (line : List ℕ) → IsGood line → NamesClose (fields line) → AsksClose (fields line)
good_asks line (inl is) names = absurd (fence_names line is names)
good_asks line (inr is) names = line_asks line is.0 is.1.0 is.1.1.0 is.1.1.1 names

-- among lines that are in the grammar
pub good_bad : (input : List ℕ) (number : ℕ) (f : IsFirstNaming input number) (mid : List (List ℕ)) (batches : List (List Request)) → AreBatches 1 (f.before ++ f.line ∷ mid) batches → IsFirstBadLoadLine input number causes.Verb
good_bad input number f mid batches spelled =
    let first = first_lines 1 f.before f.line mid batches spelled in
    named_bad input number f first.batches first.spelled (good_asks f.line first.good f.names)

-- a cause behind the verb, where the verb is CLOSE
behind_pool : (after : List (List ℕ)) (cause : LineCause) → is_behind_verb cause ≡ true → HasPoolCause after cause → ClosesIn after
    → BeginsWithClose after ⊎ ((pool : List ℕ) × ((others : List (List ℕ)) × (IsOtherPool pool × BeginsAt after pool others × BeginsWithClose others)))
behind_pool after causes.Lane behind h closes = absurd (true≢false (sym behind))
behind_pool after causes.Pool behind h closes = absurd (true≢false (sym behind))
behind_pool after causes.Verb behind h closes = absurd (true≢false (sym behind))
behind_pool after causes.Fields behind h (inl close) = inl close
behind_pool after causes.Fields behind (inl h) (inr other) = absurd (h.0 other.0 other.1.0 other.1.1.0)
behind_pool after causes.Fields behind (inr h) (inr other) =
    inr (h.0, (h.1.0, (h.1.1.0, h.1.1.1, subst BeginsWithClose (sym (same_pool h.0 other.0 h.1.0 other.1.0 (sym h.1.1.1 ∙ other.1.1.0)).1) other.1.1.1)))
behind_pool after (causes.Field k) behind h (inl close) = inl close
behind_pool after (causes.Field k) behind (inl h) (inr other) = absurd (h.0 other.0 other.1.0 other.1.1.0)
behind_pool after (causes.Field k) behind (inr h) (inr other) =
    inr (h.0, (h.1.0, (h.1.1.0, h.1.1.1, subst BeginsWithClose (sym (same_pool h.0 other.0 h.1.0 other.1.0 (sym h.1.1.1 ∙ other.1.1.0)).1) other.1.1.1)))

behind_asks : (parts : List (List ℕ)) (cause : LineCause) → is_behind_verb cause ≡ true → HasCause parts cause → NamesClose parts → AsksClose parts
behind_asks parts causes.Lane behind h names = absurd (true≢false (sym behind))
behind_asks parts causes.Pool behind h names = absurd (true≢false (sym behind))
behind_asks parts causes.Verb behind h names = absurd (true≢false (sym behind))
behind_asks parts causes.Fields behind h names = (h.0, (h.1.0, (h.1.1.0, h.1.1.1, behind_pool h.1.0 causes.Fields refl h.1.1.2 (names_in parts (decimal h.0) h.1.0 h.1.1.1 names))))
behind_asks parts (causes.Field k) behind h names = (h.0, (h.1.0, (h.1.1.0, h.1.1.1, behind_pool h.1.0 (causes.Field k) refl h.1.1.2 (names_in parts (decimal h.0) h.1.0 h.1.1.1 names))))

-- the cause of a request's line, where it is not so
load_cause : (parts : List (List ℕ)) (cause : LineCause) → HasCause parts cause → (is_behind_verb cause ≡ true → NamesClose parts → ⊥) → HasLoadCause parts cause
load_cause parts causes.Lane h none = h
load_cause parts causes.Pool h none = h
load_cause parts causes.Verb h none = inl h
load_cause parts causes.Fields h none = (h, λ asks. none refl (asks_names parts asks))
load_cause parts (causes.Field k) h none = (h, λ asks. none refl (asks_names parts asks))

none_at : (xs : List (List ℕ)) (x : List ℕ) (ys : List (List ℕ)) → All NamesNone (xs ++ x ∷ ys) → NamesNone x
none_at [] x ys h = All-head NamesNone x ys h
none_at (y ∷ xs) x ys h = none_at xs x ys (All-tail NamesNone y (xs ++ x ∷ ys) h)

module _ (input : List ℕ) (line : ℕ) (cause : LineCause) (b : IsFirstBadLine input line cause) where
  -- no line before it names CLOSE, and it does not where its cause lies behind the verb
  other_bad : All NamesNone b.before → (is_behind_verb cause ≡ true → NamesNone b.line) → IsFirstBadLoadLine input line cause
  other_bad before here = record {
    before = b.before;
    line = b.line;
    after = b.after;
    cut = b.cut;
    number_is = b.number_is;
    batches = b.batches;
    spelled = b.spelled;
    no_close = no_close 1 b.before b.batches b.spelled before;
    bad = record { no_fence = b.bad.no_fence; why = load_cause (fields b.line) cause b.bad.why here };
  }

  pub bad_unnamed : All NamesNone (lines input) → IsFirstBadLoadLine input line cause
  bad_unnamed none = let all = subst (All NamesNone) b.cut none in
      other_bad (All-first NamesNone b.before (b.line ∷ b.after) all) (λ behind. none_at b.before b.line b.after all)

  module _ (number : ℕ) (f : IsFirstNaming input number) where
    places : b.before ++ b.line ∷ b.after ≡ f.before ++ f.line ∷ f.after
    places = sym b.cut ∙ f.cut

    pub bad_before : (number < line) ⊎ ((number ≡ line) × (is_behind_verb cause ≡ true)) → IsFirstBadLoadLine input number causes.Verb
    bad_before (inl lt) =
        let mid = within b.before f.before b.after f.after b.line f.line places (omega (arith, lt, b.number_is, f.number_is)) in
        good_bad input number f mid.0 b.batches (subst (λ (ls : List (List ℕ)). AreBatches 1 ls b.batches) mid.1 b.spelled)
    bad_before (inr same) =
        let at = same_place b.before f.before b.after f.after b.line f.line places (omega (arith, same.0, b.number_is, f.number_is)) in
        named_bad input number f b.batches (subst (λ (ls : List (List ℕ)). AreBatches 1 ls b.batches) at.0 b.spelled)
        (behind_asks (fields f.line) cause same.1 (subst (λ (l : List ℕ). HasCause (fields l) cause) at.1 b.bad.why) f.names)

    pub bad_after : (line < number) ⊎ ((number ≡ line) × (is_behind_verb cause ≡ false)) → IsFirstBadLoadLine input line cause
    bad_after (inl lt) =
        let mid = within f.before b.before f.after b.after f.line b.line (sym places) (omega (arith, lt, b.number_is, f.number_is)) in
        let all = subst (All NamesNone) mid.1 f.none in
        other_bad (All-first NamesNone b.before (b.line ∷ mid.0) all) (λ behind. none_at b.before b.line mid.0 all)
    bad_after (inr same) =
        let at = same_place b.before f.before b.after f.after b.line f.line places (omega (arith, same.0, b.number_is, f.number_is)) in
        other_bad (subst (All NamesNone) (sym at.0) f.none) (λ behind. absurd (true≢false (sym behind ∙ same.1)))

-- ---- what a load reads

pub is_none : (input : List ℕ) (close : Option ℕ) → close ≡ None → IfNone close (All NamesNone (lines input)) → All NamesNone (lines input)
is_none input None is h = h
is_none input (Some n) is h = absurd (cc is)

pub is_some : (input : List ℕ) (close : Option ℕ) (n : ℕ) → close ≡ Some n → IfSome close (IsFirstNaming input) → IsFirstNaming input n
is_some input close n is h = subst (λ (o : Option ℕ). IfSome o (IsFirstNaming input)) is h

pub load_text : (input : List ℕ) (batches : List (List Request)) → IsRequestText input batches → All NamesNone (lines input) → IsLoadText input batches
load_text input batches spelled none = (spelled, no_close 1 (lines input) batches spelled none)

pub load_bad : (input : List ℕ) (number : ℕ) (f : IsFirstNaming input number) (batches : List (List Request)) → IsRequestText input batches → IsFirstBadLoadLine input number causes.Verb × IsNoLoadText input
load_bad input number f batches spelled = (
  good_bad input number f f.after batches (subst (λ (ls : List (List ℕ)). AreBatches 1 ls batches) f.cut spelled),
  (λ others text. has_close 1 f.before f.line f.after others (subst (λ (ls : List (List ℕ)). AreBatches 1 ls others) f.cut text.0) f.names text.1),
)

pub no_load : (input : List ℕ) (e : RequestError) → OnBadLine (IsFirstBadLoadLine input) e → IsNoRequestText input → OnBadLine (λ number cause. IsFirstBadLoadLine input number cause × IsNoLoadText input) e
no_load input errors.Memory h none = tt
no_load input (errors.BadLine line cause) h none = (h, λ batches text. none batches text.0)

pub none_of : (input : List ℕ) (e : RequestError) (line : ℕ) (cause : LineCause) → e ≡ errors.BadLine line cause → OnBadLine (λ n why. IsFirstBadLine input n why × IsNoRequestText input) e → IsNoRequestText input
none_of input e line cause is h = (subst (OnBadLine (λ n why. IsFirstBadLine input n why × IsNoRequestText input)) is h).1
