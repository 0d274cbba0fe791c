-- Acts by their fields.
use Rattle.std.specs.Prelude.{codes, decimal, ◌&&◌, nat_le, nat_lt, Option, Some, None}
use Rattle.std.specs.List.{AllByRecursion}
use Rattle.std.specs.Str.{bytes_eq}
use Rattle.std.proofs.Common.{◌≡◌, ◌∙◌, ⊎_elim, inl, inr, ℕ, ◌+◌, ◌/◌, ◌%◌, ◌<◌, ◌^◌, eqb, true, false, List, [], ◌∷◌, ◌++◌, length, get_or, All, refl, sym, ap, true≢false, append_assoc, length-append, arith}
use Rattle.std.specs.Prelude.{◌⊎◌}
use Rattle.std.proofs.lemmas.Bool.{and_parts, ltb-true}
use Rattle.std.proofs.lemmas.List.Elements.{All-head}
use Rattle.batch_runs.specs.setoff_model.specs.declared.kind.Kind.{Kind}
use Rattle.batch_runs.specs.setoff_model.specs.declared.kind.Kind.TheVariants.{Plain, Funded}
use Rattle.batch_runs.specs.setoff_model.specs.declared.name.Key.{Key}
use Rattle.batch_runs.specs.setoff_model.specs.CutView.{OutcomeView}
use Rattle.batch_runs.specs.setoff_model.specs.Names.{is_name}
use Rattle.batch_runs.specs.setoff_model.specs.Texts.{cents_text, kind_text}
use Rattle.batch_runs.specs.setoff_model.proofs.Spelling.{spelling_law}
use Rattle.batch_runs.specs.claim_history.specs.declared.act.Act.{Act}
use Rattle.batch_runs.specs.claim_history.specs.declared.act.Act.TheVariants as act
use Rattle.batch_runs.specs.claim_history.specs.Days.{day_text}
use Rattle.batch_runs.specs.claim_history.specs.Acts.{act_fields, agreed_fields, is_agreed, is_claim_amount, is_amount, is_day, is_key, is_outcome, is_publication, is_request, is_round, is_valid}
use Rattle.batch_runs.specs.claim_history.proofs.Shapes.{act_texts_law}
use Rattle.batch_runs.specs.text_lines.specs.Fields.{IsVisible}
use Rattle.batch_runs.specs.text_lines.proofs.Visible.{known, visible_law}
use Rattle.batch_runs.specs.request_text.proofs.Words.{fields_visible}
use Rattle.entry_reading.specs.Shown.{shown_act}
use Rattle.entry_reading.proofs.Replies.{Digit, all_digits, word_at}

-- ---- requests and publications

-- the act publishes this, or it can be asked for
record Publishes (a : Act) : Type 0 where
  round : ℕ
  outcome : OutcomeView
  is : a ≡ act.Publish round outcome

publishes_or : (a : Act) → (is_publication a ≡ false) ⊎ Publishes a
publishes_or (act.Publish round outcome) = inr (record { round = round; outcome = outcome; is = refl })
publishes_or a = inl refl

request_so : (a : Act) → is_valid a ≡ true → is_publication a ≡ false → is_request a ≡ true
request_so (act.Publish round outcome) h p = absurd (true≢false p)
request_so a h p = h

shown_so : (a : Act) → is_publication a ≡ false → shown_act a ≡ a
shown_so (act.Publish round outcome) p = absurd (true≢false p)
shown_so a p = refl

other_verb : (a : Act) → is_publication a ≡ false → word_at 0 (act_fields a) ≡ codes "PUBLISH" → ⊥
other_verb (act.Publish round outcome) p e = true≢false p
other_verb a p e = true≢false (sym (ap (λ (w : List ℕ). bytes_eq w (codes "PUBLISH")) e))

round_short : (round : ℕ) (outcome : OutcomeView) → is_valid (act.Publish round outcome) ≡ true → round < 2 ^ 64
round_short round outcome h =
    let p = and_parts (is_round round) (is_outcome outcome) h in
    omega (arith, ltb-true round (2 ^ 32) (and_parts (nat_le 1 round) (nat_lt round (2 ^ 32)) p.0).1)

-- acts with the same fields show the same
pub same_act : (a b : Act) → is_valid a ≡ true → is_valid b ≡ true → act_fields a ≡ act_fields b → shown_act a ≡ shown_act b
same_act a b h k e = ⊎_elim
    (λ p. ⊎_elim
    (λ q. shown_so a p ∙ act_texts_law a b (request_so a h p) (request_so b k q) e ∙ sym (shown_so b q))
    (λ q. absurd (other_verb a p (ap (word_at 0) (e ∙ ap act_fields q.is))))
    (publishes_or b))
    (λ p. ⊎_elim
    (λ q. absurd (other_verb b q (ap (word_at 0) (sym e ∙ ap act_fields p.is))))
    (λ q.
    let words : act_fields (act.Publish p.round p.outcome) ≡ act_fields (act.Publish q.round q.outcome) = sym (ap act_fields p.is) ∙ e ∙ ap act_fields q.is in
    let rounds : p.round ≡ q.round =
    spelling_law.whole p.round q.round (round_short p.round p.outcome (sym (ap is_valid p.is) ∙ h)) (round_short q.round q.outcome (sym (ap is_valid q.is) ∙ k)) (ap (word_at 1) words) in
    ap shown_act p.is ∙ ap (λ (n : ℕ). act.Publish n (record { discharges = []; prices = [] })) rounds ∙ sym (ap shown_act q.is))
    (publishes_or b))
    (publishes_or a)

publication_visible : (round : ℕ) (outcome : OutcomeView) → is_valid (act.Publish round outcome) ≡ true → AllByRecursion IsVisible (act_fields (act.Publish round outcome))
publication_visible round outcome h = (known (codes "PUBLISH") refl, (visible_law.whole round (round_short round outcome h), tt))

pub act_visible : (a : Act) → is_valid a ≡ true → AllByRecursion IsVisible (act_fields a)
act_visible (act.Publish round outcome) h = publication_visible round outcome h
act_visible a h = fields_visible visible_law a h

-- ---- no field of an act is the sign between it and its reply

abbrev pub IsNoSign : List ℕ → Type 0
IsNoSign f = f ≡ codes "=" → ⊥

name_no_sign : (f : List ℕ) → is_name f ≡ true → IsNoSign f
name_no_sign f h e = true≢false (sym h ∙ ap is_name e)

cents_no_sign : (n : ℕ) → IsNoSign (cents_text n)
cents_no_sign n e =
    let whole : decimal (n / 100) ++ (46 ∷ (48 + n % 100 / 10) ∷ (48 + n % 10) ∷ []) ≡ codes "=" = sym (append_assoc (decimal (n / 100)) (46 ∷ []) ((48 + n % 100 / 10) ∷ (48 + n % 10) ∷ [])) ∙ e in
    let long : length (decimal (n / 100) ++ (46 ∷ (48 + n % 100 / 10) ∷ (48 + n % 10) ∷ [])) ≡ 1 = ap length whole in
    omega (arith, long, length-append (decimal (n / 100)) (46 ∷ (48 + n % 100 / 10) ∷ (48 + n % 10) ∷ []))

day_no_sign : (n : ℕ) → IsNoSign (day_text n)
day_no_sign n e = let long : length (day_text n) ≡ 1 = ap length e in cc long

kind_no_sign : (kind : Kind) → IsNoSign (kind_text kind)
kind_no_sign Plain e = cc e
kind_no_sign Funded e = cc e

digits_no_sign : (ds : List ℕ) → All Digit ds → IsNoSign ds
digits_no_sign [] h e = cc e
digits_no_sign (d ∷ ds) h e = let is : d ≡ 61 = ap (λ (t : List ℕ). get_or t 0 0) e in omega (arith, All-head Digit d ds h, is)

key_no_sign : (key : Key) → is_key key ≡ true → IsNoSign key.creditor × IsNoSign key.invoice
key_no_sign key h =
    let k = and_parts (is_name key.creditor) (is_name key.invoice) h in
    (name_no_sign key.creditor k.0, name_no_sign key.invoice k.1)

agreed_no_sign : (agreed : Option ℕ) → AllByRecursion IsNoSign (agreed_fields agreed)
agreed_no_sign None = tt
agreed_no_sign (Some cents) = (cents_no_sign cents, tt)

pub act_no_sign : (a : Act) → is_valid a ≡ true → AllByRecursion IsNoSign (act_fields a)
act_no_sign (act.Firm firm) h = (λ e. cc e, (name_no_sign firm h, tt))
act_no_sign (act.File key debtor amount due) h =
    let p = and_parts (is_key key && is_name debtor && is_claim_amount amount) (is_day due) h in
    let q = and_parts (is_key key && is_name debtor) (is_claim_amount amount) p.0 in
    let r = and_parts (is_key key) (is_name debtor) q.0 in
    (λ e. cc e, ((key_no_sign key r.0).0, ((key_no_sign key r.0).1, (name_no_sign debtor r.1, (cents_no_sign amount, (day_no_sign due, tt))))))
act_no_sign (act.Confirm key debtor agreed) h =
    let p = and_parts (is_key key && is_name debtor) (is_agreed agreed) h in
    let r = and_parts (is_key key) (is_name debtor) p.0 in
    (λ e. cc e, ((key_no_sign key r.0).0, ((key_no_sign key r.0).1, (name_no_sign debtor r.1, agreed_no_sign agreed))))
act_no_sign (act.Dispute key debtor) h =
    let r = and_parts (is_key key) (is_name debtor) h in
    (λ e. cc e, ((key_no_sign key r.0).0, ((key_no_sign key r.0).1, (name_no_sign debtor r.1, tt))))
act_no_sign (act.Withdraw key) h = (λ e. cc e, ((key_no_sign key h).0, ((key_no_sign key h).1, tt)))
act_no_sign (act.Receive key amount) h =
    let r = and_parts (is_key key) (is_claim_amount amount) h in
    (λ e. cc e, ((key_no_sign key r.0).0, ((key_no_sign key r.0).1, (cents_no_sign amount, tt))))
act_no_sign (act.Fund firm amount) h =
    let r = and_parts (is_name firm) (is_claim_amount amount) h in
    (λ e. cc e, (name_no_sign firm r.0, (cents_no_sign amount, tt)))
act_no_sign (act.Draw firm amount) h =
    let r = and_parts (is_name firm) (is_claim_amount amount) h in
    (λ e. cc e, (name_no_sign firm r.0, (cents_no_sign amount, tt)))
act_no_sign (act.Limit firm credit ceiling) h =
    let r = and_parts (is_name firm && is_amount credit) (is_amount ceiling) h in
    let q = and_parts (is_name firm) (is_amount credit) r.0 in
    (λ e. cc e, (name_no_sign firm q.0, (cents_no_sign credit, (cents_no_sign ceiling, tt))))
act_no_sign (act.Offer firm amount) h =
    let r = and_parts (is_name firm) (is_amount amount) h in
    (λ e. cc e, (name_no_sign firm r.0, (cents_no_sign amount, tt)))
act_no_sign (act.Position firm) h = (λ e. cc e, (name_no_sign firm h, tt))
act_no_sign (act.Close kind horizon) h = (λ e. cc e, (kind_no_sign kind, (day_no_sign horizon, tt)))
act_no_sign (act.Abandon) h = (λ e. cc e, tt)
act_no_sign (act.Publish round outcome) h = (λ e. cc e, (digits_no_sign (decimal round) (all_digits round), tt))

-- ---- no verb begins as a pool does

pub no_pool : (a : Act) (rest : List (List ℕ)) (pool : List ℕ) → word_at 0 (act_fields a ++ rest) ≡ codes "@" ++ pool → ⊥
no_pool (act.Firm firm) rest pool e = true≢false (sym (ap (λ (t : List ℕ). eqb (get_or t 0 0) 64) e))
no_pool (act.File key debtor amount due) rest pool e = true≢false (sym (ap (λ (t : List ℕ). eqb (get_or t 0 0) 64) e))
no_pool (act.Confirm key debtor agreed) rest pool e = true≢false (sym (ap (λ (t : List ℕ). eqb (get_or t 0 0) 64) e))
no_pool (act.Dispute key debtor) rest pool e = true≢false (sym (ap (λ (t : List ℕ). eqb (get_or t 0 0) 64) e))
no_pool (act.Withdraw key) rest pool e = true≢false (sym (ap (λ (t : List ℕ). eqb (get_or t 0 0) 64) e))
no_pool (act.Receive key amount) rest pool e = true≢false (sym (ap (λ (t : List ℕ). eqb (get_or t 0 0) 64) e))
no_pool (act.Fund firm amount) rest pool e = true≢false (sym (ap (λ (t : List ℕ). eqb (get_or t 0 0) 64) e))
no_pool (act.Draw firm amount) rest pool e = true≢false (sym (ap (λ (t : List ℕ). eqb (get_or t 0 0) 64) e))
no_pool (act.Limit firm credit ceiling) rest pool e = true≢false (sym (ap (λ (t : List ℕ). eqb (get_or t 0 0) 64) e))
no_pool (act.Offer firm amount) rest pool e = true≢false (sym (ap (λ (t : List ℕ). eqb (get_or t 0 0) 64) e))
no_pool (act.Position firm) rest pool e = true≢false (sym (ap (λ (t : List ℕ). eqb (get_or t 0 0) 64) e))
no_pool (act.Close kind horizon) rest pool e = true≢false (sym (ap (λ (t : List ℕ). eqb (get_or t 0 0) 64) e))
no_pool (act.Abandon) rest pool e = true≢false (sym (ap (λ (t : List ℕ). eqb (get_or t 0 0) 64) e))
no_pool (act.Publish round outcome) rest pool e = true≢false (sym (ap (λ (t : List ℕ). eqb (get_or t 0 0) 64) e))
