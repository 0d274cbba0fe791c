-- Invoices have one reading, and what is refused has none.
use Rattle.std.proofs.Common.{◌≡◌, ◌∙◌, ℕ, zero, suc, true, List, [], ◌∷◌, ◌++◌, length, map, drop, get_or, Some, None, refl, sym, ap, ap₂, subst, arith}
use Rattle.std.specs.Prelude.{◌&&◌, codes, All}
use Rattle.std.proofs.lemmas.Bool.{and_parts}
use Rattle.std.proofs.lemmas.List.Elements.{All-nil, All-cons}
use Rattle.request_text.proofs.ReadBack.{read_back_law}
use Rattle.csv.specs.Machine.{Read, next_record}
use Rattle.csv.specs.Reading.{Reached, default_config, strip_bom}
use Rattle.csv.specs.declared.parser.State.{State}
use Rattle.csv.specs.declared.parser.State.TheVariants as st
use Rattle.setoff_model.specs.Names.{is_name}
use Rattle.setoff_model.specs.Texts.{cents_text}
use Rattle.claim_book.specs.claim_history.specs.Days.{day_text}
use Rattle.claim_book.specs.claim_history.specs.Acts.{is_key, is_claim_amount, is_day, is_request, act_fields}
use Rattle.claim_book.specs.claim_history.specs.declared.act.Act.{Act}
use Rattle.claim_book.specs.claim_history.specs.declared.act.Act.TheVariants as act
use Rattle.claim_book.specs.claim_history.proofs.Shapes.{act_texts_law}
use Rattle.firm_notices.specs.declared.error.RowCause.{RowCause}
use Rattle.firm_notices.specs.declared.error.RowCause.TheVariants as cause
use Rattle.firm_notices.specs.Invoices.{invoice_names, IsInvoice, AreInvoices, IsInvoiceText, HasCause, IsBadInvoice, IsFirstBadRow, OneReadingLaw, FiledLaw, asked_of}
use Rattle.request_text.specs.Grammar.{CanBeAsked}
use Rattle.request_text.specs.Lanes.{IsLane}
use Rattle.request_text.specs.Causes.{forms_of, IsFirstBadField}
use Rattle.request_text.specs.declared.verb.Verb.TheVariants as verbs

-- ---- rows

-- what the first rows of a text have in common with all its rows: these begin with them
begins : (s : State) (xs : List ℕ) (all first : List (List (List ℕ))) (s2 s3 : State) (ys zs : List ℕ) → Reached default_config s xs all s2 ys → next_record default_config s2 [] [] ys ≡ None
    → Reached default_config s xs first s3 zs → (more : List (List (List ℕ))) × (all ≡ first ++ more)
unfolding Reached
begins s xs all [] s2 s3 ys zs h e g = (all, refl)
begins s xs [] (f ∷ first) s2 s3 ys zs h e (q, next, is, more) =
    let none : next_record default_config s [] [] xs ≡ None = rw (h.0, h.1) e in
    let clash : None ≡ Some q = sym none ∙ next in cc
begins s xs (a ∷ all) (f ∷ first) s2 s3 ys zs (p, next_p, is_p, more_p) e (q, next_q, is_q, more_q) =
    let same : Some p ≡ Some q = sym next_p ∙ next_q in
    let read : p ≡ q = cc in
    let rest = begins p.1 p.2 all first s2 s3 ys zs more_p e (subst (λ (r : Read). Reached default_config r.1 r.2 first s3 zs) (sym read) more_q) in
    (rest.0, ap₂ (λ (x : List (List ℕ)) (xs : List (List (List ℕ))). x ∷ xs) (is_p ∙ ap (λ (r : Read). r.0) read ∙ sym is_q) rest.1)

-- a text has one list of rows
same_rows : (s : State) (xs : List ℕ) (a b : List (List (List ℕ))) (s2 s3 : State) (ys zs : List ℕ) → Reached default_config s xs a s2 ys → next_record default_config s2 [] [] ys ≡ None
    → Reached default_config s xs b s3 zs → next_record default_config s3 [] [] zs ≡ None → a ≡ b
unfolding Reached
same_rows s xs [] [] s2 s3 ys zs h e g n = refl
same_rows s xs [] (y ∷ b) s2 s3 ys zs h e (q, next, is, more) n =
    let none : next_record default_config s [] [] xs ≡ None = rw (h.0, h.1) e in
    let clash : None ≡ Some q = sym none ∙ next in cc
same_rows s xs (x ∷ a) [] s2 s3 ys zs (p, next, is, more) e g n =
    let none : next_record default_config s [] [] xs ≡ None = rw (g.0, g.1) n in
    let clash : None ≡ Some p = sym none ∙ next in cc
same_rows s xs (x ∷ a) (y ∷ b) s2 s3 ys zs (p, next_p, is_p, more_p) e (q, next_q, is_q, more_q) n =
    let same : Some p ≡ Some q = sym next_p ∙ next_q in
    let read : p ≡ q = cc in
    let rest = same_rows p.1 p.2 a b s2 s3 ys zs more_p e (subst (λ (r : Read). Reached default_config r.1 r.2 b s3 zs) (sym read) more_q) n in
    ap₂ (λ (z : List (List ℕ)) (zs : List (List (List ℕ))). z ∷ zs) (is_p ∙ ap (λ (r : Read). r.0) read ∙ sym is_q) rest

-- ---- invoices

abbrev fields_after : List (List ℕ) → List (List ℕ)
fields_after fields = drop 1 fields

one_filing : (fields : List (List ℕ)) (a b : Act) → IsInvoice fields a → IsInvoice fields b → a ≡ b
one_filing fields a b p q = act_texts_law a b p.0 q.0 (sym p.1 ∙ q.1)

one_list : (rows : List (List (List ℕ))) (a b : List Act) → AreInvoices rows a → AreInvoices rows b → a ≡ b
one_list [] [] [] p q = refl
one_list [] [] (y ∷ b) p q = absurd q
one_list [] (x ∷ a) b p q = absurd p
one_list (r ∷ rows) [] b p q = absurd p
one_list (r ∷ rows) (x ∷ a) [] p q = absurd q
one_list (r ∷ rows) (x ∷ a) (y ∷ b) p q = ap₂ (λ (z : Act) (zs : List Act). z ∷ zs) (one_filing r x y p.0 q.0) (one_list rows a b p.1 q.1)

-- each row of invoices is that of a FILE
each_filed : (before : List (List (List ℕ))) (fields : List (List ℕ)) (more : List (List (List ℕ))) (filings : List Act) → AreInvoices ((before ++ fields ∷ []) ++ more) filings
    → (filing : Act) × IsInvoice fields filing
each_filed [] fields more [] h = absurd h
each_filed [] fields more (f ∷ filings) h = (f, h.0)
each_filed (b ∷ before) fields more [] h = absurd h
each_filed (b ∷ before) fields more (f ∷ filings) h = each_filed before fields more filings h.1

-- ---- causes

no_bad : (creditor invoice debtor : List ℕ) (amount due : ℕ) → is_name creditor ≡ true → is_name invoice ≡ true → is_name debtor ≡ true → is_claim_amount amount ≡ true → is_day due ≡ true
    → (place : ℕ) → IsFirstBadField (forms_of verbs.File) (creditor ∷ invoice ∷ debtor ∷ cents_text amount ∷ day_text due ∷ []) place → ⊥
no_bad creditor invoice debtor amount due c i d a t zero h = h
no_bad creditor invoice debtor amount due c i d a t (suc zero) h = h c
no_bad creditor invoice debtor amount due c i d a t (suc (suc zero)) h = h.1 i
no_bad creditor invoice debtor amount due c i d a t (suc (suc (suc zero))) h = h.1.1 d
no_bad creditor invoice debtor amount due c i d a t (suc (suc (suc (suc zero)))) h = h.1.1.1 (amount, (a, refl))
no_bad creditor invoice debtor amount due c i d a t (suc (suc (suc (suc (suc zero))))) h = h.1.1.1.1 (due, (t, refl))
no_bad creditor invoice debtor amount due c i d a t (suc (suc (suc (suc (suc (suc place)))))) h = h.1.1.1.1.1

no_cause : (fields : List (List ℕ)) (why : RowCause) (creditor invoice debtor : List ℕ) (amount due : ℕ) → fields ≡ creditor ∷ invoice ∷ debtor ∷ cents_text amount ∷ day_text due ∷ []
    → is_name creditor ≡ true → is_name invoice ≡ true → is_name debtor ≡ true → is_claim_amount amount ≡ true → is_day due ≡ true → HasCause fields why → ⊥
no_cause fields cause.Header creditor invoice debtor amount due e c i d a t h = h
no_cause fields cause.Fields creditor invoice debtor amount due e c i d a t h = h (ap length e)
no_cause fields (cause.Field place) creditor invoice debtor amount due e c i d a t h =
    no_bad creditor invoice debtor amount due c i d a t place (subst (λ fs. IsFirstBadField (forms_of verbs.File) fs place) e h.1)

-- a letter of the verb, of which the fields of two acts begin with one
letter : (place : ℕ) (a b : List (List ℕ)) → a ≡ b → get_or (get_or a 0 []) place 0 ≡ get_or (get_or b 0 []) place 0
letter place a b e = ap (λ (fs : List (List ℕ)). get_or (get_or fs 0 []) place 0) e

-- an invoice has no cause
is_good : (fields : List (List ℕ)) (filing : Act) (why : RowCause) → is_request filing ≡ true → codes "FILE" ∷ fields ≡ act_fields filing → HasCause fields why → ⊥
is_good fields (act.File key debtor amount due) why valid e bad =
    let days = and_parts (is_key key && is_name debtor && is_claim_amount amount) (is_day due) valid in
    let amounts = and_parts (is_key key && is_name debtor) (is_claim_amount amount) days.0 in
    let debtors = and_parts (is_key key) (is_name debtor) amounts.0 in
    let names = and_parts (is_name key.creditor) (is_name key.invoice) debtors.0 in
    no_cause fields why key.creditor key.invoice debtor amount due (ap fields_after e) names.0 names.1 debtors.1 amounts.1 days.1 bad
is_good fields (act.Firm firm) why valid e _ = let clash : 76 ≡ 82 = letter 2 _ _ e in absurd (omega (arith, clash))
is_good fields (act.Confirm key debtor agreed) why valid e _ = let clash : 70 ≡ 67 = letter 0 _ _ e in absurd (omega (arith, clash))
is_good fields (act.Dispute key debtor) why valid e _ = let clash : 70 ≡ 68 = letter 0 _ _ e in absurd (omega (arith, clash))
is_good fields (act.Withdraw key) why valid e _ = let clash : 70 ≡ 87 = letter 0 _ _ e in absurd (omega (arith, clash))
is_good fields (act.Receive key amount) why valid e _ = let clash : 70 ≡ 82 = letter 0 _ _ e in absurd (omega (arith, clash))
is_good fields (act.Fund firm amount) why valid e _ = let clash : 73 ≡ 85 = letter 1 _ _ e in absurd (omega (arith, clash))
is_good fields (act.Draw firm amount) why valid e _ = let clash : 70 ≡ 68 = letter 0 _ _ e in absurd (omega (arith, clash))
is_good fields (act.Limit firm credit ceiling) why valid e _ = let clash : 70 ≡ 76 = letter 0 _ _ e in absurd (omega (arith, clash))
is_good fields (act.Offer firm amount) why valid e _ = let clash : 70 ≡ 79 = letter 0 _ _ e in absurd (omega (arith, clash))
is_good fields (act.Position firm) why valid e _ = let clash : 70 ≡ 80 = letter 0 _ _ e in absurd (omega (arith, clash))
is_good fields (act.Close kind horizon) why valid e _ = let clash : 70 ≡ 67 = letter 0 _ _ e in absurd (omega (arith, clash))
is_good fields act.Abandon why valid e _ = let clash : 70 ≡ 65 = letter 0 _ _ e in absurd (omega (arith, clash))
is_good fields (act.Publish round outcome) why valid e _ = let clash : 70 ≡ 80 = letter 0 _ _ e in absurd (omega (arith, clash))

-- ---- texts

only : (bytes : List ℕ) (a b : List Act) → IsInvoiceText bytes a → IsInvoiceText bytes b → a ≡ b
only bytes a b (rows, (s, ys, reached, ended), are) (rows2, (s2, ys2, reached2, ended2), are2) =
    let same : invoice_names ∷ rows ≡ invoice_names ∷ rows2 = same_rows st.StartRecord (strip_bom bytes) (invoice_names ∷ rows) (invoice_names ∷ rows2) s s2 ys ys2 reached ended reached2 ended2 in
    one_list rows a b are (subst (λ (rs : List (List (List ℕ))). AreInvoices rs b) (sym (ap (λ (rs : List (List (List ℕ))). drop 1 rs) same)) are2)

not_bad : (bytes : List ℕ) (filings : List Act) (row : ℕ) (why : RowCause) → IsInvoiceText bytes filings → IsBadInvoice bytes row why → ⊥
not_bad bytes filings row why (rows, (s, ys, reached, ended), are) bad =
    let (s2, zs, first) = bad.cut in
    let common = begins st.StartRecord (strip_bom bytes) (invoice_names ∷ rows) (invoice_names ∷ bad.before ++ bad.fields ∷ []) s s2 ys zs reached ended first in
    let filed = each_filed bad.before bad.fields common.0 filings (subst (λ (rs : List (List (List ℕ))). AreInvoices rs filings) (ap (λ (rs : List (List (List ℕ))). drop 1 rs) common.1) are) in
    is_good bad.fields filed.0 why filed.1.0 filed.1.1 bad.bad

refused : (bytes : List ℕ) (filings : List Act) (row : ℕ) (why : RowCause) → IsInvoiceText bytes filings → IsFirstBadRow bytes row why → ⊥
unfolding Reached
refused bytes filings row cause.Header (rows, (s, ys, (p, next, is, more), ended), are) bad = bad.1 (p.1, p.2, (p, next, is, (refl, refl)))
refused bytes filings row cause.Fields is bad = not_bad bytes filings row cause.Fields is bad
refused bytes filings row (cause.Field place) is bad = not_bad bytes filings row (cause.Field place) is bad

pub one_reading_law : OneReadingLaw
one_reading_law = record { only = only; refused = refused }

-- ---- lines

each_asked : (lane : ℕ) (rows : List (List (List ℕ))) (filings : List Act) → IsLane lane → AreInvoices rows filings → All CanBeAsked (map (asked_of lane) filings)
each_asked lane [] [] by h = All-nil CanBeAsked
each_asked lane [] (f ∷ filings) by h = absurd h
each_asked lane (r ∷ rows) [] by h = absurd h
each_asked lane (r ∷ rows) (f ∷ filings) by h = All-cons CanBeAsked (asked_of lane f) (map (asked_of lane) filings) (record { by = by; named = refl; valid = h.0.0 }) (each_asked lane rows filings by h.1)

pub filed_law : FiledLaw
filed_law lane bytes filings by (rows, all, are) =
    let batch = map (asked_of lane) filings in
    read_back_law.written batch [] (All-cons (All CanBeAsked) batch [] (each_asked lane rows filings by are) (All-nil (All CanBeAsked)))
