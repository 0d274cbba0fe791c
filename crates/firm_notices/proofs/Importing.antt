-- Invoices, read row by row.
use Rattle.std.proofs.Common.{◌≡◌, ◌∙◌, ℕ, ◌+◌, ◌≤◌, List, [], ◌∷◌, ◌++◌, length, map, Some, None, refl, sym, ap, subst, inl, inr, arith, length-append}
use Rattle.std.specs.Prelude.{Result, Ok, Err, IfErr, Vec}
use Rattle.std.specs.Result.{IsErrAnd}
use Rattle.std.specs.declared.alloc.Global.{Global}
use Rattle.std.specs.Borrow.{Bor}
use Rattle.std.proofs.lemmas.Bool.{cases_Bool}
use Rattle.std.proofs.lemmas.List.{append-nil, map-append}
use Rattle.std.proofs.lemmas.List.Concat.{flat_map-cons}
use Rattle.std.proofs.lemmas.Grind.{flat_map-append}
use Rattle.csv.specs.Machine.{Read, next_record}
use Rattle.csv.specs.Reading.{Reached, default_config, strip_bom, is_bom}
use Rattle.csv.specs.declared.parser.State.TheVariants as st
use Rattle.csv.specs.declared.reader.Reader.{Reader}
use Rattle.claim_book.specs.claim_history.specs.declared.act.Act.{Act}
use Rattle.claim_book.specs.claim_history.specs.Pools.{main_pool}
use Rattle.request_text.specs.Grammar.{Asked, request_line, batch_text}
use Rattle.firm_notices.specs.declared.error.RowCause.{RowCause}
use Rattle.firm_notices.specs.declared.error.RowCause.TheVariants as cause
use Rattle.firm_notices.specs.declared.error.ImportError.{ImportError}
use Rattle.firm_notices.specs.declared.error.ImportError.TheVariants as errors
use Rattle.firm_notices.specs.Rows.{AreRows, AreFirstRows, StandsAt}
use Rattle.firm_notices.specs.Invoices.{invoice_names, IsInvoice, AreInvoices, IsInvoiceText, asked_of, import_text, IsFiled, HasCause, IsBadInvoice, IsFirstBadRow, OnBadRow}
use Rattle.firm_notices.proofs.Reading.{taken}

-- ---- the names

-- a text without rows does not begin with this one
pub no_rows : (bytes : List ℕ) (row : List (List ℕ)) → AreRows bytes [] → AreFirstRows bytes (row ∷ []) → ⊥
unfolding Reached
no_rows bytes row (s, ys, reached, ended) (s2, rest, (p, next, is, more)) =
    let none : next_record default_config st.StartRecord [] [] (strip_bom bytes) ≡ None = rw (reached.0, reached.1) ended in
    let found : None ≡ Some p = sym none ∙ next in cc

-- a text has one first row
pub other_row : (bytes : List ℕ) (row other : List (List ℕ)) → (row ≡ other → ⊥) → AreFirstRows bytes (row ∷ []) → AreFirstRows bytes (other ∷ []) → ⊥
unfolding Reached
other_row bytes row other apart (s, rest, (p, next, is, more)) (s2, rest2, (q, next2, is2, more2)) =
    let same : Some p ≡ Some q = sym next ∙ next2 in
    let read : p ≡ q = cc in
    apart (is ∙ ap (λ (r : Read). r.0) read ∙ sym is2)

-- ---- the invoices

-- so far the names and the rows of some FILEs were read, and the text is the lines of these
pub record HasRead (bytes : List ℕ) (lane row : ℕ) (reader : Reader (Bor (List ℕ))) (text : List ℕ) : Type 0 where
  pub rows : List (List (List ℕ))
  pub filings : List Act
  pub stands : StandsAt reader bytes (invoice_names ∷ rows)
  pub spelled : AreInvoices rows filings
  pub written : text ≡ import_text lane filings
  pub number_is : row ≡ length rows + 1

invoices_more : (rows : List (List (List ℕ))) (filings : List Act) (fields : List (List ℕ)) (filing : Act) → AreInvoices rows filings → IsInvoice fields filing
    → AreInvoices (rows ++ fields ∷ []) (filings ++ filing ∷ [])
invoices_more [] [] fields filing h is = (is, tt)
invoices_more [] (f ∷ filings) fields filing h is = absurd h
invoices_more (r ∷ rows) [] fields filing h is = absurd h
invoices_more (r ∷ rows) (f ∷ filings) fields filing h is = (h.0, invoices_more rows filings fields filing h.1 is)

abbrev line : Asked → List ℕ
line asked = request_line asked.lane asked.pool asked.act

lines_more : (lane : ℕ) (filings : List Act) (filing : Act) → import_text lane (filings ++ filing ∷ []) ≡ import_text lane filings ++ request_line lane main_pool filing
lines_more lane filings filing =
    ap batch_text (map-append (asked_of lane) filings (filing ∷ []))
    ∙ flat_map-append line (map (asked_of lane) filings) (asked_of lane filing ∷ [])
    ∙ ap (λ (t : List ℕ). import_text lane filings ++ t) (flat_map-cons line (asked_of lane filing) [] ∙ append-nil (request_line lane main_pool filing))

count_more : (rows : List (List (List ℕ))) (fields : List (List ℕ)) → length (rows ++ fields ∷ []) ≡ length rows + 1
count_more rows fields = length-append rows (fields ∷ [])

-- one more invoice
pub reads_on : (bytes : List ℕ) (lane row : ℕ) (reader reader2 : Reader (Bor (List ℕ))) (text text2 : List ℕ) (fields : List (List ℕ)) → (h : HasRead bytes lane row reader text)
    → StandsAt reader2 bytes (invoice_names ∷ h.rows ++ fields ∷ []) → IsFiled lane fields text text2 → HasRead bytes lane (row + 1) reader2 text2
reads_on bytes lane row reader reader2 text text2 fields h stands (filing, is, grown) = record {
  rows = h.rows ++ fields ∷ [];
  filings = h.filings ++ filing ∷ [];
  stands = stands;
  spelled = invoices_more h.rows h.filings fields filing h.spelled is;
  written = grown ∙ ap (λ (t : List ℕ). t ++ request_line lane main_pool filing) h.written ∙ sym (lines_more lane h.filings filing);
  number_is = ap (λ (n : ℕ). n + 1) h.number_is ∙ ap (λ (n : ℕ). n + 1) (sym (count_more h.rows fields));
}

-- no more row
pub reads_all : (bytes : List ℕ) (lane row : ℕ) (reader : Reader (Bor (List ℕ))) (text : List ℕ) → (h : HasRead bytes lane row reader text) → AreRows bytes (invoice_names ∷ h.rows)
    → (filings : List Act) × IsInvoiceText bytes filings × (text ≡ import_text lane filings)
reads_all bytes lane row reader text h all = (h.filings, (h.rows, all, h.spelled), h.written)

is_below : (bytes : List ℕ) (row : ℕ) (why : RowCause) → IsBadInvoice bytes row why → IsFirstBadRow bytes row why
is_below bytes row cause.Header bad = absurd bad.bad
is_below bytes row cause.Fields bad = bad
is_below bytes row (cause.Field place) bad = bad

-- one more row that is no invoice
pub reads_bad : (bytes : List ℕ) (lane row number : ℕ) (reader reader2 : Reader (Bor (List ℕ))) (text : List ℕ) (fields : List (List ℕ)) (why : RowCause) → (h : HasRead bytes lane row reader text)
    → StandsAt reader2 bytes (invoice_names ∷ h.rows ++ fields ∷ []) → number ≡ row + 1 → HasCause fields why → IsFirstBadRow bytes number why
reads_bad bytes lane row number reader reader2 text fields why h stands same bad = is_below bytes number why (record {
  before = h.rows;
  fields = fields;
  cut = (reader2.state, stands.rest, stands.given);
  number_is = same ∙ ap (λ (n : ℕ). n + 1) h.number_is ∙ omega arith;
  filings = h.filings;
  spelled = h.spelled;
  bad = bad;
})

stripped : (bytes : List ℕ) → length (strip_bom bytes) ≤ length bytes
unfolding strip_bom
stripped [] = omega arith
stripped (a ∷ []) = omega arith
stripped (a ∷ b ∷ []) = omega arith
stripped (a ∷ b ∷ c ∷ rest) = elim (cases_Bool (is_bom a b c)) [
  | inl mark ↦ rw mark (omega arith)
  | inr none ↦ rw none (omega arith)
]

-- the number of a row is not above that of the bytes
pub row_fits : (bytes : List ℕ) (lane row : ℕ) (reader reader2 : Reader (Bor (List ℕ))) (text : List ℕ) (fields : List (List ℕ)) → (h : HasRead bytes lane row reader text)
    → StandsAt reader2 bytes (invoice_names ∷ h.rows ++ fields ∷ []) → row + 1 ≤ length bytes
row_fits bytes lane row reader reader2 text fields h stands =
    let within = (taken st.StartRecord (strip_bom bytes) (invoice_names ∷ h.rows ++ fields ∷ []) reader2.state stands.rest stands.given refl).0 in
    let less = stripped bytes in
    let count = count_more h.rows fields in
    omega (arith, within, less, count, h.number_is)

-- ---- errors

-- what holds of each bad row holds of that of an error
pub bad_row : (A B : ℕ → RowCause → Type 0) (e : ImportError) → ((row : ℕ) (why : RowCause) → A row why → B row why) → OnBadRow A e → OnBadRow B e
bad_row A B errors.Memory f h = tt
bad_row A B (errors.BadRow row why) f h = f row why h

-- an error that is handed on
pub handed_on : (P : ImportError → Type 0) (result : Result (Vec ℕ Global) ImportError) (e : ImportError) → IsErrAnd result (λ x. x ≡ e) → P e → IfErr result P
handed_on P (Ok text) e is h = tt
handed_on P (Err x) e is h = subst P (sym is) h
