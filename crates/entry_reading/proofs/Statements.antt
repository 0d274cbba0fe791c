-- The statement of a known cut fixes its outcome.
use Rattle.std.specs.Prelude.{codes, unsigned_abs, ℤ}
use Rattle.std.specs.List.{join_with_byte, slice_split}
use Rattle.std.proofs.Common.{◌≡◌, ◌∙◌, ℕ, ◌<◌, ◌^◌, List, [], ◌∷◌, ◌++◌, length, drop, All, refl, sym, ap, ap₂, append_assoc, arith}
use Rattle.std.proofs.lemmas.List.{append_cancel_left}
use Rattle.std.proofs.lemmas.List.Elements.{All-head, All-tail}
use Rattle.std.proofs.lemmas.List.Splits.{join_with_byte-slice_split, slice_split_at}
use Rattle.batch_runs.specs.setoff_model.specs.declared.limits.TheConstants.{SUM_LIMIT}
use Rattle.batch_runs.specs.setoff_model.specs.declared.cut.Party.{Party}
use Rattle.batch_runs.specs.setoff_model.specs.declared.cut.CutClaim.{CutClaim}
use Rattle.batch_runs.specs.setoff_model.specs.CutView.{CutView, OutcomeView}
use Rattle.batch_runs.specs.setoff_model.specs.Texts.{cents_text, integer_text}
use Rattle.batch_runs.specs.setoff_model.proofs.Spelling.{spelling_law}
use Rattle.batch_runs.specs.text_lines.specs.Fields.{line_of}
use Rattle.batch_runs.specs.text_lines.proofs.Cutting.{feed}
use Rattle.batch_runs.specs.text_lines.proofs.Visible.{visible_law}
use Rattle.batch_runs.specs.statement_text.specs.declared.line.Line.TheVariants as line
use Rattle.batch_runs.specs.statement_text.specs.Statements.{claim_line, claim_lines, firm_at, party_lines, statement_bytes}
use Rattle.batch_runs.specs.printed_text.specs.Printing.{IsPrintable, line_bytes, lines_bytes}
use Rattle.batch_runs.specs.printed_text.proofs.Printing.{discharge_each, discharges_fit, price_each, prices_fit, statement_of_lists}
use Rattle.entry_reading.proofs.Lines.{NoFeed, line_both, parts_at, word_no_feed}

-- ---- the last field of a line

-- a text up to a line feed, and what is behind it
pub cut_at_feed : (a b rest other : List ℕ) → All NoFeed a → All NoFeed b → a ++ 10 ∷ rest ≡ b ++ 10 ∷ other → (a ≡ b) × (rest ≡ other)
cut_at_feed a b rest other h k e =
    let cuts : a ∷ slice_split feed rest ≡ b ∷ slice_split feed other = sym (slice_split_at feed a 10 rest h refl) ∙ ap (slice_split feed) e ∙ slice_split_at feed b 10 other k refl in (
      ap (parts_at 0) cuts,
      sym (join_with_byte-slice_split 10 rest) ∙ ap (λ (parts : List (List ℕ)). join_with_byte 10 (drop 1 parts)) cuts ∙ join_with_byte-slice_split 10 other,
    )

abbrev ended : List ℕ → List ℕ → List ℕ
ended front last = (front ++ 32 ∷ last) ++ codes "\n"

ended_is : (front last rest : List ℕ) → ended front last ++ rest ≡ front ++ 32 ∷ (last ++ 10 ∷ rest)
ended_is front last rest = append_assoc (front ++ 32 ∷ last) (codes "\n") rest ∙ append_assoc front (32 ∷ last) (10 ∷ rest)

last_field : (front a b rest other : List ℕ) → All NoFeed a → All NoFeed b → ended front a ++ rest ≡ ended front b ++ other → (a ≡ b) × (rest ≡ other)
last_field front a b rest other h k e =
    let behind = append_cancel_left front (32 ∷ (a ++ 10 ∷ rest)) (32 ∷ (b ++ 10 ∷ other)) (sym (ended_is front a rest) ∙ e ∙ ended_is front b other) in
    cut_at_feed a b rest other h k (ap (drop 1) behind)

-- ---- the lines of parties

abbrev Priced : ℤ → Type 0
Priced p = unsigned_abs p < 10 ^ 9

abbrev party_front : Party → List (List ℕ)
party_front f = codes "PARTY" ∷ f.firm ∷ cents_text f.spend ∷ cents_text f.room ∷ []

party_is : (f : Party) (p : ℤ) (more rest : List ℕ) → (line_bytes (line.Party f p) ++ more) ++ rest ≡ ended (line_of (party_front f)) (integer_text p) ++ (more ++ rest)
party_is f p more rest =
    append_assoc (line_bytes (line.Party f p)) more rest
    ∙ ap (λ (t : List ℕ). (t ++ codes "\n") ++ (more ++ rest)) (line_both (codes "PARTY") (f.firm ∷ cents_text f.spend ∷ cents_text f.room ∷ []) (integer_text p) [])

parties_fix : (fs : List Party) (ps qs : List ℤ) → length ps ≡ length fs → length qs ≡ length fs → All Priced ps → All Priced qs → (rest other : List ℕ)
    → lines_bytes (party_lines fs ps) ++ rest ≡ lines_bytes (party_lines fs qs) ++ other → (ps ≡ qs) × (rest ≡ other)
parties_fix [] [] [] l m h k rest other e = (refl, e)
parties_fix [] (p ∷ ps) qs l m h k rest other e = absurd (omega (arith, l))
parties_fix [] [] (q ∷ qs) l m h k rest other e = absurd (omega (arith, m))
parties_fix (f ∷ fs) [] qs l m h k rest other e = absurd (omega (arith, l))
parties_fix (f ∷ fs) (p ∷ ps) [] l m h k rest other e = absurd (omega (arith, m))
parties_fix (f ∷ fs) (p ∷ ps) (q ∷ qs) l m h k rest other e =
    let more = lines_bytes (party_lines fs ps) in
    let next = lines_bytes (party_lines fs qs) in
    let here = last_field (line_of (party_front f)) (integer_text p) (integer_text q) (more ++ rest) (next ++ other)
    (word_no_feed (integer_text p) (visible_law.integers p (All-head Priced p ps h))) (word_no_feed (integer_text q) (visible_law.integers q (All-head Priced q qs k)))
    (sym (party_is f p more rest) ∙ e ∙ party_is f q next other) in
    let later = parties_fix fs ps qs (omega (arith, l)) (omega (arith, m)) (All-tail Priced p ps h) (All-tail Priced q qs k) rest other here.1 in
    (ap₂ (λ (x : ℤ) (xs : List ℤ). x ∷ xs) (spelling_law.prices p q (All-head Priced p ps h) (All-head Priced q qs k) here.0) later.0, later.1)

-- ---- the lines of claims

abbrev Summed : ℕ → Type 0
Summed d = d < SUM_LIMIT

abbrev claim_others : List Party → CutClaim → List (List ℕ)
claim_others parties c = c.key.creditor ∷ c.key.invoice ∷ firm_at parties c.debtor ∷ cents_text c.amount ∷ []

abbrev claim_front : List Party → CutClaim → List (List ℕ)
claim_front parties c = codes "CLAIM" ∷ claim_others parties c

claim_is : (parties : List Party) (c : CutClaim) (d : ℕ) (more rest : List ℕ) → (line_bytes (claim_line parties c d) ++ more) ++ rest ≡ ended (line_of (claim_front parties c)) (cents_text d) ++ (more ++ rest)
claim_is parties c d more rest =
    append_assoc (line_bytes (claim_line parties c d)) more rest
    ∙ ap (λ (t : List ℕ). (t ++ codes "\n") ++ (more ++ rest)) (line_both (codes "CLAIM") (claim_others parties c) (cents_text d) [])

claims_fix : (parties : List Party) (cs : List CutClaim) (ds es : List ℕ) → length ds ≡ length cs → length es ≡ length cs → All Summed ds → All Summed es → (rest other : List ℕ)
    → lines_bytes (claim_lines parties cs ds) ++ rest ≡ lines_bytes (claim_lines parties cs es) ++ other → (ds ≡ es) × (rest ≡ other)
claims_fix parties [] [] [] l m h k rest other e = (refl, e)
claims_fix parties [] (d ∷ ds) es l m h k rest other e = absurd (omega (arith, l))
claims_fix parties [] [] (x ∷ es) l m h k rest other e = absurd (omega (arith, m))
claims_fix parties (c ∷ cs) [] es l m h k rest other e = absurd (omega (arith, l))
claims_fix parties (c ∷ cs) (d ∷ ds) [] l m h k rest other e = absurd (omega (arith, m))
claims_fix parties (c ∷ cs) (d ∷ ds) (x ∷ es) l m h k rest other e =
    let more = lines_bytes (claim_lines parties cs ds) in
    let next = lines_bytes (claim_lines parties cs es) in
    let here = last_field (line_of (claim_front parties c)) (cents_text d) (cents_text x) (more ++ rest) (next ++ other)
    (word_no_feed (cents_text d) (visible_law.cents d (All-head Summed d ds h))) (word_no_feed (cents_text x) (visible_law.cents x (All-head Summed x es k)))
    (sym (claim_is parties c d more rest) ∙ e ∙ claim_is parties c x next other) in
    let later = claims_fix parties cs ds es (omega (arith, l)) (omega (arith, m)) (All-tail Summed d ds h) (All-tail Summed x es k) rest other here.1 in
    (ap₂ (λ (y : ℕ) (ys : List ℕ). y ∷ ys) (spelling_law.cents d x (All-head Summed d ds h) (All-head Summed x es k) here.0) later.0, later.1)

-- ---- the statement

four_parts : (h p c e rest : List ℕ) → (h ++ (p ++ (c ++ e))) ++ rest ≡ h ++ (p ++ (c ++ (e ++ rest)))
four_parts h p c e rest =
    append_assoc h (p ++ (c ++ e)) rest ∙ ap (λ (t : List ℕ). h ++ t) (append_assoc p (c ++ e) rest ∙ ap (λ (t : List ℕ). p ++ t) (append_assoc c e rest))

same_outcome : (o q : OutcomeView) → o.discharges ≡ q.discharges → o.prices ≡ q.prices → o ≡ q
same_outcome o q d p = λ i. record { discharges = d i; prices = p i }

module _ (cut : CutView) where
  abbrev head : List ℕ
  head = line_bytes (line.Head cut.round cut.kind)

  abbrev parties : OutcomeView → List ℕ
  parties o = lines_bytes (party_lines cut.parties o.prices)

  abbrev claims : OutcomeView → List ℕ
  claims o = lines_bytes (claim_lines cut.parties cut.claims o.discharges)

  parts_are : (o : OutcomeView) (rest : List ℕ) → statement_bytes cut o ++ rest ≡ head ++ (parties o ++ (claims o ++ (line_bytes line.End ++ rest)))
  parts_are o rest =
      ap (λ (t : List ℕ). t ++ rest) (statement_of_lists cut o cut.parties o.prices o.discharges refl refl refl)
      ∙ four_parts head (parties o) (claims o) (line_bytes line.End) rest

  pub statement_fixes : (o q : OutcomeView) (rest other : List ℕ) → IsPrintable cut o → IsPrintable cut q → statement_bytes cut o ++ rest ≡ statement_bytes cut q ++ other → (o ≡ q) × (rest ≡ other)
  statement_fixes o q rest other h k e =
      let end = line_bytes line.End in
      let behind = append_cancel_left head (parties o ++ (claims o ++ (end ++ rest))) (parties q ++ (claims q ++ (end ++ other))) (sym (parts_are o rest) ∙ e ∙ parts_are q other) in
      let first = parties_fix cut.parties o.prices q.prices (price_each cut o h) (price_each cut q k) (prices_fit cut o h) (prices_fit cut q k) (claims o ++ (end ++ rest)) (claims q ++ (end ++ other)) behind in
      let second = claims_fix cut.parties cut.claims o.discharges q.discharges (discharge_each cut o.discharges h.proved.lawful) (discharge_each cut q.discharges k.proved.lawful)
      (discharges_fit cut o.discharges h.well_formed h.proved.lawful) (discharges_fit cut q.discharges k.well_formed k.proved.lawful) (end ++ rest) (end ++ other) first.1 in
      (same_outcome o q second.0 first.0, append_cancel_left end rest other second.1)
